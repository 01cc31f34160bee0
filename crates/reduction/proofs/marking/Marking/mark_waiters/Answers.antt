-- From word to word, and in each from bit to bit.
use Rattle.std.proofs.Common.{ℕ, ◌≡◌, ◌<◌, List, sym, ap, subst, arith}
use Rattle.rows.specs.Waiting.{Waiting}
use Rattle.tables.specs.BitMatrix.{ShowsWaiters}
use Rattle.reduction.specs.Work.{SoundMarks}
use Rattle.reduction.proofs.Steps.{Lowering, lower_start, lower_same, lower_end, can_be_lowered, lower_next}
use Rattle.reduction.proofs.WordWalk.{left_from, left_in, all_are_left, none_is_left, word_is_left, word_is_through, lowest_is_left, lowest_is_taken, fewer_bits}
use Rattle.reduction.proofs.marking.Marking.mark_waiters.Goals as goal

pub loop-word-init : goal.loop-word-init
loop-word-init g c =
    let first = c.args.self.now in
    lower_same first c.args.job _ _ first (all_are_left first.rows c.args.job)
    (lower_start first c.args.job (subst SoundMarks c.self.view_is c.self.invariant.0) c.requires)

pub loop-rest-init : goal.loop-rest-init
loop-rest-init g c =
    let first = c.args.self.now in
    let shows = subst (λ (rows : List Waiting). ShowsWaiters rows c.args.job c.loop-word.word c.waiters_in_word-rest.result) (ap (λ w. w.rows) c.self.view_is) c.waiters_in_word-rest.ensures in
    lower_same first c.args.job _ _ c.loop-word.self (word_is_left first.rows c.args.job c.loop-word.word c.waiters_in_word-rest.result shows) c.loop-word.invariant

pub lower-requires : goal.lower-requires
lower-requires g c =
    let first = c.args.self.now in
    let walk = c.loop-rest in
    let word = c.loop-word.word in
    let some : 0 < walk.rest = omega (arith, c.loop-rest-test.true) in
    can_be_lowered first c.args.job _ (left_in first.rows c.args.job word walk.rest) _ walk.self walk.invariant
    (lowest_is_left first.rows c.args.job word walk.rest some (omega arith))
    (lowest_is_taken first.rows c.args.job word walk.rest some (omega arith))

pub loop-rest-smaller : goal.loop-rest-smaller
loop-rest-smaller g c = fewer_bits c.args.self.now.rows c.args.job c.loop-word.word c.loop-rest.rest (omega (arith, c.loop-rest-test.true)) (omega arith)

pub loop-rest-preserved : goal.loop-rest-preserved
loop-rest-preserved g c =
    let first = c.args.self.now in
    let walk = c.loop-rest in
    let word = c.loop-word.word in
    let some : 0 < walk.rest = omega (arith, c.loop-rest-test.true) in
    subst (Lowering first c.args.job _) (sym c.lower.ensures)
    (lower_next first c.args.job _ (left_in first.rows c.args.job word walk.rest) _ walk.self walk.invariant
    (lowest_is_left first.rows c.args.job word walk.rest some (omega arith))
    (lowest_is_taken first.rows c.args.job word walk.rest some (omega arith)))

pub loop-word-preserved : goal.loop-word-preserved
loop-word-preserved g c =
    let first = c.args.self.now in
    let walk = c.loop-rest in
    let through = subst (λ (rest : ℕ). Lowering first c.args.job (left_in first.rows c.args.job c.loop-word.word rest) walk.self) c.loop-rest-test.false walk.invariant in
    lower_same first c.args.job _ _ walk.self (word_is_through first.rows c.args.job c.loop-word.word) through

pub returns-clause-saturated : goal.returns-clause-saturated
returns-clause-saturated g c =
    let first = c.args.self.now in
    let sound = subst SoundMarks c.self.view_is c.self.invariant.0 in
    let end : c.loop-word.word ≡ 4 = omega (arith, c.loop-word-test.false, c.loop-word.auto.word-end) in
    let last = subst (λ (word : ℕ). Lowering first c.args.job (left_from first.rows c.args.job word) c.loop-word.self) end c.loop-word.invariant in
    lower_end first c.args.job _ c.loop-word.self (none_is_left first.rows c.args.job (omega (arith, sound.len, sound.size))) last
