use Rattle.std.proofs.Common.{◌≡◌, ℕ, List, length, take, replicate, sym, ap, ◌∙◌, subst, arith}
use Rattle.std.proofs.lemmas.List.{length-take, length-replicate, take_all}
use Rattle.rows.specs.Waiting.{Waiting}
use Rattle.reduction.specs.Marks.{stuck}
use Rattle.reduction.specs.Work.{IsDecided}
use Rattle.tables.proofs.Grants.{loosened_can_be_freed}
use Rattle.reduction.proofs.Outcome.{reduced}
use Rattle.reduction.proofs.Steps.{all_stuck}
use Rattle.reduction.proofs.passes.reduce.Goals as goal

-- Where no job is active all are stuck.
pub returns-then-none_is_active-clause-after : goal.returns-then-none_is_active-clause-after
returns-then-none_is_active-clause-after g c =
    let rows = g.T.Table.rows c.args.table.now in
    let n = length rows in
    let lent : length (take c.jobs-jobs.result c.args.bytes.now) ≡ n = let enough = c.if-bytes-jobs.false in simp length-take (omega (arith, c.jobs-jobs.ensures.value)) in
    let filled : c.fill.new.self ≡ take n (replicate n stuck) = c.fill.ensures.after (λ y e. e) ∙ (ap (λ (k : ℕ). replicate k stuck) lent ∙ sym (take_all n (replicate n stuck) (omega (arith, length-replicate n stuck)))) in
    rw (filled, c.jobs-jobs.ensures.value) (reduced rows (replicate n stuck) c.args.bytes.now c.jobs-jobs.ensures.lawful (all_stuck rows (c.none_is_active.ensures c.if-none_is_active.true)) loosened_can_be_freed)

pub returns-clause-after : goal.returns-clause-after
returns-clause-after g c =
    let rows = g.T.Table.rows c.args.table.now in
    let bytes = c.args.bytes.now in
    let marks = c.marks_of-marks.result in
    rw (c.copy_from_slice.ensures.after, c.jobs-jobs.ensures.value) (reduced rows marks bytes c.jobs-jobs.ensures.lawful (subst (λ (rs : List Waiting). IsDecided rs marks) c.new.ensures.rows c.marks_of-marks.ensures) loosened_can_be_freed)
