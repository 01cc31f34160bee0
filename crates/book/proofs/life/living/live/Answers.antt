use Rattle.std.proofs.Common.{◌≡◌, ◌<◌, length, refl, ◌∙◌, ap, arith}
use Rattle.std.proofs.lemmas.List.{take_more, take_more_set, take_all, take_rest, length-set, drop-set-lt}
use Rattle.book.specs.declared.life.call.Call.TheVariants.{Open}
use Rattle.histories.specs.Machines.{book_machine, view_of}
use Rattle.book.proofs.LifeInvariant.{alive_first, alive_next, alive_lived, behind_all}
use Rattle.book.proofs.GrantLemmas.{grants_are_allowed}
use Rattle.book.proofs.Lives.{law_of_plain_books}
use Rattle.book.proofs.life.living.live.Goals as goal
use Rattle.store.specs.Plain.{plain}

pub returns-then-moments-calls-clause-law : goal.returns-then-moments-calls-clause-law
returns-then-moments-calls-clause-law g c = law_of_plain_books

pub loop-place-init : goal.loop-place-init
loop-place-init g c = (alive_first _ _ _ _ _ _ _ c.new-book.ensures.value, omega (arith, c.if-moments-calls.false), refl)

pub loop-place-preserved : goal.loop-place-preserved
loop-place-preserved g c =
    let kept = c.loop-place.invariant in
    let less : c.loop-place.place < length c.args.calls.now = omega (arith, c.loop-place-test.true) in
    let trail_room : c.loop-place.place < length c.loop-place.moments = omega (arith, less, kept.1) in
    let e = c.perform-answer.ensures in
    let performed = rw (take_rest c.loop-place.answers c.loop-place.written) at e.performed in (
      rw (take_more c.args.calls.now c.loop-place.place Open less, take_more_set c.loop-place.moments c.loop-place.place (record { answer = c.perform-answer.result; seen = c.snapshot.result }) trail_room, behind_all c.loop-place.written c.loop-place.answers c.perform-answer.new.answers, c.written-written.ensures)
          (alive_next _ _ _ _ kept.0 _ _ _ c.snapshot.result performed e.written c.snapshot.ensures),
      omega (arith, length-set c.loop-place.moments c.loop-place.place (record { answer = c.perform-answer.result; seen = c.snapshot.result }), kept.1),
      drop-set-lt (length c.args.calls.now) c.loop-place.moments c.loop-place.place _ less ∙ kept.2,
    )

pub returns-clause-law : goal.returns-clause-law
returns-clause-law g c = law_of_plain_books

pub returns-then-moments-calls-clause-grants : goal.returns-then-moments-calls-clause-grants
returns-then-moments-calls-clause-grants g c = grants_are_allowed

pub returns-clause-grants : goal.returns-clause-grants
returns-clause-grants g c = grants_are_allowed

pub returns-clause-lived : goal.returns-clause-lived
returns-clause-lived g c =
    let end : c.loop-place.place ≡ length c.args.calls.now = omega (arith, c.loop-place-test.false, c.loop-place.auto.place-end) in
    rw (← end) (alive_lived _ _ _ _ c.snapshot-first.result (c.snapshot-first.ensures ∙ ap (view_of (book_machine plain)) c.new-book.ensures.value) (rw (take_all c.loop-place.place c.args.calls.now (omega (arith, end))) at c.loop-place.invariant.0))
