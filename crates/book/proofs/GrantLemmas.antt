-- A book's grants are those that the rule of lawful grants allows.
use Rattle.std.proofs.Common.{◌≡◌, Bool, true, false, cond, not, ◌||◌, leb, ltb, length, refl, arith}
use Rattle.std.proofs.lemmas.Bool.{or_parts, not-false, leb-false, ltb-false, lt-leb, le-ltb}
use Rattle.rows.specs.Waiting.{at, among}
use Rattle.tables.specs.Grants.{Grant, IsAllowed}
use Rattle.tables.proofs.Laws.{who_waits_is_a_job}
use Rattle.groups.specs.State.{summary, full}
use Rattle.histories.specs.Calls.{Answer, done}
use Rattle.store.specs.Plain.{refusal, plain, PlainBook}
use Rattle.histories.specs.Rules.{says}
use Rattle.store.specs.declared.fault.BookFault.{BookFault}
use Rattle.store.specs.declared.fault.BookFault.TheVariants.{NoSuchJob, TrailFull, GranterBlocked, NoSuchWait}
use Rattle.book.specs.Grants.{grant_call, GrantsAreAllowed}

-- a check that is passed
passed : (q : Bool) (f : BookFault) (a : Answer) → cond q (refusal f) a ≡ done → (q ≡ false) × (a ≡ done)
passed true f a h = absurd (cc h)
passed false f a h = (refl, h)

module _ (s : PlainBook) (g : Grant) where
  abbrev granter_outside : Bool
  granter_outside = leb (length s.state.rows) g.granter

  abbrev waiter_outside : Bool
  waiter_outside = leb (length s.state.rows) g.waiter

  abbrev blocked : Bool
  blocked = ltb 0 (at s.state.rows g.granter).need

  abbrev waits : Bool
  waits = among g.granter (at s.state.rows g.waiter).targets

  abbrev held : Bool
  held = full s.state.trail_room (summary s.state)

  accepted : says plain s (grant_call g) ≡ done → IsAllowed s.state.rows g × (held ≡ false)
  accepted h =
      let jobs = passed (granter_outside || waiter_outside) NoSuchJob (cond blocked (refusal GranterBlocked) (cond (not waits) (refusal NoSuchWait) (cond held (refusal TrailFull) done))) h in
      let active = passed blocked GranterBlocked (cond (not waits) (refusal NoSuchWait) (cond held (refusal TrailFull) done)) jobs.1 in
      let there = passed (not waits) NoSuchWait (cond held (refusal TrailFull) done) active.1 in
      let trail_room = passed held TrailFull done there.1 in
      let inside = or_parts granter_outside waiter_outside jobs.0 in (
        record { job = leb-false _ _ inside.0; active = omega (arith, ltb-false _ _ active.0); waits = not-false waits there.0 },
        trail_room.0,
      )

  accepts : IsAllowed s.state.rows g × (held ≡ false) → says plain s (grant_call g) ≡ done
  accepts a =
      let granter : granter_outside ≡ false = lt-leb _ _ a.0.job in
      let waiter : waiter_outside ≡ false = lt-leb _ _ (who_waits_is_a_job s.state.rows g.waiter g.granter a.0.waits) in
      let active : blocked ≡ false = le-ltb _ _ (omega (arith, a.0.active)) in
      rw (granter, waiter, active, a.0.waits, a.1) refl

pub grants_are_allowed : GrantsAreAllowed
grants_are_allowed s g = record { accepts = (accepted s g, accepts s g); leaves = refl }
