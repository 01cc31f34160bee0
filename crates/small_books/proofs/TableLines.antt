-- What a run of the exchange tells, by one computed test.
use Rattle.std.proofs.Common.{◌≡◌, ℕ, ◌<◌, Bool, true, false, cond, not, ◌&&◌, eqb, ltb, List, [], length, take, sym, refl, ap, ◌∙◌}
use Rattle.std.proofs.lemmas.Bool.{true≢false, and_parts, eqb-true, ltb-true}
use Rattle.std.proofs.lemmas.List.{get_or-take}
use Rattle.carriers.specs.Carriers.{Carried}
use Rattle.tables.specs.Tables.{lawful}
use Rattle.detection.specs.Detected.{IsFinishedRun}
use Rattle.detection.specs.declared.verdict.Detection.{Detection}
use Rattle.detection.specs.declared.verdict.Verdict.TheVariants.{Stuck, Free}
use Rattle.exchange.proofs.Termination.{a_run_ends}
use Rattle.exchange.proofs.ExactDeliveries.{twice_both}
use Rattle.exchange.proofs.Rounds.{reached, freed, spread_out, freed_out}
use Rattle.exchange.proofs.RoundsLemmas.{rounds_tell}
use Rattle.exchange.proofs.LawfulRows.{lawful_is_sound}
use Rattle.exchange.specs.Records.{blank}
use Rattle.exchange.specs.declared.record.RunRecord.{RunRecord}
use Rattle.small_books.specs.Facts.{Tells}
use Rattle.small_books.specs.Lines.{RunLine}

module _ (rounds : ℕ) (a : RunLine) where
  -- The jobs that a run notifies, and those that it frees, found in so many rounds.
  abbrev R : ℕ → Bool
  R = reached a.rows a.initiator rounds

  abbrev S : ℕ → Bool
  S = freed a.rows R rounds

  -- Rows and initiator are sound; the rounds have found both sets; and these give the verdict and the number of deliveries.
  abbrev sound : Bool
  sound = lawful a.rows && ltb a.initiator (length a.rows)

  abbrev found : Bool
  found = R a.initiator && (spread_out a.rows R && freed_out a.rows R S)

  abbrev right : Bool
  right = eqb (twice_both a.rows R S) a.deliveries && cond (S a.initiator) a.free (not a.free)

  abbrev pub computes : Bool
  computes = sound && (found && right)

  same_test : (a b : Bool) → cond a b (not b) ≡ true → a ≡ b
  same_test true true h = refl
  same_test true false h = absurd (true≢false (sym h))
  same_test false true h = absurd (true≢false (sym h))
  same_test false false h = refl

  pub computed_is_expected : computes ≡ true → Tells a
  computed_is_expected h =
      let parts = and_parts sound (found && right) h in
      let ground = and_parts (lawful a.rows) (ltb a.initiator (length a.rows)) parts.0 in
      let more = and_parts found right parts.1 in
      let sets = and_parts (R a.initiator) (spread_out a.rows R && freed_out a.rows R S) more.0 in
      let outs = and_parts (spread_out a.rows R) (freed_out a.rows R S) sets.1 in
      let ends = and_parts (eqb (twice_both a.rows R S) a.deliveries) (cond (S a.initiator) a.free (not a.free)) more.1 in
      let l = ltb-true a.initiator (length a.rows) ground.1 in
      record {
        every = λ order s x none.
            let t = rounds_tell a.rows (lawful_is_sound a.rows ground.0) a.initiator l rounds sets.0 outs.0 outs.1 order s x none in
            (t.0 ∙ eqb-true (twice_both a.rows R S) a.deliveries ends.0, t.1 ∙ same_test (S a.initiator) a.free ends.1);
        some = let e = a_run_ends a.rows ground.0 a.initiator l in (e.order, e.last, e.run, e.over);
      }

-- A detection, which is a run that is over, tells the same.
pub detection_tells : (a : RunLine) → Tells a → a.initiator < length a.rows → {was is : List RunRecord} {before after : Carried} {d : Detection} → IsFinishedRun a.rows a.initiator was is before after d
    → (d.deliveries ≡ a.deliveries) × (d.verdict ≡ cond a.free Free Stuck)
detection_tells a t l {was} {is} f =
    let e = t.every f.order (record { records = take (length a.rows) is; waiting = [] }) f.run refl in (
      f.count ∙ e.0,
      f.of_record ∙ ap (λ (r : RunRecord). cond r.free Free Stuck) (sym (get_or-take (length a.rows) is a.initiator blank l)) ∙ ap (λ (b : Bool). cond b Free Stuck) e.1,
    )
