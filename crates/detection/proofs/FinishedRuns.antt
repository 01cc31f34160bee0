-- What a detection leaves when no message is left to take.
use Rattle.std.proofs.Common.{◌≡◌, ℕ, ◌^◌, ◌<◌, List, [], length, get_or, None, sym, refl, ap, ◌∙◌, subst, arith}
use Rattle.std.proofs.lemmas.List.{nil_from_length, take_all, drop_all}
use Rattle.std.proofs.lemmas.Bool.{ltb-false}
use Rattle.carriers.specs.Meaning.{Took}
use Rattle.carriers.specs.Carriers.{Carried}
use Rattle.carriers.specs.declared.message.Message.{Message}
use Rattle.rows.specs.Waiting.{Waiting}
use Rattle.tables.specs.Tables.{IsTable}
use Rattle.exchange.specs.Records.{blank}
use Rattle.exchange.specs.Runs.{Exchange}
use Rattle.exchange.specs.declared.record.RunRecord.{RunRecord}
use Rattle.exchange.proofs.EndedRuns.{ended_runs_tell}
use Rattle.detection.specs.Detected.{verdict_of, IsFinishedRun}
use Rattle.detection.specs.declared.verdict.Detection.{Detection}
use Rattle.tables.proofs.Sizes.{waits_are_few}
use Rattle.detection.proofs.RunInvariant.{state, Going, growth, within_bounds, growth_is_the_deliveries}
use Rattle.detection.proofs.Verdicts.{free_verdict_tells, stuck_verdict_tells}

-- The end of a run: no message came.
module _ {rows : List Waiting} {initiator : ℕ} (tabled : IsTable rows) (job : initiator < length rows)
    {room before : ℕ} {records : List RunRecord} {now : Carried} (going : Going rows initiator room before records now)
    {left : Carried} (took : Took now left None) where
  none_waits : now.waiting ≡ []
  none_waits = nil_from_length now.waiting (omega (arith, ltb-false 0 (length now.waiting) (sym took.test)))

  ended_run : Exchange rows initiator going.order (state records [])
  ended_run = subst (λ (ms : List Message). Exchange rows initiator going.order (state records ms)) none_waits going.run

  pub run_is_finished : (was : List RunRecord) (first : Carried) (d : Detection)
      → length was ≡ length rows → room ≡ first.capacity → before ≡ first.handed → before < 2 ^ 32
      → d.verdict ≡ verdict_of (get_or records initiator blank) → d.deliveries ≡ growth before left.handed
      → IsFinishedRun rows initiator was records first left d
  run_is_finished was first d long same-room same_count fits of_record grown =
      let all = (within_bounds tabled job going).records in
      let count : d.deliveries ≡ length going.order =
      grown ∙ ap (growth before) took.handed ∙ growth_is_the_deliveries tabled job going fits in
      let freed = (ended_runs_tell rows tabled.lawful initiator job going.order (state records []) ended_run refl).tells in
      record {
        order = going.order;
        run = subst (λ (rs : List RunRecord). Exchange rows initiator going.order (state rs []))
            (sym (take_all (length rows) records (omega arith))) ended_run;
        count = count;
        few = omega (arith, (within_bounds tabled job going).deliveries);
        narrow = omega (arith, (within_bounds tabled job going).deliveries, waits_are_few rows tabled);
        rest = drop_all (length rows) records (omega arith) ∙ sym (drop_all (length rows) was (omega arith));
        waiting = ap (λ (c : Carried). c.waiting) took.waiting ∙ none_waits;
        capacity = took.capacity ∙ going.capacity ∙ same-room;
        handed = omega (arith, took.handed, going.handed);
        of_record = of_record;
        stuck = stuck_verdict_tells (get_or records initiator blank).free d.verdict of_record freed;
        free = free_verdict_tells (get_or records initiator blank).free d.verdict of_record freed;
      }
