-- A detection that no check stops can be made: a run goes to its end, and leaves what a detection leaves.
use Rattle.std.proofs.Common.{◌≡◌, ℕ, ◌+◌, ◌*◌, ◌%◌, ◌^◌, ◌<◌, Bool, true, false, cond, ◌↔◌, List, [], length, take, get_or, sym, refl, ap, ◌∙◌, subst, arith}
use Rattle.std.proofs.lemmas.Bool.{true≢false}
use Rattle.std.proofs.lemmas.List.{take_all, drop_all}
use Rattle.carriers.specs.Carriers.{Carried}
use Rattle.carriers.specs.declared.message.Message.{Message}
use Rattle.rows.specs.Waiting.{Waiting}
use Rattle.tables.specs.Tables.{lawful}
use Rattle.tables.specs.Waits.{waits}
use Rattle.tables.specs.Grants.{CanBeFreed}
use Rattle.exchange.specs.Bounds.{IsBounded}
use Rattle.exchange.specs.Records.{blank}
use Rattle.exchange.specs.Runs.{RunState, Exchange}
use Rattle.exchange.specs.declared.record.RunRecord.{RunRecord}
use Rattle.exchange.proofs.BoundLemmas.{runs_are_bounded}
use Rattle.exchange.proofs.Termination.{Ended, a_run_ends}
use Rattle.exchange.proofs.EndedRuns.{ended_runs_tell}
use Rattle.detection.specs.Detected.{verdict_of, IsFinishedRun}
use Rattle.detection.specs.declared.verdict.Detection.{Detection}
use Rattle.detection.specs.declared.verdict.Verdict.TheVariants.{Stuck, Free}

-- A verdict tells whether a job can be freed, if the job's record does.
verdict_tells : {Freed : Type 0} (free : Bool) → (free ≡ true) ↔ Freed → ((cond free Free Stuck ≡ Stuck) ↔ (Freed → ⊥)) × ((cond free Free Stuck ≡ Free) ↔ Freed)
verdict_tells true f = ((λ v. absurd (cc v), λ no. absurd (no (f.0 refl))), (λ _. f.0 refl, λ _. refl))
verdict_tells false f = ((λ _ x. true≢false (sym (f.1 x)), λ _. refl), (λ v. absurd (cc v), λ x. absurd (true≢false (sym (f.1 x)))))

-- What a detection can tell, and what it then leaves.
pub record Possible (rows : List Waiting) (initiator : ℕ) (was : List RunRecord) (before : Carried) : Type 0 where
  pub told : Detection
  pub records : List RunRecord
  pub carrier : Carried
  pub made : IsFinishedRun rows initiator was records before carrier told

pub can_be_made : (rows : List Waiting) (initiator : ℕ) (was : List RunRecord) (before : Carried) → lawful rows ≡ true → initiator < length rows → length was ≡ length rows
    → 4 * waits rows < 2 ^ 16 → Possible rows initiator was before
can_be_made rows initiator was before law job long narrow = record {
  told = record { verdict = verdict_of (get_or ended.last.records initiator blank); deliveries = length ended.order };
  records = ended.last.records;
  carrier = record { waiting = []; capacity = before.capacity; handed = (before.handed + length ended.order) % 2 ^ 32 };
  made = record {
    order = ended.order;
    run = subst (λ (s : RunState). Exchange rows initiator ended.order s) state ended.run;
    count = refl;
    few = bounded.deliveries;
    narrow = omega (arith, bounded.deliveries, narrow);
    rest = drop_all (length rows) ended.last.records (omega (arith, bounded.records)) ∙ sym (drop_all (length rows) was (omega (arith, long)));
    waiting = refl;
    capacity = refl;
    handed = refl;
    of_record = refl;
    stuck = both.0;
    free = both.1;
  };
}
  where
    ended : Ended rows initiator
    ended = a_run_ends rows law initiator job

    bounded : IsBounded rows (length ended.order) ended.last
    bounded = runs_are_bounded rows law initiator job ended.order ended.last ended.run

    both : ((verdict_of (get_or ended.last.records initiator blank) ≡ Stuck) ↔ (CanBeFreed rows initiator → ⊥)) × ((verdict_of (get_or ended.last.records initiator blank) ≡ Free) ↔ CanBeFreed rows initiator)
    both = verdict_tells (get_or ended.last.records initiator blank).free (ended_runs_tell rows law initiator job ended.order ended.last ended.run ended.over).tells

    state : ended.last ≡ record { records = take (length rows) ended.last.records; waiting = [] }
    state =
        ap (λ (ms : List Message). record { records = ended.last.records; waiting = ms }) ended.over
        ∙ ap (λ (rs : List RunRecord). record { records = rs; waiting = [] }) (sym (take_all (length rows) ended.last.records (omega (arith, bounded.records))))
