-- What the store's type carries, kept by every call.
use Rattle.std.proofs.Common.{◌≡◌, ℕ, ◌<◌, ◌≤◌, Bool, true, cond, ap, ◌∙◌, arith}
use Rattle.rows.specs.declared.plain.PlainRow.{PlainRow}
use Rattle.rows.specs.Law.{row_fits}
use Rattle.rows.specs.Storage.{sound}
use Rattle.rows.specs.StoredRows.{waiting, stored_as, plain_fits}
use Rattle.rows.specs.Waiting.{idle}
use Rattle.rows.proofs.Laws.{idle_fits, sound_fits}
use Rattle.groups.specs.declared.store.Ending.{Ending}
use Rattle.groups.specs.TicketIds.{ended_as}
use Rattle.groups.specs.State.{State, written}
use Rattle.groups.specs.Beginning.{fresh}
use Rattle.groups.proofs.ObeysLemmas.{fresh_obeys, written_obeys, ended_obeys, obeys_if}
use Rattle.store.specs.Memory.{IsLawful}

module _ (n : ℕ) (s : State PlainRow) (l : IsLawful n s) where
  pub written_lawful : (job : ℕ) (row : PlainRow) → job < n → plain_fits n job row ≡ true → IsLawful n (written s job row)
  written_lawful job row j fits = record { few = l.few; obeys = written_obeys (plain_fits n) s l.obeys job row (omega (arith, l.few)) fits }

  pub ended_lawful : (e : Ending) → IsLawful n (ended_as e s)
  ended_lawful e = record { few = l.few; obeys = ended_obeys (plain_fits n) s l.obeys e }

  -- whichever of two states
  pub lawful_if : (q : Bool) (t : State PlainRow) → IsLawful n t → IsLawful n (cond q t s)
  lawful_if q t k = record { few = l.few; obeys = obeys_if (plain_fits n) s l.obeys q t k.obeys }

-- The stored row of an active job obeys the law of every job.
pub idle_row_fits : (n job : ℕ) (row : PlainRow) → row ≡ stored_as idle → plain_fits n job row ≡ true
idle_row_fits n job row e = sound_fits n job row (ap (λ p. sound p.need p.count p.targets) e) (ap (λ p. row_fits n job (waiting p)) e ∙ idle_fits n job)

pub fresh_lawful : (n mark memory : ℕ) (row : PlainRow) → n ≤ 256 → row ≡ stored_as idle → IsLawful n (fresh 256 row mark memory)
fresh_lawful n mark memory row few e = record {
  few = few;
  obeys = fresh_obeys (plain_fits n) row mark memory (λ k. idle_row_fits n k row e);
}
