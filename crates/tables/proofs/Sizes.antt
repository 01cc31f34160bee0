-- A table that obeys the row law is small: how few targets, waiters and waits it has.
use Rattle.std.proofs.Common.{◌≡◌, ℕ, zero, suc, ◌+◌, ◌*◌, ◌<◌, ◌≤◌, List, length, take, ap, inl, inr, add-one, arith}
use Rattle.std.proofs.lemmas.List.{take_all, get_or_past}
use Rattle.std.proofs.lemmas.List.Sums.{sum_by_more}
use Rattle.std.proofs.lemmas.Bool.{cases_lt}
use Rattle.rows.specs.Waiting.{Waiting, idle, at}
use Rattle.rows.specs.declared.plain.TheConstants.{TARGETS_MAX}
use Rattle.rows.proofs.Laws.{fits_counts}
use Rattle.tables.specs.Tables.{IsTable}
use Rattle.tables.specs.Waits.{waiters, waits}
use Rattle.tables.specs.declared.table.TheConstants.{WAITS_MAX, JOBS_MAX}
use Rattle.tables.proofs.Laws.{lawful_at}
use Rattle.tables.proofs.WaiterLemmas.{waiters_from_are_few}

-- The waits of some first rows, with one row more, and of all rows.
pub waits_with_one_row_more : (rows : List Waiting) (job : ℕ) → job < length rows
    → waits (take (job + 1) rows) ≡ waits (take job rows) + length (at rows job).targets
waits_with_one_row_more rows job l = sum_by_more (λ (row : Waiting). length row.targets) rows job idle l

pub waits_of_all_rows : (rows : List Waiting) (jobs : ℕ) → length rows ≤ jobs → waits (take jobs rows) ≡ waits rows
waits_of_all_rows rows jobs l = ap waits (take_all jobs rows l)

module _ (rows : List Waiting) (table : IsTable rows) where
  -- No row has more than 16 targets.
  pub targets_are_few : (job : ℕ) → length (at rows job).targets ≤ TARGETS_MAX
  targets_are_few job = elim (cases_lt job (length rows)) [
    | inl l ↦ (fits_counts (length rows) job (at rows job) (lawful_at rows table.lawful job l)).few
    | inr l ↦ omega (arith, ap (λ (w : Waiting). length w.targets) (get_or_past rows job idle l))
  ]

  -- No job has more than 256 waiters.
  pub waiters_are_few : (job : ℕ) → length (waiters rows job) ≤ JOBS_MAX
  waiters_are_few job = omega (arith, waiters_from_are_few 0 job rows, table.few)

  -- No table has more than 16 waits for each of 256 jobs.
  pub first_rows_have_few_waits : (jobs : ℕ) → waits (take jobs rows) ≤ TARGETS_MAX * jobs
  first_rows_have_few_waits zero = omega arith
  first_rows_have_few_waits (suc jobs) =
      let fewer = first_rows_have_few_waits jobs in
      elim (cases_lt jobs (length rows)) [
        | inl l ↦ omega (arith, ap (λ (n : ℕ). waits (take n rows)) (add-one jobs), waits_with_one_row_more rows jobs l, targets_are_few jobs)
        | inr l ↦ omega (arith, waits_of_all_rows rows jobs l, waits_of_all_rows rows (suc jobs) (omega arith))
      ]

  pub waits_are_few : waits rows ≤ WAITS_MAX
  waits_are_few = omega (arith, waits_of_all_rows rows (length rows) (omega arith), first_rows_have_few_waits (length rows), table.few)
