-- What the check tells of bytes that it takes.
use Rattle.std.proofs.Common.{◌≡◌, ℕ, ◌≤◌, true, false, List, [], length, map, Some, None, Ok, Err, Option, Result, IfOk, Bor, refl, ap, ◌∙◌, ⊎_elim, arith}
use Rattle.std.proofs.lemmas.Bool.{cases_Bool}
use Rattle.std.proofs.lemmas.Bool.Decides.{nat_tests}
use Rattle.std.specs.Simd.{first_chunks}
use Rattle.rows.specs.Obeys.{rows_obey}
use Rattle.tables.specs.declared.table.TheConstants.{JOBS_MAX}
use Rattle.chart.specs.Layout.{row_of, job_count, bytes_of_jobs}
use Rattle.chart.specs.declared.bytes.TheConstants.{CHART_MAX, ROW_BYTES}
use Rattle.chart.specs.Check.{wrong_length, row_right, first_wrong_row, counted_or_wrong, checked, rows_of_checked, chart_rows}
use Rattle.chart.specs.Views.{rows_counted}
use Rattle.chart.specs.declared.fault.ChartFault.{ChartFault}
use Rattle.std.specs.Result.{result_unwrap_or}
use Rattle.chart.proofs.Scans.{rows_are_right_where_none_is_wrong}

-- The scan of the rows tells what the check answers.
pub checked_by_the_scan : (bytes : List ℕ) (rows : List (List ℕ)) (wrong : Option ℕ) → rows ≡ bytes_of_jobs bytes → length rows ≡ job_count bytes
    → wrong_length (length bytes) ≡ false → wrong ≡ first_wrong_row rows → counted_or_wrong (length rows) wrong ≡ checked bytes
checked_by_the_scan bytes rows wrong e l s h =
    rw s (ap (λ n. counted_or_wrong n wrong) l ∙ ap (counted_or_wrong (job_count bytes)) (h ∙ ap first_wrong_row e))

accepted_has_no_wrong_row : (m n : ℕ) (wrong : Option ℕ) → Ok n ≡ counted_or_wrong m wrong → (n ≡ m) × (wrong ≡ None)
accepted_has_no_wrong_row m n None h = (cc, refl)
accepted_has_no_wrong_row m n (Some job) h = let z : ◌≡◌ {A = ℕ} 0 1 = cc in absurd (omega arith)

-- The rows of bytes that are checked, or none, are a chart's.
pub record Charted (bytes : List ℕ) (rows : List (List ℕ)) : Type 0 where
  pub few : length rows ≤ JOBS_MAX
  pub right : rows_obey (row_right (length rows)) 0 rows ≡ true
  pub same_rows : map row_of rows ≡ chart_rows bytes

taken_rows_are_a_chart : (bytes : List ℕ) (rows : List (List ℕ)) → rows ≡ first_chunks ROW_BYTES (length rows) bytes → Ok (length rows) ≡ checked bytes → Charted bytes rows
taken_rows_are_a_chart bytes rows e h =
    ⊎_elim
    (λ (s : wrong_length (length bytes) ≡ true). let z : ◌≡◌ {A = ℕ} 0 1 = cc (rw s at h) in absurd (omega arith))
    (λ (s : wrong_length (length bytes) ≡ false).
    let p = accepted_has_no_wrong_row (job_count bytes) (length rows) (first_wrong_row (bytes_of_jobs bytes)) (rw s at h) in
    let whole : rows ≡ bytes_of_jobs bytes = e ∙ ap (λ n. first_chunks ROW_BYTES n bytes) p.0 in
    let short : length bytes ≤ CHART_MAX = grind (arith, nat_tests) in
    record {
      few = omega (arith, p.0);
      right = rows_are_right_where_none_is_wrong rows (ap first_wrong_row whole ∙ p.1);
      same_rows = ap (map row_of) whole ∙ ap (λ r. rows_of_checked r bytes) h;
    })
    (cases_Bool (wrong_length (length bytes)))

pub checked_rows_are_a_chart : (bytes : List ℕ) (r : Result (Bor (List (List ℕ))) ChartFault) (none rows : Bor (List (List ℕ))) → rows_counted r ≡ checked bytes
    → IfOk r (λ rows. rows.now ≡ first_chunks ROW_BYTES (length rows.now) bytes) → none.now ≡ [] → rows ≡ result_unwrap_or r none → Charted bytes rows.now
checked_rows_are_a_chart bytes (Ok found) none rows h e z u = rw u (taken_rows_are_a_chart bytes found.now e h)
checked_rows_are_a_chart bytes (Err fault) none rows h e z u = rw (u, z) (record { few = omega arith; right = refl; same_rows = ap (λ r. rows_of_checked r bytes) h })
