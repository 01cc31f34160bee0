-- Rows written as bytes, and read back.
use Rattle.std.proofs.Common.{◌≡◌, ℕ, zero, suc, ◌+◌, ◌-◌, ◌*◌, ◌/◌, ◌%◌, ◌<◌, ◌≤◌, true, false, not, eqb, List, [], ◌∷◌, ◌++◌, length, get_or, take, drop, set, map, replicate, Some, None, Ok, sym, refl, ap, ◌∙◌, append-nil, arith}
use Rattle.std.proofs.Math.Nat.{mul-mod_right, mul-div_cancel_left}
use Rattle.std.proofs.Math.Seq.{take-append_seam, drop-append_seam, take-append-add, drop-append-add}
use Rattle.std.proofs.lemmas.Grind.{flat_map-append}
use borrow.Rule.Slice.PartMut.{put_mid, post_of}
use Rattle.std.proofs.lemmas.Bool.{and_parts, and_from}
use Rattle.std.proofs.lemmas.Bool.Decides.{nat_tests}
use Rattle.std.proofs.lemmas.Iterator.Adapters.{position_from-zero}
use Rattle.std.proofs.lemmas.Option.{slice_get-get_or}
use Rattle.std.proofs.lemmas.List.{length-append, length-map, length-take-le, take_more, drop-drop}
use Rattle.std.specs.List.{enumerate_from, position_from}
use Rattle.std.specs.Simd.{first_chunks}
use Rattle.rows.proofs.Laws.{fits_counts}
use Rattle.rows.proofs.ObeysLemmas.{map_obeys}
use Rattle.rows.proofs.Places.{places_tell, places_of_targets_fit, targets_are_in_use}
use Rattle.rows.specs.Law.{row_fits}
use Rattle.rows.specs.declared.plain.TheConstants.{TARGETS_MAX}
use Rattle.rows.specs.Obeys.{rows_obey}
use Rattle.rows.specs.StoredRows.{places_of}
use Rattle.rows.specs.Waiting.{Waiting, idle, at}
use Rattle.rows.specs.Places.{target_at}
use Rattle.tables.specs.Tables.{lawful, IsTable}
use Rattle.chart.specs.Check.{row_right, first_wrong_row, wrong_length, rows_of_checked, checked}
use Rattle.chart.specs.Layout.{row_of, job_count, bytes_of_jobs}
use Rattle.chart.specs.Writing.{bytes_of_row, bytes_of_rows, ReadsBack}

-- One more target is written over the first 0.
pub next_target : (ts : List ℕ) (place rest : ℕ) → place < length ts → set (take place ts ++ replicate (suc rest) 0) place (get_or ts place 0) ≡ take (suc place) ts ++ replicate rest 0
next_target [] place rest l = absurd (omega arith)
next_target (t ∷ ts) zero rest l = refl
next_target (t ∷ ts) (suc place) rest l = ap (λ xs. t ∷ xs) (next_target ts place rest (omega arith))

-- The target at a place is written at that place of a job's bytes.
pub next_place : (w : Waiting) (place target : ℕ) → place < 16 → place < length w.targets → Some target ≡ target_at w.targets place
    → (row : List ℕ) → row ≡ w.need ∷ length w.targets ∷ (take place w.targets ++ replicate (16 - place) 0)
    → set row (2 + place) target ≡ w.need ∷ length w.targets ∷ (take (place + 1) w.targets ++ replicate (16 - (place + 1)) 0)
next_place w place target few less found row before =
    let behind : 2 + place ≡ suc (suc place) = omega arith in
    let room : 16 - place ≡ suc (16 - (place + 1)) = omega arith in
    let more : suc place ≡ place + 1 = omega arith in
    let read : target ≡ get_or w.targets place 0 = cc (found ∙ slice_get-get_or w.targets place 0 less) in
    ap (λ k. set row k target) behind
    ∙ ap (λ xs. set xs (suc (suc place)) target) before
    ∙ ap (λ k. w.need ∷ length w.targets ∷ set (take place w.targets ++ replicate k 0) place target) room
    ∙ ap (λ t. w.need ∷ length w.targets ∷ set (take place w.targets ++ replicate (suc (16 - (place + 1))) 0) place t) read
    ∙ ap (λ xs. w.need ∷ length w.targets ∷ xs) (next_target w.targets place (16 - (place + 1)) less)
    ∙ ap (λ k. w.need ∷ length w.targets ∷ (take k w.targets ++ replicate (16 - (place + 1)) 0)) more

-- ---- one row

module _ (w : Waiting) (few : length w.targets ≤ TARGETS_MAX) where
  pub length-bytes_of_row : length (bytes_of_row w) ≡ 18
  length-bytes_of_row = let places = places_tell (length w.targets) (places_of w.targets) (places_of_targets_fit w.targets few) in omega (arith, places.whole)

  row_read_back : row_of (bytes_of_row w) ≡ w
  row_read_back = ap (λ ts. record { need = w.need; targets = ts }) (targets_are_in_use w.targets)

  written_row_is_right : (n job : ℕ) → row_fits n job w ≡ true → row_right n job (bytes_of_row w) ≡ true
  written_row_is_right n job fits = and_from _ _ (places_of_targets_fit w.targets few) (ap (row_fits n job) row_read_back ∙ fits)

-- ---- all rows

few_targets : (n job : ℕ) (w : Waiting) → row_fits n job w ≡ true → length w.targets ≤ TARGETS_MAX
few_targets n job w h = (fits_counts n job w h).few

module _ (n : ℕ) where
  pub length-bytes_of_rows : (job : ℕ) (rows : List Waiting) → rows_obey (row_fits n) job rows ≡ true → length (bytes_of_rows rows) ≡ 18 * length rows
  length-bytes_of_rows job [] h = refl
  length-bytes_of_rows job (w ∷ ws) h =
      let p = and_parts (row_fits n job w) _ h in
      omega (arith, length-append (bytes_of_row w) (bytes_of_rows ws), length-bytes_of_row w (few_targets n job w p.0), length-bytes_of_rows (job + 1) ws p.1)

  chunks-bytes_of_rows : (job : ℕ) (rows : List Waiting) → rows_obey (row_fits n) job rows ≡ true → first_chunks 18 (length rows) (bytes_of_rows rows) ≡ map bytes_of_row rows
  chunks-bytes_of_rows job [] h = refl
  chunks-bytes_of_rows job (w ∷ ws) h =
      let p = and_parts (row_fits n job w) _ h in
      let e = sym (length-bytes_of_row w (few_targets n job w p.0)) in
      let front = ap (λ k. take k (bytes_of_row w ++ bytes_of_rows ws)) e ∙ take-append_seam (bytes_of_row w) (bytes_of_rows ws) in
      let back = ap (λ k. drop k (bytes_of_row w ++ bytes_of_rows ws)) e ∙ drop-append_seam (bytes_of_row w) (bytes_of_rows ws) in
      ap (λ x. x ∷ first_chunks 18 (length ws) (drop 18 (bytes_of_row w ++ bytes_of_rows ws))) front
      ∙ ap (λ x. bytes_of_row w ∷ first_chunks 18 (length ws) x) back
      ∙ ap (λ x. bytes_of_row w ∷ x) (chunks-bytes_of_rows (job + 1) ws p.1)

  rows_read_back : (job : ℕ) (rows : List Waiting) → rows_obey (row_fits n) job rows ≡ true → map row_of (map bytes_of_row rows) ≡ rows
  rows_read_back job [] h = refl
  rows_read_back job (w ∷ ws) h =
      let p = and_parts (row_fits n job w) _ h in
      ap (λ x. x ∷ map row_of (map bytes_of_row ws)) (row_read_back w (few_targets n job w p.0)) ∙ ap (λ x. w ∷ x) (rows_read_back (job + 1) ws p.1)

  none_wrong_where_right : (place job : ℕ) (rows : List (List ℕ)) → rows_obey (row_right n) job rows ≡ true
      → position_from (λ (r : ℕ × List ℕ). not (row_right n r.0 r.1)) place (enumerate_from job rows) ≡ None
  none_wrong_where_right place job [] h = refl
  none_wrong_where_right place job (row ∷ rows) h =
      let p = and_parts (row_right n job row) _ h in
      rw p.0 (none_wrong_where_right (place + 1) (job + 1) rows p.1)

none_is_wrong : (rows : List Waiting) → lawful rows ≡ true → first_wrong_row (map bytes_of_row rows) ≡ None
none_is_wrong rows h =
    let n = length rows in
    let written = map bytes_of_row rows in
    let right : rows_obey (row_right n) 0 written ≡ true =
    map_obeys (row_fits n) (row_right n) bytes_of_row (λ k w fits. written_row_is_right w (few_targets n k w fits) n k fits) 0 rows h in
    let width : length written ≡ n = length-map rows bytes_of_row in
    position_from-zero (λ (r : ℕ × List ℕ). not (row_right (length written) r.0 r.1)) (enumerate_from 0 written)
    ∙ ap (λ k. position_from (λ (r : ℕ × List ℕ). not (row_right k r.0 r.1)) 0 (enumerate_from 0 written)) width
    ∙ none_wrong_where_right n 0 0 written right

-- What the check answers to bytes of the right length, all of whose rows are right.
checked_by_parts : (n : ℕ) (bytes : List ℕ) (rows : List (List ℕ)) → length bytes ≡ 18 * n → 0 < n → n ≤ 256 → bytes_of_jobs bytes ≡ rows → first_wrong_row rows ≡ None → checked bytes ≡ Ok n
checked_by_parts n bytes rows len some few chunks right =
    let m : length bytes % 18 ≡ 0 = ap (λ k. k % 18) len ∙ mul-mod_right 18 n in
    let fits : wrong_length (length bytes) ≡ false = grind (arith, nat_tests) in
    let jobs : job_count bytes ≡ n = ap (λ k. k / 18) len ∙ mul-div_cancel_left n (omega arith) in
    rw (fits, chunks, right) (ap Ok jobs)

-- The bytes of a table's rows are read back as these.
pub table_reads_back : (rows : List Waiting) → IsTable rows → ReadsBack rows (bytes_of_rows rows)
table_reads_back [] table = record { check = refl; read = refl }
table_reads_back (w ∷ ws) table =
    let rows = w ∷ ws in
    let n = length rows in
    let bytes = bytes_of_rows rows in
    let len : length bytes ≡ 18 * n = length-bytes_of_rows n 0 rows table.lawful in
    let jobs : job_count bytes ≡ n = ap (λ k. k / 18) len ∙ mul-div_cancel_left n (omega arith) in
    let chunks : bytes_of_jobs bytes ≡ map bytes_of_row rows = ap (λ k. first_chunks 18 k bytes) jobs ∙ chunks-bytes_of_rows n 0 rows table.lawful in
    let right : first_wrong_row (map bytes_of_row rows) ≡ None = none_is_wrong rows table.lawful in
    let check : checked bytes ≡ Ok n = checked_by_parts n bytes (map bytes_of_row rows) len (omega arith) table.few chunks right in
    let some : eqb n 0 ≡ false = grind (arith, nat_tests) in
    record {
      check = rw some check;
      read = ap (λ r. rows_of_checked r bytes) check ∙ ap (map row_of) chunks ∙ rows_read_back n 0 rows table.lawful;
    }

-- ---- the loop

-- One more job's bytes are written behind the others.
pub next_row : (rows : List Waiting) (job m : ℕ) (xs ys : List ℕ) → job < length rows → 18 * job ≤ length xs → ys ≡ bytes_of_row (at rows job) → length (at rows job).targets ≤ TARGETS_MAX
    → take (18 * job) xs ≡ bytes_of_rows (take job rows) → take (18 * (job + 1)) (put_mid (job * 18) m xs ys) ≡ bytes_of_rows (take (job + 1) rows)
next_row rows job m xs ys less room e few before =
    let start : job * 18 ≡ 18 * job = omega arith in
    let len : length ys ≡ 18 = ap length e ∙ length-bytes_of_row (at rows job) few in
    let rest = post_of (job * 18) m xs in
    let end : 18 * (job + 1) ≡ length (take (job * 18) xs) + length ys = omega (arith, length-take-le (job * 18) xs (omega arith)) in
    ap (λ k. take k (put_mid (job * 18) m xs ys)) end
    ∙ take-append-add (take (job * 18) xs) (ys ++ rest) (length ys)
    ∙ ap (λ zs. take (job * 18) xs ++ zs) (take-append_seam ys rest)
    ∙ ap (λ zs. zs ++ ys) (ap (λ k. take k xs) start ∙ before)
    ∙ ap (λ zs. bytes_of_rows (take job rows) ++ zs) (e ∙ sym (append-nil (bytes_of_row (at rows job))))
    ∙ sym (flat_map-append bytes_of_row (take job rows) (at rows job ∷ []))
    ∙ ap bytes_of_rows (sym (take_more rows job idle less))

-- And those behind it are as they were.
pub rest_after : (job : ℕ) (xs ys before : List ℕ) → 18 * job ≤ length xs → length ys ≡ 18 → drop (18 * job) xs ≡ drop (18 * job) before
    → drop (18 * (job + 1)) (put_mid (job * 18) (job * 18 + 18 - job * 18) xs ys) ≡ drop (18 * (job + 1)) before
rest_after job xs ys before room len same =
    let start : job * 18 ≡ 18 * job = omega arith in
    let width : job * 18 + 18 - job * 18 ≡ 18 = omega arith in
    let end : 18 * (job + 1) ≡ length (take (job * 18) xs) + length ys = omega (arith, length-take-le (job * 18) xs (omega arith)) in
    let after : 18 * job + 18 ≡ 18 * (job + 1) = omega arith in
    let rest = post_of (job * 18) (job * 18 + 18 - job * 18) xs in
    ap (λ k. drop k (take (job * 18) xs ++ (ys ++ rest))) end
    ∙ drop-append-add (take (job * 18) xs) (ys ++ rest) (length ys)
    ∙ drop-append_seam ys rest
    ∙ ap (λ k. drop k (drop (job * 18) xs)) width
    ∙ ap (λ k. drop 18 (drop k xs)) start
    ∙ ap (drop 18) same
    ∙ drop-drop 18 (18 * job) before
    ∙ ap (λ k. drop k before) after
