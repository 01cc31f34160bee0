-- Right rows: what they tell.
use Rattle.std.proofs.Common.{◌≡◌, ℕ, ◌<◌, ◌≤◌, true, List, length, get_or, map, sym, subst}
use Rattle.std.proofs.lemmas.List.{length-map}
use Rattle.std.proofs.lemmas.Bool.{and_parts}
use Rattle.rows.specs.Law.{row_fits}
use Rattle.rows.specs.declared.plain.TheConstants.{TARGETS_MAX}
use Rattle.rows.specs.Storage.{places_fit}
use Rattle.rows.specs.Obeys.{rows_obey}
use Rattle.rows.proofs.ObeysLemmas.{obeyed_at, map_obeys}
use Rattle.rows.proofs.Places.{places_tell}
use Rattle.tables.specs.Tables.{lawful}
use Rattle.chart.specs.Layout.{count_byte, target_bytes, row_of}
use Rattle.chart.specs.Check.{row_right}

-- One row.
right_row_has_few_targets : (n job : ℕ) (row : List ℕ) → row_right n job row ≡ true → count_byte row ≤ TARGETS_MAX
right_row_has_few_targets n job row h =
    (places_tell (count_byte row) (target_bytes row) (and_parts (places_fit (count_byte row) (target_bytes row)) (row_fits n job (row_of row)) h).0).few

right_row_fits : (n job : ℕ) (row : List ℕ) → row_right n job row ≡ true → row_fits n job (row_of row) ≡ true
right_row_fits n job row h = (and_parts (places_fit (count_byte row) (target_bytes row)) (row_fits n job (row_of row)) h).1

-- Right rows obey the row law.
pub right_rows_are_lawful : (rows : List (List ℕ)) → rows_obey (row_right (length rows)) 0 rows ≡ true → lawful (map row_of rows) ≡ true
right_rows_are_lawful rows h =
    subst (λ (k : ℕ). rows_obey (row_fits k) 0 (map row_of rows) ≡ true) (sym (length-map rows row_of))
    (map_obeys (row_right (length rows)) (row_fits (length rows)) row_of (right_row_fits (length rows)) 0 rows h)

-- Each right row has few targets.
pub right_rows_have_few_targets : (n : ℕ) (rows : List (List ℕ)) → rows_obey (row_right n) 0 rows ≡ true → (k : ℕ) (d : List ℕ) → k < length rows → count_byte (get_or rows k d) ≤ TARGETS_MAX
right_rows_have_few_targets n rows h k d l = right_row_has_few_targets n k (get_or rows k d) (obeyed_at (row_right n) rows k d l h)
