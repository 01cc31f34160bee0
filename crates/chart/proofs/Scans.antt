-- What the scan of the rows finds.
use Rattle.std.proofs.Common.{◌≡◌, ℕ, ◌+◌, true, false, not, List, [], ◌∷◌, length, None, refl, sym, ◌∙◌, ⊎_elim, arith}
use Rattle.std.proofs.lemmas.Bool.{cases_Bool}
use Rattle.std.proofs.lemmas.Iterator.Adapters.{position_from-zero}
use Rattle.std.specs.List.{enumerate_from, position_from}
use Rattle.rows.specs.Obeys.{rows_obey}
use Rattle.chart.specs.Check.{row_right, first_wrong_row}

-- All rows are right where none is wrong.
none_wrong_from : (n place job : ℕ) (rows : List (List ℕ)) → position_from (λ (r : ℕ × List ℕ). not (row_right n r.0 r.1)) place (enumerate_from job rows) ≡ None → rows_obey (row_right n) job rows ≡ true
none_wrong_from n place job [] h = refl
none_wrong_from n place job (row ∷ rows) h =
    ⊎_elim
    (λ (e : row_right n job row ≡ true). rw e (none_wrong_from n (place + 1) (job + 1) rows (rw e at h)))
    (λ (e : row_right n job row ≡ false). let z : ◌≡◌ {A = ℕ} 0 1 = cc (rw e at h) in absurd (omega arith))
    (cases_Bool (row_right n job row))

pub rows_are_right_where_none_is_wrong : (rows : List (List ℕ)) → first_wrong_row rows ≡ None → rows_obey (row_right (length rows)) 0 rows ≡ true
rows_are_right_where_none_is_wrong rows h =
    none_wrong_from (length rows) 0 0 rows (sym (position_from-zero (λ (r : ℕ × List ℕ). not (row_right (length rows) r.0 r.1)) (enumerate_from 0 rows)) ∙ h)
