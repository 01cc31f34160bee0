-- What the row law of a whole table tells.
use Rattle.std.proofs.Common.{◌≡◌, ℕ, ◌<◌, true, List, length, sym, ap, ◌∙◌, inl, inr}
use Rattle.std.proofs.lemmas.List.{get_or_past}
use Rattle.std.proofs.lemmas.Bool.{true≢false, cases_lt}
use Rattle.rows.specs.Waiting.{Waiting, idle, at, among}
use Rattle.rows.specs.Law.{row_fits}
use Rattle.rows.proofs.Laws.{fits_below}
use Rattle.rows.proofs.ObeysLemmas.{obeyed_at}
use Rattle.tables.specs.Tables.{lawful}

-- Each row of a lawful table fits.
pub lawful_at : (rows : List Waiting) → lawful rows ≡ true → (v : ℕ) → v < length rows → row_fits (length rows) v (at rows v) ≡ true
lawful_at rows h v l = obeyed_at (row_fits (length rows)) rows v idle l h

-- Who waits is a job.
pub who_waits_is_a_job : (rows : List Waiting) (v u : ℕ) → among u (at rows v).targets ≡ true → v < length rows
who_waits_is_a_job rows v u a =
    elim (cases_lt v (length rows)) [
      | inl h ↦ h
      | inr h ↦ absurd (true≢false (sym a ∙ ap (λ (w : Waiting). among u w.targets) (get_or_past rows v idle h)))
    ]

-- Who is waited for is a job.
pub target_below : (rows : List Waiting) → lawful rows ≡ true → (v u : ℕ) → among u (at rows v).targets ≡ true → u < length rows
target_below rows h v u a = fits_below (length rows) v (at rows v) (lawful_at rows h v (who_waits_is_a_job rows v u a)) u a
