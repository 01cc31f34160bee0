-- The rows that the book shows, read off the rows that it stores.
use Rattle.std.proofs.Common.{◌≡◌, ℕ, ◌+◌, ◌≤◌, true, false, List, [], ◌∷◌, length, map, ap, ◌∙◌, Some, None, Option, IfSome, Bor, Result, Ok, Err, IsOk, refl, take, subst, ⊎_elim, arith}
use Rattle.std.specs.Slice.{IsGetResult}
use Rattle.std.proofs.lemmas.Bool.{cases_Bool, and_parts, and_from}
use Rattle.rows.specs.declared.plain.LawBroken.{LawBroken}
use Rattle.rows.specs.declared.plain.PlainRow.{PlainRow}
use Rattle.rows.specs.declared.plain.Row.{Row}
use Rattle.rows.specs.Law.{row_fits}
use Rattle.rows.specs.Storage.{places_fit, sound}
use Rattle.rows.specs.Obeys.{rows_obey}
use Rattle.rows.specs.StoredRows.{waiting, all_sound, plain_fits, Checked}
use Rattle.rows.specs.Waiting.{at, among}
use Rattle.rows.proofs.Laws.{fits_sound}
use Rattle.tables.specs.Tables.{lawful}
use Rattle.tables.specs.declared.table.TheConstants.{JOBS_MAX}
use Rattle.tables.proofs.Laws.{target_below}
use Rattle.groups.specs.State.{State}
use Rattle.groups.specs.StateViews.{view}
use Rattle.groups.proofs.ObeysLemmas.{read_obeys, view_obeys}
use Rattle.groups.proofs.ViewLemmas.{length_view}
use Rattle.store.specs.Memory.{IsLawful}

-- all stored rows are sound
pub obeying_rows_are_sound : (n job : ℕ) (rows : List PlainRow) → rows_obey (plain_fits n) job rows ≡ true → all_sound rows ≡ true
obeying_rows_are_sound n job [] o = refl
obeying_rows_are_sound n job (r ∷ rs) o =
    let p = and_parts (plain_fits n job r) (rows_obey (plain_fits n) (job + 1) rs) o in
    and_from (sound r.need r.count r.targets) (all_sound rs) (fits_sound n job r p.0) (obeying_rows_are_sound n (job + 1) rs p.1)

-- a sound row passes the check as it is
pub sound_is_checked : (p : PlainRow) (r : Result Row LawBroken) → Checked p r → sound p.need p.count p.targets ≡ true → IsOk r
sound_is_checked p (Ok row) h o = refl
sound_is_checked p (Err e) h o = absurd (cc (h, o))

pub checked_is : (p : PlainRow) (r : Result Row LawBroken) (row : Row) → Checked p r → r ≡ Ok row → row.plain ≡ p
checked_is p r row h e = (subst (Checked p) e h).1

module _ (n : ℕ) (s : State PlainRow) (l : IsLawful n s) where
  pub wide : n ≤ length s.rows
  wide = omega (arith, l.few, l.obeys.whole)

  -- a stored row that is read obeys the law
  pub stored_sound : (job : ℕ) (item : Option (Bor PlainRow)) → IsGetResult (take n s.rows) job job item → IfSome item (λ p. sound p.now.need p.now.count p.now.targets ≡ true)
  stored_sound job item found = go item (read_obeys (plain_fits n) s l.obeys n job item l.few found)
    where
      go : (item : Option (Bor PlainRow)) → IfSome item (λ p. plain_fits n job p.now ≡ true) → IfSome item (λ p. sound p.now.need p.now.count p.now.targets ≡ true)
      go None h = tt
      go (Some p) h = fits_sound n job p.now h

  pub jobs_seen : length (view n waiting s).rows ≡ n
  jobs_seen = length_view n waiting s wide

  pub lawful_seen : lawful (view n waiting s).rows ≡ true
  lawful_seen =
      ap (λ k. rows_obey (row_fits k) 0 (view n waiting s).rows) jobs_seen
      ∙ view_obeys (plain_fits n) s l.obeys n waiting (row_fits n) (λ k p h. (and_parts (places_fit p.count p.targets) (row_fits n k (waiting p)) h).1)

  -- no job waits for one beyond the last
  pub none_waits_beyond : (waiter job : ℕ) → n ≤ job → among job (at (view n waiting s).rows waiter).targets ≡ false
  none_waits_beyond waiter job l =
      ⊎_elim
      (λ (a : among job (at (view n waiting s).rows waiter).targets ≡ true). absurd (omega (arith, jobs_seen, target_below (view n waiting s).rows lawful_seen waiter job a)))
      (λ a. a)
      (cases_Bool (among job (at (view n waiting s).rows waiter).targets))

-- So it is of stored rows without groups.
pub snapshot_is_lawful : (n : ℕ) (rows : List PlainRow) → n ≤ JOBS_MAX → length rows ≡ 256 → rows_obey (plain_fits n) 0 rows ≡ true → lawful (map waiting (take n rows)) ≡ true
snapshot_is_lawful n rows few whole o =
    lawful_seen n (record { rows = rows; groups = []; mark = 0; trail_room = 0 }) (record { few = few; obeys = record { whole = whole; rows = o; undo_records = refl } })
