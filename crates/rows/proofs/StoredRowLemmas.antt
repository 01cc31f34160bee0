-- Stored rows: the targets in use are shaped, and what a request and a grant store is sound.
use Rattle.std.proofs.Common.{◌≡◌, ℕ, ◌+◌, ◌-◌, ◌<◌, ◌≤◌, true, List, ◌++◌, length, replicate, take, drop, None, sym, refl, ap, ◌∙◌, subst, add-one, arith, length-append, length-drop}
use Rattle.std.proofs.lemmas.List.{length-take-le, take_all, take-append-le, take-take, take-append-drop, drop-replicate}
use Rattle.std.proofs.lemmas.Slice.{take-put_mid, drop-put_mid, drop-append-drop}
use borrow.Rule.Slice.PartMut.{put_mid}
use Rattle.std.proofs.lemmas.List.Edits.{length-remove}
use Rattle.std.proofs.lemmas.Bool.{and_parts, and_from}
use Rattle.std.specs.List.{remove}
use Rattle.rows.specs.Law.{counts_fit, rising}
use Rattle.rows.specs.declared.plain.TheConstants.{TARGETS_MAX}
use Rattle.rows.specs.Storage.{shaped, stored, places_fit, sound}
use Rattle.rows.specs.Changes.{first_wrong}
use Rattle.rows.specs.StoredRows.{places_of}
use Rattle.rows.proofs.Counts.{fit_tells, one_less_fits}
use Rattle.rows.proofs.Fits.{removed_still_rises, fitting_rises, none_wrong_fits}
use Rattle.rows.proofs.Places.{targets_are_in_use, places_of_targets_fit}

-- Shaped and sound.
pub sound_parts : (need count : ℕ) (places : List ℕ) → sound need count places ≡ true → (places_fit count places ≡ true) × (shaped (stored need count places) ≡ true)
sound_parts need count places h = and_parts (places_fit count places) (shaped (stored need count places)) h

pub sound_uses_shaped : (need count : ℕ) (places used : List ℕ) → used ≡ take count places → sound need count places ≡ true → shaped (record { need = need; targets = used }) ≡ true
sound_uses_shaped need count places used e h =
    subst (λ (ts : List ℕ). shaped (record { need = need; targets = ts }) ≡ true) (sym e) (sound_parts need count places h).1

shaped_few : (need : ℕ) (used : List ℕ) → shaped (record { need = need; targets = used }) ≡ true → length used ≤ TARGETS_MAX
shaped_few need used h =
    let p = and_parts (counts_fit need (length used)) (rising 0 used) h in
    (fit_tells need (length used) p.0).few

shaped_stores_sound : (need count : ℕ) (targets places : List ℕ) → count ≡ length targets → places ≡ places_of targets → shaped (record { need = need; targets = targets }) ≡ true → sound need count places ≡ true
shaped_stores_sound need count targets places c e h =
    rw (c, e)
    (and_from (places_fit (length targets) (places_of targets)) (shaped (stored need (length targets) (places_of targets)))
    (places_of_targets_fit targets (shaped_few need targets h))
    (subst (λ (ts : List ℕ). shaped (record { need = need; targets = ts }) ≡ true) (sym (targets_are_in_use targets)) h))

-- What a request stores.
pub request_stores_sound : (n job need : ℕ) (targets places : List ℕ) → counts_fit need (length targets) ≡ true → first_wrong n job 0 0 targets ≡ None → places ≡ places_of targets → sound need (length targets) places ≡ true
request_stores_sound n job need targets places fits f e =
    let rises = fitting_rises n job 0 targets (none_wrong_fits n job 0 0 targets f) in
    shaped_stores_sound need (length targets) targets places refl e (and_from (counts_fit need (length targets)) (rising 0 targets) fits rises)

fewer_zeros : (m n : ℕ) (zeros : List ℕ) → zeros ≡ replicate n 0 → drop m zeros ≡ replicate (n - m) 0
fewer_zeros m n zeros z = ap (drop m) z ∙ drop-replicate m n 0

put_together : (n : ℕ) (xs front back : List ℕ) → take n xs ≡ front → drop n xs ≡ back → xs ≡ front ++ back
put_together n xs front back f b = sym (take-append-drop n xs) ∙ rw (f, b) refl

-- The targets without one: those before it, then those after it, and then zeros.
pub stored_without_one : (ts zeros before after : List ℕ) (place left : ℕ) → zeros ≡ replicate TARGETS_MAX 0 → place < length ts → left ≡ length ts - (place + 1) → before ≡ take place ts → after ≡ take left (drop (place + 1) ts)
    → put_mid place (length ts - 1 - place) (before ++ drop place zeros) after ≡ places_of (remove ts place)
stored_without_one ts zeros before after place left z within rest b a =
    let one_more = add-one place in
    let size : length before ≡ place = ap length b ∙ length-take-le place ts (omega arith) in
    let all : take left (drop (place + 1) ts) ≡ drop (place + 1) ts = take_all left (drop (place + 1) ts) (omega (arith, length-drop (place + 1) ts)) in
    let few : length after ≡ length ts - 1 - place = omega (arith, ap length (a ∙ all), length-drop (place + 1) ts) in
    let kept : length (remove ts place) ≡ length ts - 1 = omega (arith, length-remove ts place within) in
    let made = put_mid place (length ts - 1 - place) (before ++ drop place zeros) after in
    let first : take (length ts - 1) made ≡ remove ts place =
    take-put_mid place (length ts - 1 - place) (before ++ drop place zeros) after (length ts - 1) (omega arith) (omega (arith, length-append {A = ℕ}))
    ∙ rw (take-append-le place before (drop place zeros) (omega arith), b, take-take place place ts (omega arith), a, all, one_more) in
    let behind : drop (length ts - 1) made ≡ replicate (TARGETS_MAX - length (remove ts place)) 0 =
    drop-put_mid place (length ts - 1 - place) (before ++ drop place zeros) after (length ts - 1) (omega arith) (omega (arith, length-append {A = ℕ})) few
    ∙ drop-append-drop place zeros before (length ts - 1) (omega arith) size
    ∙ fewer_zeros (length ts - 1) TARGETS_MAX zeros z
    ∙ ap (λ k. replicate (TARGETS_MAX - k) 0) (sym kept) in
    put_together (length ts - 1) made (remove ts place) (replicate (TARGETS_MAX - length (remove ts place)) 0) first behind

-- What is stored without a wait.
pub without_wait_stores_sound : (need place : ℕ) (used left : List ℕ) → shaped (record { need = need; targets = used }) ≡ true → 1 < need → place < length used → left ≡ places_of (remove used place) → sound (need - 1) (length used - 1) left ≡ true
without_wait_stores_sound need place used left h more within e =
    let p = and_parts (counts_fit need (length used)) (rising 0 used) h in
    let rest = remove used place in
    let one_less = length-remove used place within in
    let fits = one_less_fits need (length used) (length rest) (fit_tells need (length used) p.0) one_less more in
    shaped_stores_sound (need - 1) (length used - 1) rest left (omega arith) e
    (and_from (counts_fit (need - 1) (length rest)) (rising 0 rest) fits (removed_still_rises 0 used place p.1))
