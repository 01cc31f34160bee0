-- The places of stored rows: what they tell, and that those in use decide them.
use Rattle.std.proofs.Common.{◌≡◌, ℕ, zero, suc, ◌-◌, ◌≤◌, true, eqb, leb, ◌&&◌, List, [], ◌∷◌, ◌++◌, length, replicate, take, drop, sym, refl, ap, ◌∙◌, arith, length-append, length-drop}
use Rattle.std.proofs.lemmas.List.{length-take-le, take-append-drop, length-replicate}
use Rattle.std.proofs.Math.Seq.{take-append_seam, drop-append_seam}
use Rattle.std.proofs.lemmas.Bool.{and_parts, and_from, eqb-true, eq-eqb, leb-true, le-leb}
use Rattle.rows.specs.declared.plain.TheConstants.{TARGETS_MAX}
use Rattle.rows.specs.Storage.{all_zero, places_fit}
use Rattle.rows.specs.StoredRows.{places_of}

-- What fitting places tell.
pub record Places (count : ℕ) (places : List ℕ) : Type 0 where
  pub whole : length places ≡ TARGETS_MAX
  pub few : count ≤ TARGETS_MAX
  pub unused : all_zero (drop count places) ≡ true

pub places_tell : (count : ℕ) (places : List ℕ) → places_fit count places ≡ true → Places count places
places_tell count places h =
    let p = and_parts (eqb (length places) TARGETS_MAX) (leb count TARGETS_MAX && all_zero (drop count places)) h in
    let q = and_parts (leb count TARGETS_MAX) (all_zero (drop count places)) p.1 in
    record { whole = eqb-true _ _ p.0; few = leb-true _ _ q.0; unused = q.1 }

pub places_from : (count : ℕ) (places : List ℕ) → Places count places → places_fit count places ≡ true
places_from count places p =
    and_from (eqb (length places) TARGETS_MAX) (leb count TARGETS_MAX && all_zero (drop count places)) (eq-eqb _ _ p.whole)
    (and_from (leb count TARGETS_MAX) (all_zero (drop count places)) (le-leb _ _ p.few) p.unused)

-- Zeros.
zeros_are_replicated : (zs : List ℕ) → all_zero zs ≡ true → zs ≡ replicate (length zs) 0
zeros_are_replicated [] h = refl
zeros_are_replicated (z ∷ zs) h =
    let p = and_parts (eqb z 0) (all_zero zs) h in
    let first : z ≡ 0 = eqb-true z 0 p.0 in
    rw first (ap (λ rest. 0 ∷ rest) (zeros_are_replicated zs p.1))

replicated_are_zeros : (n : ℕ) → all_zero (replicate n 0) ≡ true
replicated_are_zeros zero = refl
replicated_are_zeros (suc n) = replicated_are_zeros n

-- Fitting places are those of the targets in use.
pub fitting_places_are_decided : (count : ℕ) (places : List ℕ) → places_fit count places ≡ true → places ≡ places_of (take count places)
fitting_places_are_decided count places h =
    let p = places_tell count places h in
    let used : length (take count places) ≡ count = length-take-le count places (omega (arith, p.whole, p.few)) in
    let unused : length (drop count places) ≡ TARGETS_MAX - length (take count places) = omega (arith, used, p.whole, length-drop count places) in
    sym (take-append-drop count places) ∙ ap (λ zs. take count places ++ zs) (zeros_are_replicated (drop count places) p.unused ∙ ap (λ n. replicate n 0) unused)

-- The places of targets fit, and the targets are in use in them.
pub targets_are_in_use : (targets : List ℕ) → take (length targets) (places_of targets) ≡ targets
targets_are_in_use targets = take-append_seam targets (replicate (TARGETS_MAX - length targets) 0)

pub places_of_targets_fit : (targets : List ℕ) → length targets ≤ TARGETS_MAX → places_fit (length targets) (places_of targets) ≡ true
places_of_targets_fit targets few =
    let rest = replicate (TARGETS_MAX - length targets) 0 in
    places_from (length targets) (places_of targets) (record {
      whole = omega (arith, length-append targets rest, length-replicate {A = ℕ} (TARGETS_MAX - length targets) 0);
      few = few;
      unused = ap all_zero (drop-append_seam targets rest) ∙ replicated_are_zeros (TARGETS_MAX - length targets);
    })
