-- Undo records put back.
use Rattle.std.proofs.Common.{◌≡◌, ℕ, ◌<◌, ◌≤◌, Bool, true, false, List, [], ◌∷◌, ◌++◌, length, take, drop, set, sym, refl, ap, ◌∙◌, arith}
use Rattle.std.proofs.lemmas.List.{drop-append-le, take-append-le, length_push}
use Rattle.containers.specs.Held.{Held}
use Rattle.containers.specs.Taken.{TookInto}
use Rattle.groups.specs.declared.store.UndoRecord.{UndoRecord}
use Rattle.groups.specs.State.{State, rolled_back}

module _ {P : Type 0} where
  -- two states with the same parts
  pub same_state : {rows rows' : List P} {gs gs' : List (List (UndoRecord P))} {m m' r r' : ℕ} → rows ≡ rows' → gs ≡ gs' → m ≡ m' → r ≡ r' → ◌≡◌ {A = State P} (record { rows = rows; groups = gs; mark = m; trail_room = r }) (record { rows = rows'; groups = gs'; mark = m'; trail_room = r' })
  same_state a b c d = cc

  pub rolled_back-++ : (rows : List P) (xs ys : List (UndoRecord P)) → rolled_back rows (xs ++ ys) ≡ rolled_back (rolled_back rows ys) xs
  rolled_back-++ rows [] ys = refl
  rolled_back-++ rows (x ∷ xs) ys = ap (λ w. set w x.job x.row) (rolled_back-++ rows xs ys)

  -- the newest one put back
  pub put_back : (rows : List P) (before after : Held (UndoRecord P)) (taken : Bool) (o o' : UndoRecord P) (start : ℕ) → TookInto (λ s. s) (λ s x t. s.items ≡ t.items ++ x ∷ []) taken before after o o' → start < length before.items → (rolled_back (set rows o'.job o'.row) (drop start after.items) ≡ rolled_back rows (drop start before.items)) × (take start after.items ≡ take start before.items) × (after.capacity ≡ before.capacity)
  put_back rows before after true o o' start t l =
      let n : start ≤ length after.items = omega (arith, ap length t.0, length_push after.items o') in
      let d : drop start before.items ≡ drop start after.items ++ o' ∷ [] = ap (drop start) t.0 ∙ drop-append-le start after.items (o' ∷ []) n in
      let k : take start before.items ≡ take start after.items = ap (take start) t.0 ∙ take-append-le start after.items (o' ∷ []) n in
      (sym (ap (rolled_back rows) d ∙ rolled_back-++ rows (drop start after.items) (o' ∷ [])), sym k, t.1)
  put_back rows before after false o o' start t l = absurd (omega (arith, ap length t.0))
