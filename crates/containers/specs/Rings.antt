-- The cells of a ring.
use Rattle.std.specs.Prelude.{◌≡◌, ℕ, ◌+◌, ◌-◌, ◌≤◌, ◌⊎◌, List, ◌++◌, take, drop}

-- The cells of a ring, from the cell h to the last, and then from the first up to h.
abbrev pub turned : {X : Type 0} → ℕ → List X → List X
turned h cells = drop h cells ++ take h cells

-- The cell p comes n cells after the cell h, ahead or round the end of a ring of `room` cells.
abbrev pub IsCellAfter : (room h n p : ℕ) → Type 0
IsCellAfter room h n p = (p ≡ h + n) ⊎ (p + room ≡ h + n)

-- In a ring of `room` cells, n records begin at the cell h, and the cell t comes after the last of them.
pub record Ring (room h t n : ℕ) : Type 0 where
  pub few : n ≤ room
  pub head : h ≤ room - 1
  pub tail : t ≤ room - 1
  pub after : IsCellAfter room h n t
