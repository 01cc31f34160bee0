-- What a container is to those who use it.
use Rattle.std.specs.Prelude.{ℕ, Bool, List, [], ◌∷◌, ◌++◌, length, nat_lt}

-- The records that it holds, in the order in which they were put, and how many it can hold.
pub record Held (T : Type 0) : Type 0 where
  pub items : List T
  pub capacity : ℕ

-- Nothing is held yet.
abbrev pub vacant : {T : Type 0} → (capacity : ℕ) → Held T
vacant capacity = record { items = []; capacity = capacity }

-- One more record fits.
abbrev pub has_room : {T : Type 0} → Held T → Bool
has_room h = nat_lt (length h.items) h.capacity

-- A record more, put last.
abbrev pub with_last : {T : Type 0} → Held T → T → Held T
with_last h x = record { items = h.items ++ x ∷ []; capacity = h.capacity }

-- The same container with other records.
abbrev pub holding : {T : Type 0} → Held T → List T → Held T
holding h items = record { items = items; capacity = h.capacity }
