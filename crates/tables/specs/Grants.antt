-- Lists of lawful grants, and what they lead to.
use Rattle.std.specs.Prelude.{◌≡◌, ℕ, ◌<◌, true, List, [], ◌∷◌, length, slice_set}
use Rattle.rows.specs.Waiting.{Waiting, at, among}
use Rattle.rows.specs.Changes.{granted}

-- A grant: who grants, and who waits.
pub record Grant : Type 0 where
  pub granter : ℕ
  pub waiter : ℕ

-- The grant rule allows a grant when the granter is an active job and the waiter waits for it.
pub record IsAllowed (rows : List Waiting) (g : Grant) : Type 0 where
  pub job : g.granter < length rows
  pub active : (at rows g.granter).need ≡ 0
  pub waits : among g.granter (at rows g.waiter).targets ≡ true

-- The rows after a grant.
abbrev pub granted_rows : List Waiting → Grant → List Waiting
granted_rows rows g = slice_set rows g.waiter (granted g.granter (at rows g.waiter))

-- The rows after a list of them.
abbrev pub rows_after : List Waiting → List Grant → List Waiting
rows_after rows [] = rows
rows_after rows (g ∷ gs) = rows_after (granted_rows rows g) gs

-- Each grant of a lawful list is allowed after those before it; the empty list is lawful.
abbrev pub LawfulGrants : List Waiting → List Grant → Type 0
LawfulGrants rows [] = Unit {0}
LawfulGrants rows (g ∷ gs) = IsAllowed rows g × LawfulGrants (granted_rows rows g) gs

-- Some list of lawful grants makes a job active.
abbrev pub CanBeFreed : List Waiting → ℕ → Type 0
CanBeFreed rows v = (gs : List Grant) × LawfulGrants rows gs × ((at (rows_after rows gs) v).need ≡ 0)
