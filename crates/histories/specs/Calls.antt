-- The calls of a book, whatever its edits are, and what they answer.
use Rattle.std.specs.Prelude.{ℕ, Bool, true, false, None, Option}
use Rattle.groups.specs.declared.store.Ending.{Ending}
use Rattle.groups.specs.declared.store.Ending.TheVariants.{Keep, Cancel}

-- Every call. An edit writes one row. An ending is told by what its ticket tells: a mark and a depth.
pub data Call (E : Type 0) : Type 0 where
  edits : E → Call E
  opens : Call E
  keeps : (mark depth : ℕ) → Call E
  cancels : (mark depth : ℕ) → Call E

-- An ending, which keeps the innermost group or cancels it.
abbrev pub ends : {E : Type 0} → Ending → (mark depth : ℕ) → Call E
ends Keep mark depth = keeps mark depth
ends Cancel mark depth = cancels mark depth

-- An answer: done; a ticket; a refusal's number and value; or a refused ending's number and its ticket.
pub data Answer : Type 0 where
  done : Answer
  ticket : (mark depth : ℕ) → Answer
  stopped : (number : ℕ) (value : Option ℕ) → Answer
  returned : (number mark depth : ℕ) → Answer

-- A call is accepted where it is done or gives a ticket.
abbrev pub accepted : Answer → Bool
accepted done = true
accepted (ticket mark depth) = true
accepted (stopped number value) = false
accepted (returned number mark depth) = false

-- 8, for an opening: eight groups are open.
abbrev pub too_deep : Answer
too_deep = stopped 8 None

-- 9, for an ending: the ticket is not the innermost group's; it comes back.
abbrev pub not_innermost : (mark depth : ℕ) → Answer
not_innermost mark depth = returned 9 mark depth

-- 5, for the edits of any kind of book: the trail is full.
abbrev pub trail_full : Answer
trail_full = stopped 5 None
