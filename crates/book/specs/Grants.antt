-- The grants of a book are those of the rule of lawful grants.
use Rattle.std.specs.Prelude.{◌≡◌, ◌↔◌, false}
use Rattle.groups.specs.State.{summary, full}
use Rattle.tables.specs.Grants.{Grant, IsAllowed, granted_rows}
use Rattle.histories.specs.Calls.{done, Call, edits}
use Rattle.histories.specs.Rules.{says, changed}
use Rattle.store.specs.Plain.{Edit, grants, plain, PlainBook}

-- A grant as a call.
abbrev pub grant_call : Grant → Call Edit
grant_call g = edits (grants g.granter g.waiter)

-- Lawful grants, of which a detection tells, are the grants of a book: it accepts just those that the rule of lawful grants allows, unless
-- its trail is full, and is left the rows that the rule leaves.
pub record AsAllowed (s : PlainBook) (g : Grant) : Type 0 where
  pub accepts : (says plain s (grant_call g) ≡ done) ↔ (IsAllowed s.state.rows g × (full s.state.trail_room (summary s.state) ≡ false))
  pub leaves : (changed plain s (grant_call g)).state.rows ≡ granted_rows s.state.rows g

-- So it is of every book and every grant.
abbrev pub GrantsAreAllowed : Type 0
GrantsAreAllowed = (s : PlainBook) (g : Grant) → AsAllowed s g
