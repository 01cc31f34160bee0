-- What a script counts as: the calls of its commands before the first check that stops it, and then the cancellings of the groups that these
-- have opened and left open.
use Rattle.std.specs.Prelude.{◌≡◌, ℕ, zero, suc, ◌+◌, ◌-◌, ◌<◌, true, List, [], ◌∷◌, ◌++◌, length, take, fold, flat_map, Ok, Err, IfOk, Result, ⊤}
use Rattle.rows.specs.Waiting.{Waiting}
use Rattle.groups.specs.declared.store.Ending.TheVariants.{Keep, Cancel}
use Rattle.histories.specs.Calls.{accepted, Call, edits, opens, cancels, ends}
use Rattle.histories.specs.Machines.{Machine}
use Rattle.store.specs.Plain.{Edit, requests, grants}
use Rattle.scripts.specs.Commands.{Command, makes, opening, ending, detecting}
use Rattle.scripts.specs.declared.fault.StoppedScript.{StoppedScript}
use Rattle.scripts.specs.declared.fault.FinishedScript.{FinishedScript}

-- The bytes of a command: its letter in ASCII, R, G, O, K, C or D, and its operands. A request tells how many targets follow.
abbrev pub command_bytes : Command → List ℕ
command_bytes (makes (requests job need targets)) = 82 ∷ job ∷ need ∷ length targets ∷ targets
command_bytes (makes (grants granter waiter)) = 71 ∷ granter ∷ waiter ∷ []
command_bytes opening = 79 ∷ []
command_bytes (ending Keep) = 75 ∷ []
command_bytes (ending Cancel) = 67 ∷ []
command_bytes (detecting job) = 68 ∷ job ∷ []

-- The bytes of a script before the command at which a check stopped it; all of them where none did.
abbrev pub carried_bytes : (script : List ℕ) → Result FinishedScript StoppedScript → List ℕ
carried_bytes script (Ok finished) = script
carried_bytes script (Err stopped) = take stopped.offset script

-- How many commands are carried out, as the answer tells: all; or as many as come before the one that is stopped.
abbrev pub script_commands : Result FinishedScript StoppedScript → ℕ
script_commands (Ok finished) = finished.commands
script_commands (Err stopped) = stopped.index

-- How many groups are open after commands, of so many before them.
abbrev pub groups_after : (groups : ℕ) → List Command → ℕ
groups_after groups [] = groups
groups_after groups (makes e ∷ commands) = groups_after groups commands
groups_after groups (opening ∷ commands) = groups_after (groups + 1) commands
groups_after groups (ending e ∷ commands) = groups_after (groups - 1) commands
groups_after groups (detecting job ∷ commands) = groups_after groups commands

-- Each ending comes where a group of the script's own is open; so many are at first.
abbrev pub EndsOwnGroups : (own : ℕ) → List Command → Type 0
EndsOwnGroups own [] = ⊤
EndsOwnGroups own (makes e ∷ commands) = EndsOwnGroups own commands
EndsOwnGroups own (opening ∷ commands) = EndsOwnGroups (own + 1) commands
EndsOwnGroups own (ending e ∷ commands) = (0 < own) × EndsOwnGroups (own - 1) commands
EndsOwnGroups own (detecting job ∷ commands) = EndsOwnGroups own commands

-- The calls of commands, where tickets have this mark and so many groups are open. An ending is made with the ticket of the innermost
-- group; a detection is no call.
abbrev pub command_calls : (mark depth : ℕ) → List Command → List (Call Edit)
command_calls mark depth [] = []
command_calls mark depth (makes e ∷ commands) = edits e ∷ command_calls mark depth commands
command_calls mark depth (opening ∷ commands) = opens ∷ command_calls mark (depth + 1) commands
command_calls mark depth (ending e ∷ commands) = ends e mark depth ∷ command_calls mark (depth - 1) commands
command_calls mark depth (detecting job ∷ commands) = command_calls mark depth commands

-- The cancellings of so many groups, the innermost first, where so many are open.
abbrev pub cancelling_calls : (mark depth groups : ℕ) → List (Call Edit)
cancelling_calls mark depth zero = []
cancelling_calls mark depth (suc groups) = cancels mark depth ∷ cancelling_calls mark (depth - 1) groups

-- The calls of commands, and then the cancellings of the groups that they leave open.
abbrev pub script_calls : (mark depth : ℕ) → List Command → List (Call Edit)
script_calls mark depth commands = command_calls mark depth commands ++ cancelling_calls mark (groups_after depth commands) (groups_after 0 commands)

module _ {P E X : Type 0} (S : Machine P E X) where
  -- What answers calls, after some that are made in order.
  abbrev pub after_calls : X → List (Call E) → X
  after_calls x calls = fold S.after x calls

  -- Each call is accepted, as those before it have left what answers.
  abbrev pub AllAccepted : X → List (Call E) → Type 0
  AllAccepted x [] = ⊤
  AllAccepted x (c ∷ calls) = (accepted (S.says x c) ≡ true) × AllAccepted (S.after x c) calls

-- A script counts as calls, on a book or on a history. Its commands are told by its bytes, which are theirs, one behind the other, up to the
-- one that a check stops; which check does, and that none stops those before it, the rules of scripts tell.
pub record CountsAs {X : Type 0} (S : Machine Waiting Edit X) (x : X) (script : List ℕ) (answer : Result FinishedScript StoppedScript) (x' : X) : Type 0 where
  pub commands : List Command
  pub bytes : flat_map command_bytes commands ≡ carried_bytes script answer
  pub number : length commands ≡ script_commands answer
  pub own : EndsOwnGroups 0 commands
  pub cancelled : IfOk answer (λ finished. finished.cancelled ≡ groups_after 0 commands)
  -- every call is accepted, and they are all that happens
  pub accepted : AllAccepted S x (script_calls (S.mark x) (S.depth x) commands)
  pub leaves : x' ≡ after_calls S x (script_calls (S.mark x) (S.depth x) commands)
  -- as many groups are open as before
  pub depth : S.depth x' ≡ S.depth x
