-- What the reader of a script tells of the bytes unread.
use Rattle.std.specs.Prelude.{◌≡◌, ℕ, ◌+◌, ◌-◌, ◌<◌, ◌≤◌, List, [], ◌∷◌, length, take, drop, Some, MatchResult, Result}
use Rattle.std.specs.Borrow.{MutBor}
use Rattle.scripts.specs.Commands.{Command, makes, opening, ending, detecting, Head, whole}
use Rattle.scripts.specs.ScriptFaults.{refusal_of}
use Rattle.scripts.specs.Scripts.{unreadable}
use Rattle.store.specs.Replies.{edit_of}
use Rattle.scripts.specs.declared.command.Command.{Command as Told}
use Rattle.scripts.specs.declared.command.Command.TheVariants.{Open, End, Detect, Edit}
use Rattle.scripts.specs.declared.fault.ScriptFault.{ScriptFault}
use Rattle.scripts.specs.declared.fault.ScriptFault.TheVariants.{CutOff}

-- Where the reader stands when the guard over its place is gone: what the guard's first field, which is the place, then points to.
abbrev pub place_left : {Rest : Type 0} → MutBor ℕ × Rest → ℕ
place_left left = left.0.now

-- The command that is told.
abbrev pub command_of : Told → Command
command_of Open = opening
command_of (End e) = ending e
command_of (Detect job) = detecting job
command_of (Edit e) = makes (edit_of e)

-- The bytes unread begin with the byte read; or there are none.
abbrev pub ByteRead : (script : List ℕ) (from to : ℕ) → Result ℕ ScriptFault → Type 0
ByteRead script from to r =
    MatchResult r
    (λ b. (drop from script ≡ b ∷ drop to script) × (to ≡ from + 1) × (to ≤ length script))
    (λ fault. (fault ≡ CutOff) × (drop from script ≡ []))

-- The bytes unread begin with the bytes read; or there are fewer.
abbrev pub BytesRead : (script : List ℕ) (from to count : ℕ) → List ℕ → Type 0
BytesRead script from to count bs = (bs ≡ take count (drop from script)) × (to ≡ from + count) × (to ≤ length script)

-- There are fewer bytes unread than are wanted.
abbrev pub Fewer : (script : List ℕ) (from count : ℕ) → ScriptFault → Type 0
Fewer script from count fault = (fault ≡ CutOff) × (length (drop from script) < count)

-- The bytes unread begin with the command; or they begin with none. What stands at their head is told by `at`, and so many bytes of the
-- command, its letter, were read before.
abbrev pub CommandRead : (List ℕ → Head) → (before : ℕ) (script : List ℕ) (from to : ℕ) → Result Told ScriptFault → Type 0
CommandRead at before script from to r =
    MatchResult r
    (λ c. (at (drop from script) ≡ whole (command_of c) (to - from + before)) × (from < to) × (to ≤ length script))
    (λ fault. unreadable (at (drop from script)) ≡ Some (refusal_of fault))
