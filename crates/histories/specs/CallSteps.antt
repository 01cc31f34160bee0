-- What a call's contract says, and what that means to histories.
use Rattle.std.specs.Prelude.{◌≡◌, ℕ, ◌+◌, ◌-◌, Bool, cond, length, replicate}
use Rattle.groups.specs.History.{History}
use Rattle.groups.specs.Representation.{RepresentsFrom}
use Rattle.histories.specs.Calls.{Answer, accepted, Call, edits, opens, keeps, cancels}
use Rattle.histories.specs.Rules.{BookState, parameters, Rules, says, after}
use Rattle.histories.specs.Histories.{answers, history_after}

-- The same mark, and as many groups open: a ticket fits after as it did before.
abbrev pub SameGroups : {P K : Type 0} → BookState P K → BookState P K → Type 0
SameGroups b b' = (b'.state.mark ≡ b.state.mark) × (length b'.state.groups ≡ length b.state.groups)

-- How many groups are open after a call, by whether it is accepted.
abbrev pub depth_after : {E : Type 0} → Call E → (taken : Bool) → ℕ → ℕ
depth_after (edits e) taken depth = depth
depth_after opens taken depth = cond taken (depth + 1) depth
depth_after (keeps mark d) taken depth = cond taken (depth - 1) depth
depth_after (cancels mark d) taken depth = cond taken (depth - 1) depth

module _ {P E K : Type 0} (R : Rules P E K) where
  -- A book represents a history: same rows, same depth, and what the trail would undo.
  abbrev pub Represents : BookState P K → History E → Type 0
  Represents s h = RepresentsFrom R.job_of R.next_row (replicate (length s.state.rows) R.idle) s.state h

  -- Whatever history a book represents before a call, it answers as that history, and then represents that history fed the call.
  abbrev pub Simulates : Type 0
  Simulates = (s : BookState P K) (c : Call E) (h : History E) → Represents s h → (says R s c ≡ answers R (parameters s) h c) × Represents (after R s c) (history_after R (parameters s) h c)

  -- A call made on a book, with its answer: it answers and changes the book by the rules. What tickets go by stands by itself: the mark,
  -- which stays, and how many groups are open.
  pub record CallStep (s : BookState P K) (c : Call E) (a : Answer) (s' : BookState P K) : Type 0 where
    pub value : a ≡ says R s c
    pub after : s' ≡ after R s c
    pub mark : s'.state.mark ≡ s.state.mark
    pub depth : length s'.state.groups ≡ depth_after c (accepted a) (length s.state.groups)
