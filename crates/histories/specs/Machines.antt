-- What calls can be made on: a book, by its state, or a history. The rules of lives are stated over either.
use Rattle.std.specs.Prelude.{ℕ, List, length}
use Rattle.groups.specs.History.{History}
use Rattle.histories.specs.Calls.{Answer, Call}
use Rattle.histories.specs.Rules.{Parameters, BookState, Rules, says, after}
use Rattle.histories.specs.Histories.{summary_of, answers, history_after}

-- What a machine answers to a call, what it is afterwards, and what can be seen of it; and the mark of its tickets.
pub record Machine (P E X : Type 0) : Type 0 where
  pub mark : X → ℕ
  pub says : X → Call E → Answer
  pub after : X → Call E → X
  pub rows : X → List P
  pub depth : X → ℕ

-- What can be seen: the rows, and how many groups are open.
pub record View (P : Type 0) : Type 0 where
  pub rows : List P
  pub depth : ℕ

-- What is seen of a machine.
abbrev pub view_of : {P E X : Type 0} → Machine P E X → X → View P
view_of S x = record { rows = S.rows x; depth = S.depth x }

module _ {P E K : Type 0} (R : Rules P E K) where
  -- A book.
  abbrev pub book_machine : Machine P E (BookState P K)
  book_machine = record {
    mark = λ b. b.state.mark;
    says = says R;
    after = after R;
    rows = λ b. b.state.rows;
    depth = λ b. length b.state.groups;
  }

  -- A history: it knows what creation was told and the calls that still count, and nothing of a book.
  abbrev pub history_machine : Parameters K → Machine P E (History E)
  history_machine t = record {
    mark = λ h. t.mark;
    says = answers R t;
    after = history_after R t;
    rows = λ h. (summary_of R t h).rows;
    depth = λ h. (summary_of R t h).depth;
  }
