-- What a kind of book is, and what its calls answer and do.
use Rattle.std.specs.Prelude.{ℕ, ◌+◌, cond, List, [], length, replicate}
use Rattle.rows.specs.Waiting.{Waiting}
use Rattle.groups.specs.State.{State, Summary, summary, can_open, innermost, written, opened, kept, cancelled}
use Rattle.histories.specs.Calls.{Answer, done, ticket, accepted, too_deep, not_innermost, Call, edits, opens, keeps, cancels}

-- What creation fixes of a book: how many jobs it has, the mark of its tickets, how many records its trail has, and what this kind of book
-- fixes besides, for instance limits.
pub record Parameters (K : Type 0) : Type 0 where
  pub jobs : ℕ
  pub mark : ℕ
  pub trail_room : ℕ
  pub fixed : K

-- A book: what its creation has fixed besides size, mark and trail; and its rows under groups, which know the rest.
pub record BookState (P K : Type 0) : Type 0 where
  pub fixed : K
  pub state : State P

-- A book of these.
abbrev pub book_state : {P K : Type 0} → K → State P → BookState P K
book_state k s = record { fixed = k; state = s }

-- All that the creation of a book has fixed.
abbrev pub parameters : {P K : Type 0} → BookState P K → Parameters K
parameters b = record { jobs = length b.state.rows; mark = b.state.mark; trail_room = b.state.trail_room; fixed = b.fixed }

-- A kind of book, of rows P and edits E, whose creation fixes K: the row that every job has at first; the job whose row an edit writes; the
-- row that it writes, by the rows that it finds; the answer to an edit, by what creation has fixed and by what answers go by; and the rows as
-- those of a table, over which detections run.
pub record Rules (P E K : Type 0) : Type 0 where
  pub idle : P
  pub job_of : E → ℕ
  pub next_row : List P → E → P
  pub edit_answer : Parameters K → Summary P → E → Answer
  pub table : List P → List Waiting

module _ {P E K : Type 0} (R : Rules P E K) where
  -- A new book of these parameters: every job has the first row, and no group is open.
  abbrev pub fresh_book : Parameters K → BookState P K
  fresh_book t = book_state t.fixed (record { rows = replicate t.jobs R.idle; groups = []; mark = t.mark; trail_room = t.trail_room })

  -- What an accepted call makes of the rows and groups.
  abbrev pub changed_state : State P → Call E → State P
  changed_state s (edits e) = written s (R.job_of e) (R.next_row s.rows e)
  changed_state s opens = opened s
  changed_state s (keeps mark depth) = kept s
  changed_state s (cancels mark depth) = cancelled s

  -- And of the book; what is fixed stays.
  abbrev pub changed : BookState P K → Call E → BookState P K
  changed b c = book_state b.fixed (changed_state b.state c)

  -- The check of an ending: 9, with its ticket.
  abbrev pub ending_answer : Parameters K → Summary P → (mark depth : ℕ) → Answer
  ending_answer t f mark depth = cond (innermost t.mark f mark depth) done (not_innermost mark depth)

  -- The answer to each call; the check of an opening: 8.
  abbrev pub answer : Parameters K → Summary P → Call E → Answer
  answer t f (edits e) = R.edit_answer t f e
  answer t f opens = cond (can_open f) (ticket t.mark (f.depth + 1)) too_deep
  answer t f (keeps mark depth) = ending_answer t f mark depth
  answer t f (cancels mark depth) = ending_answer t f mark depth

  -- What a book answers to a call.
  abbrev pub says : BookState P K → Call E → Answer
  says b c = answer (parameters b) (summary b.state) c

  -- What it is afterwards: changed where the call is accepted, and else as before.
  abbrev pub after : BookState P K → Call E → BookState P K
  after b c = cond (accepted (says b c)) (changed b c) b
