-- The history of a book: the calls that still count, and nothing of the book itself.
use Rattle.std.specs.Prelude.{cond, replicate}
use Rattle.groups.specs.State.{Summary}
use Rattle.groups.specs.History.{History, join, nest, merge, forget, history_summary}
use Rattle.histories.specs.Calls.{Answer, accepted, Call, edits, opens, keeps, cancels}
use Rattle.histories.specs.Rules.{Parameters, Rules, answer}

-- What an accepted call does to the lists.
abbrev pub lists_after : {E : Type 0} → History E → Call E → History E
lists_after h (edits e) = join h e
lists_after h opens = nest h
lists_after h (keeps mark depth) = merge h
lists_after h (cancels mark depth) = forget h

module _ {P E K : Type 0} (R : Rules P E K) where
  -- The rows that the surviving calls draw on idle rows, the number of open groups, and how many calls these hold.
  abbrev pub summary_of : Parameters K → History E → Summary P
  summary_of t h = history_summary R.job_of R.next_row (replicate t.jobs R.idle) h

  -- A history's answer goes by its own rows and lists.
  abbrev pub answers : Parameters K → History E → Call E → Answer
  answers t h c = answer R t (summary_of t h) c

  -- A history fed a call; a refused call changes no list.
  abbrev pub history_after : Parameters K → History E → Call E → History E
  history_after t h c = cond (accepted (answers t h c)) (lists_after h c) h
