-- The plain book: its edits, what an accepted one writes, what each answers, and the record of its rules.
use Rattle.std.specs.Prelude.{ℕ, cond, not, ◌||◌, List, None, Ok, Err, Result, nat_le, nat_lt}
use Rattle.rows.specs.Waiting.{Waiting, idle, at, among}
use Rattle.rows.specs.declared.plain.RowFault.{RowFault}
use Rattle.rows.specs.Changes.{requested, granted}
use Rattle.groups.specs.State.{State, Summary, full}
use Rattle.histories.specs.Calls.{Answer, done, stopped, trail_full}
use Rattle.histories.specs.Rules.{BookState, book_state, Parameters, Rules}
use Rattle.store.specs.declared.fault.BookFault.{BookFault}
use Rattle.store.specs.Faults.{number, value, of_row}

-- What creation fixes of a plain book besides its size, its mark and its trail, for instance limits: nothing.
abbrev pub Fixed : Type 0
Fixed = Unit {0}

-- What is fixed, and the rows of its jobs under groups.
abbrev pub PlainBook : Type 0
PlainBook = BookState Waiting Fixed

-- The book of these rows and groups.
abbrev pub book_of : State Waiting → PlainBook
book_of s = book_state tt s

-- A call that writes one row: a request by `job`, or a grant from `granter` to `waiter`.
pub data Edit : Type 0 where
  requests : (job need : ℕ) (targets : List ℕ) → Edit
  grants : (granter waiter : ℕ) → Edit

-- The job whose row an edit writes.
abbrev pub job_of : Edit → ℕ
job_of (requests job need targets) = job
job_of (grants granter waiter) = waiter

-- The row that it writes: what is requested; or the waiter's row without the wait for the granter and with one needed less.
abbrev pub next_row : List Waiting → Edit → Waiting
next_row rows (requests job need targets) = record { need = need; targets = targets }
next_row rows (grants granter waiter) = granted granter (at rows waiter)

-- A refusal, by its number and value.
abbrev pub refusal : BookFault → Answer
refusal fault = stopped (number fault) (value fault)

-- A request that makes no row is refused for that: 3, wrong counts; 4, a wrong target, with its place.
abbrev pub unless_no_row : Result Waiting RowFault → Answer → Answer
unless_no_row (Ok row) answer = answer
unless_no_row (Err fault) answer = refusal (of_row fault)

-- The checks of a request: 1, no such job; 2, the job is blocked; 3, wrong counts; 4, a wrong target; 5, the trail is full. And those of a
-- grant: 1, no such job; 6, the granter is blocked; 7, no such wait; 5.
abbrev pub edit_answer : Parameters Fixed → Summary Waiting → Edit → Answer
edit_answer t f (requests job need targets) =
    cond (nat_le t.jobs job) (stopped 1 None)
    (cond (nat_lt 0 (at f.rows job).need) (stopped 2 None)
    (unless_no_row (requested t.jobs job need targets)
    (cond (full t.trail_room f) trail_full
    done)))
edit_answer t f (grants granter waiter) =
    cond (nat_le t.jobs granter || nat_le t.jobs waiter) (stopped 1 None)
    (cond (nat_lt 0 (at f.rows granter).need) (stopped 6 None)
    (cond (not (among granter (at f.rows waiter).targets)) (stopped 7 None)
    (cond (full t.trail_room f) trail_full
    done)))

-- Its rows are rows of waits, its edits are requests and grants, and detections run over its rows as they are.
abbrev pub plain : Rules Waiting Edit Fixed
plain = record { idle = idle; job_of = job_of; next_row = next_row; edit_answer = edit_answer; table = λ rows. rows }
