-- What the program gives back of a life, and what it stands for.
use Rattle.std.specs.Prelude.{◌≡◌, ℕ, List, [], ◌∷◌, ◌++◌, map, take, drop, Result}
use Rattle.carriers.specs.Carriers.{Carried}
use Rattle.exchange.specs.declared.record.RunRecord.{RunRecord}
use Rattle.groups.specs.declared.store.Ending.{Ending}
use Rattle.groups.specs.declared.store.TicketId.{TicketId}
use Rattle.rows.specs.Waiting.{Waiting}
use Rattle.groups.specs.History.{History, begun}
use Rattle.detection.specs.declared.fault.DetectionFault.{DetectionFault}
use Rattle.detection.specs.declared.verdict.Detection.{Detection}
use Rattle.store.specs.Plain.{Edit, plain, PlainBook, Fixed}
use Rattle.histories.specs.Calls.{edits, opens, ends}
use Rattle.lives.specs.Events.{Event, made, detected, special, Does, Life}
use Rattle.book.specs.Law.{ScriptRun, RunsOnBook, RunsOnHistory}
use Rattle.store.specs.Creation.{new_book, new_parameters}
use Rattle.scripts.specs.Workspace.{Workspace}
use Rattle.scripts.specs.ScriptRuns.{script_written}
use Rattle.store.specs.Snapshots.{snapshot_view}
use Rattle.histories.specs.Rules.{Parameters}
use Rattle.histories.specs.Machines.{book_machine, history_machine, View, view_of}
use Rattle.store.specs.Replies.{edit_of, edit_reply, open_reply_by_id, end_reply_by_id}
use Rattle.store.specs.declared.fault.BookFault.{BookFault}
use Rattle.store.specs.declared.fault.RefusedTicketId.{RefusedTicketId}
use Rattle.book.specs.declared.life.call.Answer.{Answer}
use Rattle.book.specs.declared.life.call.Answer.TheVariants.{Opened, Ended, Detected, Edited, Ran}
use Rattle.book.specs.declared.life.call.Call.{Call}
use Rattle.book.specs.declared.life.call.Call.TheVariants.{Open, End, Detect, Edit as Make, Run}
use Rattle.book.specs.declared.life.moment.Moment.{Moment}
use Rattle.store.specs.declared.snapshot.Snapshot.{Snapshot}
use Rattle.scripts.specs.declared.fault.FinishedScript.{FinishedScript}
use Rattle.scripts.specs.declared.fault.StoppedScript.{StoppedScript}

-- What happens to a plain book.
abbrev pub BookEvent : Type 0
BookEvent = Event Edit ScriptRun

-- An event happens to a plain book.
abbrev pub DoesOnBook : PlainBook → BookEvent → PlainBook → Type 0
DoesOnBook = Does plain (book_machine plain) RunsOnBook

-- The life of a plain book.
abbrev pub LifeOfBook : (first : PlainBook) → List BookEvent → List (View Waiting) → PlainBook → Type 0
LifeOfBook = Life plain (book_machine plain) RunsOnBook

-- The life of a history.
abbrev pub LifeOfHistory : Parameters Fixed → (first : History Edit) → List BookEvent → List (View Waiting) → History Edit → Type 0
LifeOfHistory t = Life plain (history_machine plain t) (RunsOnHistory t)

-- A script that is run, as an event.
abbrev pub script_event : List ℕ → (before : Workspace) → Result FinishedScript StoppedScript → (after : Workspace) → BookEvent
script_event script before answer after = special (record { script = script; before = before; answer = answer; after = after })

-- What was seen at a moment.
abbrev pub seen_at : Moment → View Waiting
seen_at m = snapshot_view m.seen

-- What the call of a moment answered.
abbrev pub answer_at : Moment → Answer
answer_at m = m.answer

-- How many answer bytes a call has written: only a script writes any.
abbrev pub written_by : Answer → ℕ
written_by (Opened r) = 0
written_by (Ended r) = 0
written_by (Detected r) = 0
written_by (Edited r) = 0
written_by (Ran r) = script_written r

-- A call with its answer is an event; `before` is what is lent to it, and `after` what is left.
pub data IsEvent : (before : Workspace) → Call → Answer → BookEvent → (after : Workspace) → Type 0 where
  opening : {l : Workspace} {r : Result TicketId BookFault} → IsEvent l Open (Opened r) (made opens (open_reply_by_id r)) l
  ending : {l : Workspace} {e : Ending} {k : TicketId} {r : Result (Unit {0}) RefusedTicketId} → IsEvent l (End e k) (Ended r) (made (ends e k.mark k.depth) (end_reply_by_id r)) l
  detecting : {l : Workspace} {job : ℕ} {r : Result Detection DetectionFault} {is : List RunRecord} {after : Carried}
      → IsEvent l (Detect job) (Detected r) (detected job l.records l.carrier r is after) (record { records = is; carrier = after; bytes = l.bytes })
  editing : {l : Workspace} {e : _} {r : Result (Unit {0}) BookFault} → IsEvent l (Make e) (Edited r) (made (edits (edit_of e)) (edit_reply r)) l
  running : {l m : Workspace} {script : _} {r : Result FinishedScript StoppedScript} → IsEvent l (Run script) (Ran r) (script_event script.now l r m) m

-- The answer bytes that a call has written are not lent again.
abbrev pub unwritten : Answer → Workspace → Workspace
unwritten a l = record { records = l.records; carrier = l.carrier; bytes = drop (written_by a) l.bytes }

-- The calls of a life, one after the other, with what is lent to each: what the one before has left. All the bytes written come one
-- behind the other.
pub data AreEvents (first : Workspace) : List Call → List Answer → List BookEvent → (bytes : List ℕ) → Workspace → Type 0 where
  nothing : AreEvents first [] [] [] [] first
  then : {ks : List Call} {rs : List Answer} {es : List BookEvent} {bytes : List ℕ} {l m : Workspace} {k : Call} {a : Answer} {e : BookEvent}
      → AreEvents first ks rs es bytes l → IsEvent l k a e m
      → AreEvents first (ks ++ k ∷ []) (rs ++ a ∷ []) (es ++ e ∷ []) (bytes ++ take (written_by a) m.bytes) (unwritten a m)

-- A whole life was lived: the calls happened, with the answers given back; all this happened to a book, from its creation on, and to the
-- history that was told the same at creation, both by the rules; and what is given back as seen was seen of them, at creation and after
-- each call.
pub record IsLife (jobs mark memory : ℕ) (calls : List Call) (first : Snapshot) (moments : List Moment) (before after : Workspace) : Type 0 where
  pub events : List BookEvent
  pub bytes : List ℕ
  pub left : Workspace
  pub happened : AreEvents before calls (map answer_at moments) events bytes left
  pub book : PlainBook
  pub lived : LifeOfBook (new_book jobs mark memory) events (map seen_at moments) book
  pub history : History Edit
  pub follows : LifeOfHistory (new_parameters jobs mark memory) begun events (map seen_at moments) history
  -- of the book the same is seen, by the law of lives
  pub created : snapshot_view first ≡ view_of (history_machine plain (new_parameters jobs mark memory)) begun
  -- what is left of the lent memory: the bytes written stand before those that were not
  pub workspace : after ≡ record { records = left.records; carrier = left.carrier; bytes = bytes ++ left.bytes }
