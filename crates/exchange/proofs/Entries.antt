-- What a run balances: weights of messages on their way, against entries in the records of the jobs.
use Rattle.std.proofs.Common.{◌≡◌, ℕ, ◌+◌, ◌<◌, ◌≤◌, Bool, true, false, cond, eqb, List, length, Some, None, Option}
use Rattle.carriers.specs.declared.message.Kind.{Kind}
use Rattle.carriers.specs.declared.message.Kind.TheVariants.{Notify, Done, Grant, Ack}
use Rattle.carriers.specs.declared.message.Message.{Message}
use Rattle.carriers.specs.declared.message.Wait.{Wait}
use Rattle.rows.specs.Waiting.{Waiting, among, is_active}
use Rattle.tables.specs.ClosedSets.{count}
use Rattle.tables.specs.Waits.{waiters}
use Rattle.exchange.specs.declared.record.RunRecord.{RunRecord}
use Rattle.exchange.proofs.LawfulRows.{need, targets}

-- 1 for the same job, and 0 for two.
abbrev pub same : ℕ → ℕ → ℕ
same a b = cond (eqb a b) 1 0

-- NOTIFY and DONE on the waits of x.
abbrev pub notice_of : ℕ → Kind → Wait → ℕ
notice_of x Notify w = same w.waiter x
notice_of x Done w = same w.waiter x
notice_of x Grant w = 0
notice_of x Ack w = 0

-- GRANT and ACK on the waits for x.
abbrev pub grant_of : ℕ → Kind → Wait → ℕ
grant_of x Notify w = 0
grant_of x Done w = 0
grant_of x Grant w = same w.target x
grant_of x Ack w = same w.target x

-- GRANT to x.
abbrev pub grant_to : ℕ → Kind → Wait → ℕ
grant_to x Notify w = 0
grant_to x Done w = 0
grant_to x Grant w = same w.waiter x
grant_to x Ack w = 0

-- NOTIFY on the wait (x, y).
abbrev pub notify_on : (x y : ℕ) → Kind → Wait → ℕ
notify_on x y Notify w = cond (eqb w.waiter x) (same w.target y) 0
notify_on x y Done w = 0
notify_on x y Grant w = 0
notify_on x y Ack w = 0

-- The first message of a wait, and the answer to it.
abbrev pub first : Kind → Wait → ℕ
first Notify w = 1
first Done w = 0
first Grant w = 1
first Ack w = 0

abbrev pub answer : Kind → Wait → ℕ
answer Notify w = 0
answer Done w = 1
answer Grant w = 0
answer Ack w = 1

-- A wait that a record names: whether it is one of x, one for x, any at all.
abbrev pub waiter_is : ℕ → Option Wait → ℕ
waiter_is x None = 0
waiter_is x (Some w) = same w.waiter x

abbrev pub target_is : ℕ → Option Wait → ℕ
target_is x None = 0
target_is x (Some w) = same w.target x

abbrev pub any : Option Wait → ℕ
any None = 0
any (Some w) = 1

-- How many answers have to come in before j closes its notice.
abbrev pub due : List Waiting → ℕ → RunRecord → ℕ
due rows j r = cond (is_active rows j) r.acks_due r.dones_due

-- Entries of the job x alone.
abbrev pub dones_of : ℕ → ℕ → RunRecord → ℕ
dones_of x j r = cond (eqb j x) r.dones_due 0

abbrev pub acks_of : ℕ → ℕ → RunRecord → ℕ
acks_of x j r = cond (eqb j x) r.acks_due 0

abbrev pub granted_of : ℕ → ℕ → RunRecord → ℕ
granted_of x j r = cond (eqb j x) r.granted 0

abbrev pub notified_of : ℕ → ℕ → RunRecord → ℕ
notified_of x j r = cond (eqb j x) (cond r.notified 1 0) 0

-- A DONE that j still owes to x, and an ACK.
abbrev pub owes_done : List Waiting → ℕ → ℕ → RunRecord → ℕ
owes_done rows x j r = cond (eqb (due rows j r) 0) 0 (waiter_is x r.notified_by)

abbrev pub owes_ack : ℕ → ℕ → RunRecord → ℕ
owes_ack x j r = cond (eqb r.acks_due 0) 0 (target_is x r.freed_by)

-- A free target of x.
abbrev pub free_for : List Waiting → ℕ → ℕ → RunRecord → ℕ
free_for rows x j r = cond r.free (cond (among j (targets rows x)) 1 0) 0

-- First messages that j has not put yet, and answers that it owes.
abbrev pub ahead : List Waiting → ℕ → RunRecord → ℕ
ahead rows j r = cond r.notified 0 (length (targets rows j)) + cond r.free 0 (length (waiters rows j))

abbrev pub owed : List Waiting → ℕ → RunRecord → ℕ
owed rows j r = cond (eqb (due rows j r) 0) 0 (any r.notified_by) + cond (eqb r.acks_due 0) 0 (any r.freed_by)

-- A message is on a wait of the table.
abbrev pub Waits : List Waiting → Wait → Type 0
Waits rows w = among w.target (targets rows w.waiter) ≡ true

abbrev pub OnWait : List Waiting → Message → Type 0
OnWait rows m = Waits rows m.wait

-- The waits that a record names are of the table; the one in freed-by is of the job itself.
abbrev pub NotifiedBy : List Waiting → Option Wait → Type 0
NotifiedBy rows None = Unit {0}
NotifiedBy rows (Some w) = Waits rows w

abbrev pub FreedBy : List Waiting → ℕ → Option Wait → Type 0
FreedBy rows j None = Unit {0}
FreedBy rows j (Some w) = (w.waiter ≡ j) × Waits rows w

-- What is true of each job's record by itself.
pub record Fair (rows : List Waiting) (j : ℕ) (r : RunRecord) : Type 0 where
  -- before it is notified nothing is due, and no one notified it; before it is free, likewise
  pub unnotified : r.notified ≡ false → (r.dones_due ≡ 0) × (r.notified_by ≡ None)
  pub unfree : r.free ≡ false → (r.acks_due ≡ 0) × (r.freed_by ≡ None)
  -- an active job is free as soon as it is notified; a blocked one that is not free lacks grants
  pub active : need rows j ≡ 0 → r.free ≡ r.notified
  pub lacking : 0 < need rows j → r.free ≡ false → r.granted < need rows j
  pub notified_by : NotifiedBy rows r.notified_by
  pub freed_by : FreedBy rows j r.freed_by

-- A set that holds the initiator, and the targets of each job in it.
pub record Spreading (rows : List Waiting) (initiator : ℕ) (R : ℕ → Bool) : Type 0 where
  pub begins : R initiator ≡ true
  pub goes_on : (v u : ℕ) → R v ≡ true → among u (targets rows v) ≡ true → R u ≡ true

-- A set that holds each active job of R, and each blocked job with as many targets in the set as it needs.
pub record Freeing (rows : List Waiting) (R S : ℕ → Bool) : Type 0 where
  pub active : (v : ℕ) → v < length rows → R v ≡ true → need rows v ≡ 0 → S v ≡ true
  pub blocked : (v : ℕ) → v < length rows → 0 < need rows v → need rows v ≤ count S (targets rows v) → S v ≡ true
