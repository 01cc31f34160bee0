-- The rules of the exchange: what a job makes of its own record, and which messages it puts.
-- The table is only read: active and blocked, needs and waits are those of its rows.
use Rattle.std.specs.Prelude.{ℕ, ◌+◌, ◌-◌, true, cond, not, ◌&&◌, List, [], ◌∷◌, ◌++◌, length, map, Some, None, Option, ◌==◌}
use Rattle.carriers.specs.declared.message.Kind.{Kind}
use Rattle.carriers.specs.declared.message.Kind.TheVariants.{Notify, Done, Grant, Ack}
use Rattle.carriers.specs.declared.message.Message.{Message}
use Rattle.carriers.specs.declared.message.Wait.{Wait}
use Rattle.rows.specs.Waiting.{Waiting, at, is_active}
use Rattle.tables.specs.Waits.{waiters}
use Rattle.exchange.specs.declared.record.RunRecord.{RunRecord}

-- The wait (v, u): v waits for u.
abbrev pub on : (v u : ℕ) → Wait
on v u = record { waiter = v; target = u }

-- A message says a kind of thing about a wait.
abbrev pub message : Kind → Wait → Message
message kind wait = record { kind = kind; wait = wait }

-- NOTIFY on each wait (j, any).
abbrev pub notify_messages : List Waiting → ℕ → List Message
notify_messages rows j = map (λ (u : ℕ). message Notify (on j u)) (at rows j).targets

-- GRANT on each wait (any, j).
abbrev pub grant_messages : List Waiting → ℕ → List Message
grant_messages rows j = map (λ (v : ℕ). message Grant (on v j)) (waiters rows j)

-- A message on a wait that a record names; where it names none, no message.
abbrev pub put_on : Kind → Option Wait → List Message
put_on kind None = []
put_on kind (Some w) = message kind w ∷ []

-- What a job does in one step. The order of the puts means nothing.
pub record Act : Type 0 where
  pub becomes : RunRecord
  pub puts : List Message

-- A further act of the same job.
abbrev pub and_then : Act → (RunRecord → Act) → Act
and_then a next = record { becomes = (next a.becomes).becomes; puts = a.puts ++ (next a.becomes).puts }

-- To let go, j becomes free and puts GRANT on each wait for it; its acks due is their number.
abbrev pub let_go : List Waiting → ℕ → RunRecord → Act
let_go rows j r = record { becomes = record r { free = true; acks_due = length (waiters rows j) }; puts = grant_messages rows j }

-- The first part of spreading: j becomes notified and puts NOTIFY on each of its waits; its dones due is their number.
abbrev pub notify_all : List Waiting → ℕ → RunRecord → Act
notify_all rows j r = record { becomes = record r { notified = true; dones_due = length (at rows j).targets }; puts = notify_messages rows j }

-- To spread, j notifies all that it waits for. An active j then lets go.
abbrev pub spread : List Waiting → ℕ → RunRecord → Act
spread rows j r = cond (is_active rows j) (and_then (notify_all rows j r) (let_go rows j)) (notify_all rows j r)

-- To close its notice, a job puts DONE on its notified-by. The initiator, which no NOTIFY made spread, has none and puts nothing.
abbrev pub close_notice : RunRecord → List Message
close_notice r = put_on Done r.notified_by

-- NOTIFY on w, to its target: a notified one puts DONE on w; any other notes w as its notified-by, and spreads.
abbrev pub on_notify : List Waiting → Wait → RunRecord → Act
on_notify rows w r = cond r.notified
    (record { becomes = r; puts = message Done w ∷ [] })
    (spread rows w.target (record r { notified_by = Some w }))

-- DONE on w, to its waiter: its dones due falls by 1; at 0, it closes its notice.
abbrev pub on_done : Wait → RunRecord → Act
on_done w r = record { becomes = record r { dones_due = r.dones_due - 1 }; puts = cond (r.dones_due - 1 == 0) (close_notice r) [] }

-- What a GRANT on w does that frees its waiter: it notes w as its freed-by and lets go; with no ack due then, it puts ACK on w.
abbrev pub freed_on : List Waiting → Wait → RunRecord → Act
freed_on rows w r = and_then (let_go rows w.waiter (record r { granted = r.granted + 1; freed_by = Some w }))
    (λ (q : RunRecord). record { becomes = q; puts = cond (q.acks_due == 0) (message Ack w ∷ []) [] })

-- GRANT on w, to its waiter: granted rises by 1. One that is not free, and has been granted just what it needs, is freed. One that does
-- not let go puts ACK on w.
abbrev pub on_grant : List Waiting → Wait → RunRecord → Act
on_grant rows w r = cond (not r.free && r.granted + 1 == (at rows w.waiter).need)
    (freed_on rows w r)
    (record { becomes = record r { granted = r.granted + 1 }; puts = message Ack w ∷ [] })

-- ACK on w, to its target: its acks due falls by 1; at 0, an active one closes its notice, a blocked one puts ACK on its freed-by.
abbrev pub on_ack : List Waiting → Wait → RunRecord → Act
on_ack rows w r = record {
  becomes = record r { acks_due = r.acks_due - 1 };
  puts = cond (r.acks_due - 1 == 0) (cond (is_active rows w.target) (close_notice r) (put_on Ack r.freed_by)) [];
}

-- What the receiver of a message does.
abbrev pub react : List Waiting → Kind → Wait → RunRecord → Act
react rows Notify w r = on_notify rows w r
react rows Done w r = on_done w r
react rows Grant w r = on_grant rows w r
react rows Ack w r = on_ack rows w r
