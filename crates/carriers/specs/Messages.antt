-- Who receives a message.
use Rattle.std.specs.Prelude.{ℕ}
use Rattle.carriers.specs.declared.message.Kind.{Kind}
use Rattle.carriers.specs.declared.message.Kind.TheVariants.{Notify, Done, Grant, Ack}
use Rattle.carriers.specs.declared.message.Message.{Message}
use Rattle.carriers.specs.declared.message.Wait.{Wait}

-- On the wait (v, u), NOTIFY and ACK go from v to u; DONE and GRANT go from u to v.
abbrev pub receiver_on : Kind → Wait → ℕ
receiver_on Notify w = w.target
receiver_on Done w = w.waiter
receiver_on Grant w = w.waiter
receiver_on Ack w = w.target

-- So the target of its wait receives a NOTIFY or an ACK, and the waiter a DONE or a GRANT.
abbrev pub receiver : Message → ℕ
receiver m = receiver_on m.kind m.wait
