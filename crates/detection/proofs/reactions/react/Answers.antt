-- How often a job is granted, and the GRANT that frees one.
use Rattle.std.proofs.Common.{◌≡◌, length, sym, ap, ◌∙◌, arith}
use Rattle.tables.specs.Waits.{waiters}
use Rattle.exchange.specs.declared.record.RunRecord.{RunRecord}
use Rattle.detection.proofs.Acts.{grant_finds_few_granted, Frees, freed_job_becomes, freed_job_has_room_for_grants, freed_job_has_room_for_ack, freed_job_sends_grants_and_ack}
use Rattle.detection.proofs.reactions.react.Given as given
use Rattle.detection.proofs.reactions.react.Goals as goal
use Rattle.detection.proofs.reactions.react.Goals.{Then-own-need, Then-due-eq0}

pub overflow_add-own : goal.overflow_add-own
overflow_add-own g c =
    let few = grant_finds_few_granted c.args.table.now.tabled c.args.message.wait c.args.own.now c.in-Grant-default-false.is-0 c.requires.due in
    omega arith

pub overflow_add-own-in-Grant-default-default : goal.overflow_add-own-in-Grant-default-default
overflow_add-own-in-Grant-default-default g c =
    let few = grant_finds_few_granted c.args.table.now.tabled c.args.message.wait c.args.own.now c.in-Grant-default-default.is-0 c.requires.due in
    omega arith

-- The receiver is freed.
frees : (g : given.Over) (c : Then-own-need g)
    → Frees (g.T.Table.rows c.args.table.now.table.now) c.args.message.kind c.args.message.wait c.args.own.now c.receiver-job.result
frees g c = record {
  grant = c.in-Grant-default-false.is-0;
  receiver = c.receiver-job.ensures;
  unfree = c.in-Grant-default-false.is-2;
  enough = c.if-own-need.true ∙ c.need.ensures;
}

no_waiters : (g : given.Over) (c : Then-due-eq0 g) → length (waiters (g.T.Table.rows c.args.table.now.table.now) c.receiver-job.result) ≡ 0
no_waiters g c = sym (ap (λ (r : RunRecord). r.acks_due) c.release.ensures.own) ∙ c.if-due-eq0.true

pub release-requires : goal.release-requires
release-requires g c = record {
  room = freed_job_has_room_for_grants (frees g (goal.at.release-requires g c).Then-own-need) (g.C.Carrier.carried c.args.carrier.now) c.requires.room;
}

pub send-requires-then-due-eq0 : goal.send-requires-then-due-eq0
send-requires-then-due-eq0 g c =
    let at = goal.at.send-requires-then-due-eq0 g c in
    freed_job_has_room_for_ack (frees g at.Then-own-need) (no_waiters g at.Then-due-eq0) c.release.ensures.sent c.requires.room

pub returns-then-due-eq0 : goal.returns-then-due-eq0
returns-then-due-eq0 g c =
    let at = goal.at.returns-then-due-eq0 g c in
    record {
      own = c.release.ensures.own ∙ freed_job_becomes (frees g at.Then-own-need);
      sent = freed_job_sends_grants_and_ack (frees g at.Then-own-need) (no_waiters g at.Then-due-eq0)
          c.release.ensures.sent c.send-then-due-eq0.ensures;
    }
