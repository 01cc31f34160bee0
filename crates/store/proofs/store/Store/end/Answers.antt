use Rattle.std.proofs.Common.{◌≡◌, refl}
use Rattle.rows.specs.StoredRows.{waiting}
use Rattle.groups.specs.TicketIds.{fits}
use Rattle.histories.proofs.TicketIdAnswers.{ending_answer_of}
use Rattle.histories.proofs.CallLemmas.{end_call_step}
use Rattle.store.specs.Plain.{plain}
use Rattle.store.specs.Replies.{end_reply_by_id}
use Rattle.store.proofs.LawfulMemory.{lawful_if, ended_lawful}
use Rattle.store.proofs.RowViews.{wide}
use Rattle.store.proofs.store.Store.end.Goals as goal
use Rattle.store.proofs.store.Store.end.Goals.{in-Ok, in-Err}

pub invariant_of-self : goal.invariant_of-self
invariant_of-self c =
    let b = c.self.inside in
    rw c.end.ensures.after (lawful_if b.jobs b.groups c.self.invariant (fits b.groups c.args.id) _ (ended_lawful b.jobs b.groups c.self.invariant c.args.ending))

pub returns : goal.returns
returns c =
    let b = c.self.inside in
    let e = c.end.ensures in
    let edit_reply : end_reply_by_id c.match-end.result ≡ ending_answer_of c.end.result =
    elim c.match-end.branch [ in-Ok w ↦ rw (w.result-is, w.in-Ok.is) refl | in-Err w ↦ rw (w.result-is, w.in-Err.is) refl ] in
    rw (← c.self.view_is, edit_reply) (end_call_step b.jobs waiting plain tt b.groups c.end.new.self (wide b.jobs b.groups c.self.invariant) c.args.ending c.args.id c.end.result e.value e.after)
