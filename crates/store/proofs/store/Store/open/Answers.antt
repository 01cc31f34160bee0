use Rattle.store.proofs.AnswerLemmas.{opening_call_step}
use Rattle.store.proofs.store.Store.open.Goals as goal

pub returns : goal.returns
returns c =
    let b = c.self.inside in
    rw (← c.self.view_is, c.ok_or.ensures.value) (opening_call_step b.jobs b.groups c.open.new.self c.open.result c.open.ensures.value c.open.ensures.after)
