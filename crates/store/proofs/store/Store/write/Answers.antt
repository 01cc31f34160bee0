use Rattle.std.proofs.Common.{sym, refl, ap, ◌∙◌}
use Rattle.std.proofs.lemmas.Bool.{not-true, not-false}
use Rattle.rows.specs.StoredRows.{waiting}
use Rattle.store.specs.declared.fault.BookFault.TheVariants.{TrailFull}
use Rattle.histories.proofs.CallLemmas.{full_seen}
use Rattle.store.proofs.AnswerLemmas.{carried_fault, write_lawful, write_seen}
use Rattle.store.proofs.store.Store.write.Goals as goal
use Rattle.store.specs.Plain.{book_of}
use Rattle.groups.specs.StateViews.{view}

pub returns-in_err-write : goal.returns-in_err-write
returns-in_err-write c =
    let b = c.self.inside in
    let e = c.in_err-write.ensures in
    rw (← c.self.view_is, full_seen b.jobs waiting b.groups, not-false _ (sym e.value)) (record {
      value = carried_fault c.from_residual.result TrailFull c.from_residual.ensures.1;
      after = ap (λ g. book_of (view b.jobs waiting g)) e.after;
    })

pub invariant_of-self-2 : goal.invariant_of-self-2
invariant_of-self-2 c =
    let b = c.self.inside in
    rw c.in_ok-write.ensures.after (write_lawful b.jobs b.groups c.self.invariant c.args.job c.args.row c.into.result c.into.ensures (rw (← c.self.view_is) at c.requires.job) (rw (← c.self.view_is) at c.requires.lawful))

pub returns : goal.returns
returns c =
    let b = c.self.inside in
    let e = c.in_ok-write.ensures in
    rw (← c.self.view_is, full_seen b.jobs waiting b.groups, not-true _ (sym e.value)) (record {
      value = refl;
      after = ap (λ g. book_of (view b.jobs waiting g)) e.after ∙ write_seen b.jobs b.groups c.self.invariant c.args.job c.args.row c.into.result c.into.ensures (rw (← c.self.view_is) at c.requires.job);
    })
