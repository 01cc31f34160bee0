use Rattle.std.proofs.Common.{length, sym, ap, ◌∙◌, subst}
use Rattle.rows.specs.Waiting.{idle}
use Rattle.rows.specs.StoredRows.{waiting}
use Rattle.groups.specs.History.{begun}
use Rattle.groups.specs.Beginning.{fresh}
use Rattle.groups.specs.StateViews.{view}
use Rattle.groups.proofs.ViewLemmas.{view_fresh}
use Rattle.store.specs.Creation.{new_parameters}
use Rattle.store.specs.Plain.{plain, book_of}
use Rattle.histories.specs.CallSteps.{Represents}
use Rattle.histories.proofs.SimulationLemmas.{fresh_represents}
use Rattle.store.proofs.LawfulMemory.{fresh_lawful}
use Rattle.store.proofs.store.Store.new.Goals as goal

pub invariant_of-result : goal.invariant_of-result
invariant_of-result c =
    rw c.new.ensures (fresh_lawful c.created.result c.args.mark (length c.args.memory.now) c.idle.result c.created.ensures.bound c.idle.ensures)

pub returns : goal.returns
returns c =
    let n = c.created.result in
    let mark = c.args.mark in
    let memory = length c.args.memory.now in
    let shown = ap (view n waiting) c.new.ensures ∙ view_fresh n waiting 256 c.idle.result mark memory c.created.ensures.bound ∙ ap (λ p. fresh n (waiting p) mark memory) c.idle.ensures ∙ ap (λ k. fresh k idle mark memory) c.created.ensures.value in
    let made = ap book_of shown in
    record { value = made; represents = subst (λ b. Represents plain b begun) (sym made) (fresh_represents plain (new_parameters c.args.jobs mark memory)) }
