use Rattle.std.proofs.Common.{◌+◌, ◌<◌, length, set, refl, sym, ap, subst, ◌∙◌, arith}
use Rattle.rows.specs.Waiting.{at}
use Rattle.reduction.specs.Work.{Work}
use Rattle.reduction.proofs.Steps.{Started, start_made, start_first, start_skip, start_can, start_mark, start_saturated}
use Rattle.reduction.proofs.marking.Marking.begin.Goals as goal
use Rattle.reduction.proofs.marking.Marking.begin.Goals.{then-need-eq0, else-need-eq0}

pub invariant_of-marking : goal.invariant_of-marking
invariant_of-marking g c = start_made (g.T.Table.rows c.args.table.now.table.now) c.args.queue c.requires c.jobs-job-end.ensures.lawful (omega (arith, c.jobs-job-end.ensures.value, c.jobs-job-end.ensures.bound))

pub loop-job-init : goal.loop-job-init
loop-job-init g c = record {
  rows = refl;
  started = start_first (g.T.Table.rows c.args.table.now.table.now) c.args.queue c.requires c.jobs-job-end.ensures.lawful (omega (arith, c.jobs-job-end.ensures.value, c.jobs-job-end.ensures.bound));
}

pub returns-clause-saturated : goal.returns-clause-saturated
returns-clause-saturated g c =
    let i = c.loop-job.invariant in
    start_saturated c.loop-job.marking c.loop-job.job (omega (arith, ap length i.rows, c.jobs-job-end.ensures.value, c.loop-job-test.false)) i.started

pub loop-job-preserved : goal.loop-job-preserved
loop-job-preserved g c =
    let i = c.loop-job.invariant in
    let was = c.loop-job.marking in
    let job = c.loop-job.job in
    let l : job < length was.rows = omega (arith, ap length i.rows, c.jobs-job-end.ensures.value, c.loop-job-test.true) in
    let need = c.need-need.ensures ∙ ap (λ rows. (at rows job).need) (sym i.rows) in
    elim c.if-need-eq0.branch [
      | then-need-eq0 w ↦
          let e = w.marking-is ∙ w.loosen.ensures in
          let can = start_can was job l i.started (sym need ∙ w.if-need-eq0.true) in
          record { rows = ap (λ m. m.rows) e ∙ i.rows; started = subst (λ m. Started m (job + 1)) (sym e) (start_mark was job can i.started) }
      | else-need-eq0 w ↦
          let skipped = start_skip was job c.need-need.result l i.started need w.if-need-eq0.false in
          let e = w.marking-is ∙ ap (λ (m : Work). record m { lacking = set m.lacking job c.need-need.result }) w.marking.view_is in
          record { rows = ap (λ m. m.rows) e ∙ i.rows; started = subst (λ m. Started m (job + 1)) (sym e) skipped }
    ]
