-- From delivery to delivery.
use Rattle.std.proofs.Common.{◌≡◌, ℕ, ◌*◌, ◌≤◌, length, replicate, ap, ◌∙◌, arith}
use Rattle.tables.specs.Waits.{waits}
use Rattle.exchange.specs.Records.{blank}
use Rattle.exchange.specs.declared.record.RunRecord.{RunRecord}
use Rattle.detection.proofs.RunInvariant.{within_bounds, spread_has_room, run_begins, taken_message_is_expected, puts_have_room, run_goes_on, fewer_deliveries_are_left}
use Rattle.detection.proofs.FinishedRuns.{run_is_finished}
use Rattle.detection.proofs.detector.run.Given as given
use Rattle.detection.proofs.detector.run.Goals as goal
use Rattle.detection.proofs.detector.run.Goals.{After-fill}

all_are_blank : (g : given.Over) (c : After-fill g) → c.fill.new.self ≡ replicate (length (g.T.Table.rows c.args.table.now.table.now)) blank
all_are_blank g c =
    c.fill.ensures.after (λ y e. e)
    ∙ ap (λ (r : RunRecord). replicate (length c.args.records.now) r) c.blank.ensures
    ∙ ap (λ (n : ℕ). replicate n blank) c.requires.records

pub spread-requires : goal.spread-requires
spread-requires g c =
    let blanks = all_are_blank g (goal.at.spread-requires g c).After-fill in
    spread_has_room c.args.table.now.tabled c.requires.job blanks (g.C.Carrier.carried c.args.carrier.now) c.requires.waiting c.requires.room

pub loop-message-init : goal.loop-message-init
loop-message-init g c =
    let blanks = all_are_blank g (goal.at.loop-message-init g c).After-fill in
    run_begins c.args.table.now.tabled c.requires.job blanks (g.C.Carrier.carried c.args.carrier.now) c.requires.waiting
    c.spread.ensures.own c.spread.ensures.sent c.handed_out-before.ensures c.handed_out-before.type_inv

pub deliver-requires : goal.deliver-requires
deliver-requires g c =
    let rows = g.T.Table.rows c.args.table.now.table.now in
    let wide : 2 * waits rows ≤ (g.C.Carrier.carried c.spread.new.carrier).capacity = omega (arith, c.requires.room, c.spread.ensures.sent.capacity) in
    record {
      records = (within_bounds c.args.table.now.tabled c.requires.job c.loop-message.invariant).records;
      awaited = taken_message_is_expected c.args.table.now.tabled c.requires.job c.loop-message.invariant c.in-Some.ensures.took;
      room = puts_have_room c.args.table.now.tabled c.requires.job c.loop-message.invariant c.in-Some.ensures.took wide;
    }

pub loop-message-smaller : goal.loop-message-smaller
loop-message-smaller g c =
    fewer_deliveries_are_left c.args.table.now.tabled c.requires.job c.loop-message.invariant c.in-Some.ensures.took
    c.deliver.ensures.records c.deliver.ensures.sent c.handed_out-before.type_inv

pub loop-message-preserved : goal.loop-message-preserved
loop-message-preserved g c =
    run_goes_on c.args.table.now.tabled c.requires.job c.loop-message.invariant c.in-Some.ensures.took
    c.deliver.ensures.records c.deliver.ensures.sent

pub returns : goal.returns
returns g c =
    run_is_finished c.args.table.now.tabled c.requires.job c.loop-message.invariant c.in_default.ensures.took
    c.args.records.now (g.C.Carrier.carried c.args.carrier.now) _ c.requires.records
    c.spread.ensures.sent.capacity c.handed_out-before.ensures c.handed_out-before.type_inv
    c.verdict_of.ensures (omega (arith, c.handed_out.ensures))
