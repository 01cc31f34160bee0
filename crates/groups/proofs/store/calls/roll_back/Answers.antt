use Rattle.std.proofs.Common.{◌∙◌, arith}
use Rattle.groups.proofs.RollBackLemmas.{put_back}
use Rattle.groups.proofs.store.calls.roll_back.Goals as goal

pub loop-old-preserved : goal.loop-old-preserved
loop-old-preserved g c =
    let i = c.loop-old.invariant in
    let b = put_back c.loop-old.rows c.loop-old.trail c.take.new.self c.take.result _ c.take.new.out c.args.start c.take.ensures (omega arith) in
    record { rows = b.0 ∙ i.rows; items = b.1 ∙ i.items; capacity = b.2 ∙ i.capacity }
