-- One more target is written.
use Rattle.std.proofs.Common.{◌≡◌, ◌<◌, Some, sym, ◌∙◌, length, arith}
use Rattle.rows.specs.Waiting.{at}
use Rattle.rows.specs.Places.{target_at}
use Rattle.chart.proofs.WritingLemmas.{next_place}
use Rattle.chart.proofs.writer.row_in_bytes.Goals as goal

pub loop-place-preserved : goal.loop-place-preserved
loop-place-preserved g c =
    let w = at (g.T.Table.rows c.args.table.now) c.args.job in
    let place = c.loop-place.place in
    let less : place < length w.targets = omega (arith, c.target_count-count.ensures) in
    let found : Some c.unwrap.result ≡ target_at w.targets place = sym c.unwrap.ensures ∙ c.target.ensures in
    next_place w place c.unwrap.result (omega arith) less found c.loop-place.row c.loop-place.invariant
