-- Sixteen bytes are all that are behind the first two.
use Rattle.std.proofs.Common.{drop, arith, length-drop}
use Rattle.std.proofs.lemmas.List.{take_all}
use Rattle.chart.proofs.bytes.target_bytes.Goals as goal

pub returns : goal.returns
returns c = take_all 16 (drop 2 c.args.row.now) (omega (arith, length-drop 2 c.args.row.now))
