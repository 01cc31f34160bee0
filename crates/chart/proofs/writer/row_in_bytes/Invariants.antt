-- The first targets are written, and 0 stands behind them.
use Rattle.std.proofs.Common.{◌≡◌, ◌-◌, ◌∷◌, ◌++◌, length, take, replicate}
use Rattle.rows.specs.Waiting.{at}
use Rattle.chart.proofs.writer.row_in_bytes.Given as goal

abbrev pub invariant-loop-place : goal.invariant-loop-place
invariant-loop-place g l =
    let w = at (g.T.Table.rows l.table) l.job in
    l.row ≡ w.need ∷ length w.targets ∷ (take l.place w.targets ++ replicate (16 - l.place) 0)
