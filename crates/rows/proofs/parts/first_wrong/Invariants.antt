-- What is left to check gives the place that the whole gives.
use Rattle.std.proofs.Common.{◌≡◌, drop}
use Rattle.rows.specs.Changes.{first_wrong}
use Rattle.rows.proofs.parts.first_wrong.Given as goal

abbrev pub invariant-loop-place : goal.invariant-loop-place
invariant-loop-place l = first_wrong l.jobs l.job l.low l.place (drop l.place l.targets) ≡ first_wrong l.jobs l.job 0 0 l.targets
