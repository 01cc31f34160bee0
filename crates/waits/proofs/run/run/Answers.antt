use Rattle.std.proofs.Common.{ap, replicate}
use Rattle.waits.proofs.Outcomes.{comes_out}
use Rattle.waits.proofs.run.run.Goals as goal

pub returns-clause-comes_out : goal.returns-clause-comes_out
returns-clause-comes_out c =
    comes_out c.new-book.ensures.value c.new-book.ensures.represents (ap (replicate 256) c.default-records.ensures) c.new-carrier.ensures c.run_script.ensures.ran
