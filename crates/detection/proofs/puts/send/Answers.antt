-- The put is accepted.
use Rattle.std.proofs.Common.{arith}
use Rattle.carriers.proofs.Sends.{sent_one}
use Rattle.exchange.specs.Rules.{message}
use Rattle.detection.proofs.puts.send.Goals as goal

pub returns : goal.returns
returns g c = sent_one _ _ (message c.args.kind c.args.wait) _ (omega arith) c.put.ensures.put
