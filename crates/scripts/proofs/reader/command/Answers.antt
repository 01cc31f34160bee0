use Rattle.std.proofs.Common.{length, ap, arith}
use Rattle.std.proofs.lemmas.List.{length-drop}
use Rattle.scripts.proofs.reader.command.Goals as goal

-- a byte is left
pub returns-in_err-byte : goal.returns-in_err-byte
returns-in_err-byte c = absurd (omega (arith, length-drop c.args.place.now c.args.script.now, ap length c.in_err-byte.ensures.read.1))
