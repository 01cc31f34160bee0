-- The bit of the waiter is set in its word.
use Rattle.std.proofs.Common.{arith}
use Rattle.tables.proofs.BitMatrixLemmas.{mark_is_set_too}
use Rattle.tables.proofs.indexed.mark.Goals as goal

pub returns : goal.returns
returns c = mark_is_set_too c.args.words.now c.args.target c.args.waiter (omega arith) (omega arith)
