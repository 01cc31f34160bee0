-- The bits of the word, less those of the jobs below, tell who waits.
use Rattle.std.proofs.Common.{arith}
use Rattle.tables.proofs.BitScans.{none_in_word, lowest_in_word}
use Rattle.tables.proofs.indexed.Indexed.first_in_word.Goals as goal

pub returns-then-word-eq0 : goal.returns-then-word-eq0
returns-then-word-eq0 g c =
    none_in_word c.args.self.now.marked c.args.job c.args.from (omega arith) (omega arith) c.if-word-eq0.true

pub returns-else-word-eq0 : goal.returns-else-word-eq0
returns-else-word-eq0 g c =
    lowest_in_word c.args.self.now.marked c.args.job c.args.from (omega arith) (omega arith) (omega arith)
