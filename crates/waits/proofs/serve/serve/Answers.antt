use Rattle.std.proofs.Common.{take, subst}
use Rattle.std.specs.Io.KnownBytes.{Appends}
use Rattle.waits.proofs.Outcomes.{where_ok}
use Rattle.waits.proofs.serve.serve.Goals as goal

pub returns-clause-serves : goal.returns-clause-serves
returns-clause-serves g c =
    let before = g.W.Write.contents c.args.output.now in
    let after = g.W.Write.contents c.write_all-printed.new.self in
    record {
      script = take c.in_ok-count.count c.read_up_to.new.memory;
      reads = c.in_ok-count.ensures.bytes;
      bytes = c.run-outcome.new.answers;
      comes_out = c.run-outcome.ensures.comes_out;
      prints = λ ok. subst (λ n. Appends before after (take n c.run-outcome.new.answers)) c.written-written.ensures (where_ok c.write_all-printed.result c.write_all-printed.ensures.bytes ok);
    }
