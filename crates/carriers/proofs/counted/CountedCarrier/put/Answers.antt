-- The container puts the message last.
use Rattle.carriers.proofs.Counts.{put_last}
use Rattle.carriers.proofs.counted.CountedCarrier.put.Goals as goal

pub returns-clause-put : goal.returns-clause-put
returns-clause-put g c =
    let put = c.in_ok-put.ensures in
    rw put.after (put_last (g.C.Container.held c.args.self.now.messages) c.args.self.now.handed c.args.message put.test)
