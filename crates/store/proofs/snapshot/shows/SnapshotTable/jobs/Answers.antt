-- Stored rows that obey their law say rows that obey the row law.
use Rattle.std.proofs.Common.{arith}
use Rattle.store.proofs.RowViews.{snapshot_is_lawful}
use Rattle.store.proofs.snapshot.shows.SnapshotTable.jobs.Goals as goal

pub returns-clause-lawful : goal.returns-clause-lawful
returns-clause-lawful c = snapshot_is_lawful c.args.self.now.jobs c.args.self.now.rows c.args.self.now.few (omega arith) c.args.self.now.lawful
