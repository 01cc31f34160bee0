-- What a snapshot of a book shows.
use Rattle.std.specs.Prelude.{map, take}
use Rattle.rows.specs.Waiting.{Waiting}
use Rattle.rows.specs.StoredRows.{waiting}
use Rattle.histories.specs.Machines.{View}
use Rattle.store.specs.declared.snapshot.Snapshot.{Snapshot}

-- The rows of its jobs, and the depth.
abbrev pub snapshot_view : Snapshot → View Waiting
snapshot_view s = record { rows = map waiting (take s.jobs s.rows); depth = s.depth }
