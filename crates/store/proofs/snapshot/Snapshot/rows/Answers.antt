-- The first of rows that obey the law are sound, and so stored as what they say decides.
use Rattle.std.proofs.Common.{take}
use Rattle.rows.proofs.ComparisonLemmas.{all_sound_are_stored_as, first_ones_are_sound}
use Rattle.store.proofs.RowViews.{obeying_rows_are_sound}
use Rattle.store.proofs.snapshot.Snapshot.rows.Goals as goal

pub returns-clause-value : goal.returns-clause-value
returns-clause-value c =
    let s = c.args.self.now in
    all_sound_are_stored_as (take s.jobs s.rows) (first_ones_are_sound s.jobs s.rows (obeying_rows_are_sound s.jobs 0 s.rows s.lawful))

pub returns-clause-lawful : goal.returns-clause-lawful
returns-clause-lawful c =
    let s = c.args.self.now in
    first_ones_are_sound s.jobs s.rows (obeying_rows_are_sound s.jobs 0 s.rows s.lawful)
