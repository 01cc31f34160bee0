-- What is stored without a wait is sound.
use Rattle.std.proofs.Common.{length, ap, arith}
use Rattle.rows.proofs.StoredRowLemmas.{sound_uses_shaped, without_wait_stores_sound}
use Rattle.rows.proofs.plain.Row.without_wait.Goals as goal

pub invariant_of-result : goal.invariant_of-result
invariant_of-result c =
    let row = c.args.self.now in
    let p = row.plain in
    let used = c.targets-targets.result.now in
    let shaped = sound_uses_shaped p.need p.count p.targets used c.targets-targets.ensures row.lawful in
    record { lawful = without_wait_stores_sound p.need c.args.place used c.without_place.result shaped c.requires.0 (omega (arith, ap length c.targets-targets.ensures)) c.without_place.ensures }
