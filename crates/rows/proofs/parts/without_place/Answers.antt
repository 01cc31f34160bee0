-- The targets before the place, then those after it, and then zeros.
use Rattle.std.proofs.Common.{◌+◌, ◌-◌, length, refl, arith}
use Rattle.rows.proofs.StoredRowLemmas.{stored_without_one}
use Rattle.rows.proofs.parts.without_place.Goals as goal

pub returns : goal.returns
returns c =
    let ts = c.args.targets.now in
    stored_without_one ts _ _ _ c.args.place (length ts - (c.args.place + 1)) refl (omega arith) refl c.copy_from_slice.ensures.after c.copy_from_slice-2.ensures.after
