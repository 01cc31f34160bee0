-- What a request stores is sound.
use Rattle.std.proofs.Common.{sym}
use Rattle.rows.proofs.StoredRowLemmas.{request_stores_sound}
use Rattle.rows.proofs.plain.Row.request.Goals as goal

pub invariant_of-result : goal.invariant_of-result
invariant_of-result c =
    record { lawful = request_stores_sound _ _ c.args.need c.args.targets.now c.padded.result (sym c.if-not-counts_fit.ensures) (sym c.in_default.ensures) c.padded.ensures }
