-- A bit of the mask is set just where the job is among the places.
use Rattle.std.proofs.Common.{eqb, not, ap, ◌∙◌, w8, arith}
use Rattle.std.proofs.lemmas.Simd.{bitmask_splat}
use Rattle.rows.proofs.Scans.{some_bit_is_the_job}
use Rattle.rows.proofs.parts.stands_somewhere.Goals as goal

pub returns : goal.returns
returns c =
    ap (λ mask. not (eqb mask 0)) (bitmask_splat w8 eqb c.args.places.now 16 c.args.job (omega (arith, c.told-places)) (omega arith))
    ∙ some_bit_is_the_job c.args.job c.args.places.now
