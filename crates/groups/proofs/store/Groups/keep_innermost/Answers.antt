use Rattle.std.proofs.Common.{refl, arith}
use Rattle.std.proofs.lemmas.Bool.Decides.{nat_tests}
use Rattle.groups.proofs.TrailParts.{kept_parts}
use Rattle.groups.proofs.RollBackLemmas.{same_state}
use Rattle.groups.proofs.store.Groups.keep_innermost.Goals as goal

pub invariant_of-self-else-is_empty : goal.invariant_of-self-else-is_empty
invariant_of-self-else-is_empty g c =
    let s = c.self.inside in
    let p = c.pop.ensures in
    (kept_parts s.trail.items s.starts.items c.pop.new.self.items c.pop.result p.items p.variant.1 (grind (arith, nat_tests)) c.self.invariant).0

pub returns-else-is_empty : goal.returns-else-is_empty
returns-else-is_empty g c =
    let s = c.self.inside in
    let p = c.pop.ensures in
    rw (← c.self.view_is) (same_state refl (kept_parts s.trail.items s.starts.items c.pop.new.self.items c.pop.result p.items p.variant.1 (grind (arith, nat_tests)) c.self.invariant).1 refl refl)
