use Rattle.std.proofs.Common.{arith}
use Rattle.std.proofs.lemmas.Bool.Decides.{nat_tests}
use Rattle.groups.proofs.TrailParts.{depth_of}
use Rattle.groups.proofs.store.Groups.open.Goals as goal

pub returns-then-is_full : goal.returns-then-is_full
returns-then-is_full g c =
    let s = c.self.inside in
    let d = depth_of s.trail.items s.starts.items in
    rw (← c.self.view_is, d) (record { value = grind (arith, nat_tests); after = grind (arith, nat_tests) })
