use Rattle.groups.proofs.TrailParts.{depth_of}
use Rattle.groups.proofs.store.Groups.depth.Goals as goal

pub returns-clause-value : goal.returns-clause-value
returns-clause-value g c =
    let s = c.self.inside in
    rw (← c.self.view_is, depth_of s.trail.items s.starts.items) c.len.ensures.value
