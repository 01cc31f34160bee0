use Rattle.std.proofs.Common.{◌≡◌, get_or, sym, refl, ap, ◌∙◌, arith}
use Rattle.std.proofs.lemmas.Bool.Decides.{nat_tests}
use Rattle.groups.specs.State.{State}
use Rattle.groups.proofs.TrailParts.{depth_of, used_of, recorded_parts}
use Rattle.groups.proofs.RollBackLemmas.{same_state}
use Rattle.groups.proofs.store.Groups.record_undo.Goals as goal

pub returns-then-len-ge-TRAIL_MAX-clause-value : goal.returns-then-len-ge-TRAIL_MAX-clause-value
returns-then-len-ge-TRAIL_MAX-clause-value g c =
    let s = c.self.inside in
    rw (← c.self.view_is, depth_of s.trail.items s.starts.items, used_of s.trail.items s.starts.items c.self.invariant) (grind (arith, nat_tests))

pub returns-in_err-put-clause-value : goal.returns-in_err-put-clause-value
returns-in_err-put-clause-value g c =
    let s = c.self.inside in
    let k = c.in_err-put.ensures.test in
    let w = c.from_residual.ensures.0 in
    rw (← c.self.view_is, depth_of s.trail.items s.starts.items, used_of s.trail.items s.starts.items c.self.invariant) (grind (arith, nat_tests))

pub invariant_of-self-2 : goal.invariant_of-self-2
invariant_of-self-2 g c =
    let s = c.self.inside in
    let n = recorded_parts s.trail.items s.starts.items (record { job = c.args.job; row = c.row-row.result }) (grind (arith, nat_tests)) c.self.invariant in
    rw c.in_ok-put.ensures.after n.0

pub returns-clause-value : goal.returns-clause-value
returns-clause-value g c =
    let s = c.self.inside in
    let k = c.in_ok-put.ensures.test in
    rw (← c.self.view_is, depth_of s.trail.items s.starts.items, used_of s.trail.items s.starts.items c.self.invariant) (grind (arith, nat_tests))

pub returns-clause-after : goal.returns-clause-after
returns-clause-after g c d =
    let s = c.self.inside in
    let n = recorded_parts s.trail.items s.starts.items (record { job = c.args.job; row = c.row-row.result }) (grind (arith, nat_tests)) c.self.invariant in
    let r : c.row-row.result ≡ get_or s.rows c.args.job d = c.row-row.ensures d ∙ ap (λ (u : State g.row.P.Denot). get_or u.rows c.args.job d) (sym c.self.view_is) in
    rw (← c.self.view_is, c.in_ok-put.ensures.after) (rw (← r) (same_state refl n.1 refl refl))
