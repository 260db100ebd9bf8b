use Rattle.std.proofs.Common.{◌≡◌}
use Rattle.slots.specs.Records.{records_in}
use Rattle.ccd_solver.specs.FixedTargets.{each_entered}
use Rattle.ccd_solver.proofs.fixed_targets.enter_all.Given as goal

abbrev pub invariant-loop-handle : goal.invariant-loop-handle
invariant-loop-handle g l =
    let f = each_entered (g.H.Host.answers l.host) l.bodies in
    f (g.L.Finder.meaning l.list) l.handle-iterator ≡ f (g.L.Finder.meaning l.fn.list) (records_in l.colliders)
