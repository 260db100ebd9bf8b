use Rattle.std.proofs.Common.{◌≡◌, length, drop}
use Rattle.numbers.specs.Constants.{one_f}
use Rattle.sweeps.specs.Env.{hall_of}
use Rattle.ccd_solver.specs.FirstImpact.{least_fraction}
use Rattle.ccd_solver.proofs.first_impact.least_fraction.Given as goal

abbrev pub invariant-loop-handle : goal.invariant-loop-handle
invariant-loop-handle g l =
    let f = least_fraction (hall_of g.H.Host g.D.Finder g.F.Filter l.hall) (length l.initial.candidates) in
    f l.least (drop l.handle-index l.active) ≡ f one_f l.active
