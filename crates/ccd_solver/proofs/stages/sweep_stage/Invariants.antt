use Rattle.std.proofs.Common.{◌≡◌, length, drop}
use Rattle.spaces.specs.Spaces.{state, SameSpace}
use Rattle.sweeps.specs.Env.{hall_of}
use Rattle.ccd_solver.specs.Stages.{stage_swept, GoesOn}
use Rattle.ccd_solver.proofs.stages.sweep_stage.Given as goal

abbrev pub invariant-loop-handle : goal.invariant-loop-handle
invariant-loop-handle g l =
    let f = stage_swept (hall_of g.H.Host g.D.Finder g.F.Filter l.hall) (length l.initial.candidates) l.tier in
    GoesOn l.fn.results l.results
    × SameSpace l.fn.hits l.hits
    × (f (state l.results, state l.hits) (drop l.handle-index l.active) ≡ f (state l.fn.results, state l.fn.hits) l.active)
