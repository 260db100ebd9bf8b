use Rattle.std.proofs.Common.{◌≡◌, length, drop}
use Rattle.spaces.specs.Spaces.{state}
use Rattle.sweeps.specs.Env.{hall_of}
use Rattle.sweeps.specs.Sweeps.{body_swept}
use Rattle.sweeps.proofs.colliders.BodySweep.run.Given as goal

abbrev pub invariant-loop-handle : goal.invariant-loop-handle
invariant-loop-handle g l =
    let f = body_swept (hall_of g.H.Host g.D.Finder g.F.Filter l.self.hall.now) (length l.initial.candidates) l.self.mode l.self.owner l.self.body.now in
    (l.hits.lent.ghost_name ≡ l.fn.hits.lent.ghost_name)
    × (f (state l.hits, l.reached) (drop l.handle-index l.handle-items) ≡ f (state l.fn.hits, l.fn.start) l.handle-items)
