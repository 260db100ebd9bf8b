use Rattle.std.proofs.Common.{◌≡◌, drop}
use Rattle.spaces.specs.Spaces.{state}
use Rattle.pairs.specs.Pairs.{fast_of}
use Rattle.sweeps.specs.Env.{hall_of}
use Rattle.sweeps.specs.Sweeps.{candidates_swept}
use Rattle.sweeps.proofs.candidates.FastSweep.handle_candidates.Given as goal

abbrev pub invariant-loop-handle : goal.invariant-loop-handle
invariant-loop-handle g l =
    let f = candidates_swept (hall_of g.H.Host g.D.Finder g.F.Filter l.self.hall.now) l.self.mode (fast_of l.self.fast) l.self.shape.now in
    (l.hits.lent.ghost_name ≡ l.fn.hits.lent.ghost_name)
    × (f (state l.hits, l.reached) (drop l.handle-index l.candidates) ≡ f (state l.fn.hits, l.start) l.candidates)
