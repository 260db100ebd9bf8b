use Rattle.std.proofs.Common.{◌≡◌, drop}
use Rattle.spaces.specs.Spaces.{state}
use Rattle.crossings.specs.Crossings.{emitted}
use Rattle.crossings.proofs.crossing.EndOfStep.emit_hits.Given as goal

abbrev pub invariant-loop-hit : goal.invariant-loop-hit
invariant-loop-hit g l =
    let f = emitted (g.H.Host.answers l.self.host.now) l.self.bodies.now l.self.colliders.now l.self.results.now in
    (l.events.lent.ghost_name ≡ l.fn.events.lent.ghost_name) × (f (state l.events) (drop l.hit-index l.hits) ≡ f (state l.fn.events) l.hits)
