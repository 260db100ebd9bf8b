use Rattle.std.proofs.Common.{◌≡◌, drop}
use Rattle.clamps.specs.Clamps.{clamped_all}
use Rattle.clamps.proofs.apply_clamps.Given as goal

abbrev pub invariant-loop-swept : goal.invariant-loop-swept
invariant-loop-swept g l =
    let f = clamped_all (g.H.Host.answers l.host) in
    f l.bodies (drop l.swept-index l.results) ≡ f l.initial.bodies l.results
