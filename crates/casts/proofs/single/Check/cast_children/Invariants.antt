use Rattle.std.proofs.Common.{◌≡◌, ◌≤◌, length, take}
use Rattle.casts.specs.Flights.{sweep_of}
use Rattle.casts.specs.Singles.{casts_of_pieces, child_pieces}
use Rattle.casts.proofs.single.Check.cast_children.Given as goal

abbrev pub invariant-loop-child : goal.invariant-loop-child
invariant-loop-child g l =
    let h = g.H.Host.answers l.self.host.now in
    (l.casts.items ≡ casts_of_pieces h l.self.flight l.self.target (child_pieces h (sweep_of l.self.flight) (take l.child-index l.child-items)))
    × (length l.casts.items ≤ l.child-index)
