use Rattle.std.proofs.Common.{◌≡◌, ◌≤◌, length, take}
use Rattle.pair_casts.specs.FastShapes.{pieces}
use Rattle.pair_casts.proofs.fast_shape.pieces.Given as goal

abbrev pub invariant-loop-child : goal.invariant-loop-child
invariant-loop-child g l = record {
  few : length l.pieces.items ≤ 16;
  so_far : l.pieces.items ≡ pieces (g.H.Host.answers l.host) l.sweep (take l.child-index l.children);
}
