use Rattle.std.proofs.Common.{◌≡◌, length}
use Rattle.rules.specs.Rules.{distinct}
use Rattle.rules.proofs.bodies.are_distinct.Given as goal

abbrev pub invariant-loop-first : goal.invariant-loop-first
invariant-loop-first l = distinct l.rest ≡ distinct l.handles

abbrev pub decreases-loop-first : goal.decreases-loop-first
decreases-loop-first l = length l.rest
