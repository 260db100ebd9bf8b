use Rattle.std.proofs.Common.{◌≡◌, ◌-◌}
use Rattle.slots.specs.Rules.{walks}
use Rattle.slots.proofs.linked.Given as goal

abbrev pub invariant-loop-turn : goal.invariant-loop-turn
invariant-loop-turn g l = walks l.slots l.at (l.count - l._turn) ≡ walks l.slots l.initial.at l.count
