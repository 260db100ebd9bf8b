use Rattle.std.proofs.Common.{◌≡◌, drop}
use Rattle.spaces.specs.Spaces.{state}
use Rattle.finders.specs.Tables.{upward, offered}
use Rattle.finders.proofs.order.UpwardOrder.offer_all.Given as goal

abbrev pub invariant-loop-slot : goal.invariant-loop-slot
invariant-loop-slot l =
    (l.space.lent.ghost_name ≡ l.fn.space.lent.ghost_name)
    × (offered (state l.space) (upward l.slot (drop l.slot l.entry-items) l.aabb l.p) ≡ offered (state l.fn.space) (upward 0 l.entry-items l.aabb l.p))
