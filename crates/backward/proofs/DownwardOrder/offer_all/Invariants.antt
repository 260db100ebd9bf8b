use Rattle.std.proofs.Common.{◌≡◌}
use Rattle.spaces.specs.Spaces.{state}
use Rattle.finders.specs.Tables.{offered}
use Rattle.backward.specs.Downward.{downward}
use Rattle.backward.proofs.DownwardOrder.offer_all.Given as goal

abbrev pub invariant-loop-slot : goal.invariant-loop-slot
invariant-loop-slot l = record {
  same_space : l.space.lent.ghost_name ≡ l.fn.space.lent.ghost_name;
  from_first : l.slot-iterator.iter.count ≡ 0;
  written : offered (state l.space) (downward l.slot-iterator.iter.iter.rest.now l.aabb l.p) ≡ offered (state l.fn.space) (downward l.fn.table.entries.items l.aabb l.p);
}
