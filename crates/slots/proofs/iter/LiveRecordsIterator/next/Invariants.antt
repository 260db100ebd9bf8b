use Rattle.std.proofs.Common.{◌≡◌, ◌+◌, ◌^◌, ◌<◌, length}
use Rattle.slots.specs.Records.{records_from}
use Rattle.slots.proofs.iter.LiveRecordsIterator.next.Given as goal

-- no record was passed over
abbrev pub invariant-loop-first : goal.invariant-loop-first
invariant-loop-first g l =
    (l.self-inside.number + length l.self-inside.slots.now < 2 ^ 32)
    × (records_from l.self-inside.number l.self-inside.slots.now ≡ l.fn.self)

abbrev pub decreases-loop-first : goal.decreases-loop-first
decreases-loop-first g l = length l.self-inside.slots.now
