-- The records of a store that a header can count are those of all its slots.
use Rattle.std.proofs.Common.{◌≡◌, ◌^◌, ◌<◌, List, length, ap, arith}
use Rattle.std.proofs.lemmas.List.{take_all}
use Rattle.slots.specs.declared.Slot.{Slot}
use Rattle.slots.specs.Records.{records_from, records_in}

pub records_whole : {T : Type 0} (s : List (Slot T)) → length s < 2 ^ 32 → records_in s ≡ records_from 0 s
records_whole s l = ap (records_from 0) (take_all 4294967295 s (omega arith))
