-- The records of a store, each with its handle.
use Rattle.std.specs.Prelude.{ℕ, List, take, Some, None, Option, filter_map}
use Rattle.std.specs.List.{enumerate_from}
use Rattle.geometry.specs.declared.handle.Handle.{Handle}
use Rattle.slots.specs.declared.Slot.{Slot}
use Rattle.slots.specs.declared.Slot.TheVariants.{Unused, Free, Retired, Live}
use Rattle.slots.specs.Store.{handle}

-- the record of the slot at a number, if there is one
abbrev pub record_at : {T : Type 0} → ℕ × Slot T → Option (Handle × T)
record_at (i, Unused) = None
record_at (i, Free g n) = None
record_at (i, Retired) = None
record_at (i, Live g x) = Some (handle i g, x)

-- the records of the slots from number i on, in their order
abbrev pub records_from : {T : Type 0} → ℕ → List (Slot T) → List (Handle × T)
records_from i s = filter_map record_at (enumerate_from i s)

-- the records of a store: of as many slots as a header can count
abbrev pub records_in : {T : Type 0} → List (Slot T) → List (Handle × T)
records_in s = records_from 0 (take 4294967295 s)
