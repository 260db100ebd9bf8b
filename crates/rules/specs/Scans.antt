-- A test of every live record of a store. Assumes nothing.
use Rattle.std.specs.Prelude.{Bool, true, List}
use Rattle.std.specs.List.{list_all}
use Rattle.geometry.specs.declared.handle.Handle.{Handle}
use Rattle.slots.specs.declared.Slot.{Slot}
use Rattle.slots.specs.declared.Slot.TheVariants.{Unused, Free, Retired, Live}
use Rattle.slots.specs.Records.{records_in}

-- each live record passes under its handle
abbrev pub every_live : {T : Type 0} → (Handle → T → Bool) → List (Slot T) → Bool
every_live f ss = list_all (λ r. f r.0 r.1) (records_in ss)

-- the same for a test that does not look at the handle
abbrev pub record_holds : {T : Type 0} → (T → Bool) → Slot T → Bool
record_holds f Unused = true
record_holds f (Free g n) = true
record_holds f Retired = true
record_holds f (Live g x) = f x

abbrev pub every_record : {T : Type 0} → (T → Bool) → List (Slot T) → Bool
every_record f ss = list_all (record_holds f) ss
