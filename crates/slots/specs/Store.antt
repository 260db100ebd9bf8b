-- What each call makes of a store and what it answers, on any content.
use Rattle.std.specs.Prelude.{ℕ, ◌+◌, min, cond, List, length, replicate, Some, None, Ok, Err, Option, Result, ◌==◌, nat_lt, slice_index_or, slice_set}
use Rattle.geometry.specs.declared.handle.Handle.{Handle}
use Rattle.slots.specs.declared.Header.{Header}
use Rattle.slots.specs.declared.Vacancy.{Vacancy}
use Rattle.slots.specs.declared.fault.Fault.{Fault}
use Rattle.slots.specs.declared.fault.Fault.TheVariants.{Full, NotLive, Broken}
use Rattle.slots.specs.declared.Slot.{Slot}
use Rattle.slots.specs.declared.Slot.TheVariants.{Unused, Free, Retired, Live}

abbrev pub handle : ℕ → ℕ → Handle
handle i g = record { slot = i; generation = g }

abbrev pub header : Option ℕ → ℕ → Header
header f u = record { free = f; used = u }

-- all that a store is
pub record State (T : Type 0) : Type 0 where
  pub header : Header
  pub slots : List (Slot T)

abbrev pub state : {T : Type 0} → Header → List (Slot T) → State T
state h s = record { header = h; slots = s }

-- the slot at a number; past the end there is nothing, as at an unused slot
abbrev pub slot_at : {T : Type 0} → List (Slot T) → ℕ → Slot T
slot_at s i = slice_index_or s i Unused

-- the record of a slot, at a generation
abbrev pub record_in : {T : Type 0} → Slot T → ℕ → Option T
record_in Unused h = None
record_in (Free g n) h = None
record_in Retired h = None
record_in (Live g x) h = cond (g == h) (Some x) None

-- the record that a handle names
abbrev pub found : {T : Type 0} → List (Slot T) → Handle → Option T
found s h = record_in (slot_at s h.slot) h.generation

abbrev pub cleared : {T : Type 0} → List (Slot T) → List (Slot T)
cleared s = replicate (length s) Unused

-- a store without a record, whatever the slots held
abbrev pub emptied : {T : Type 0} → List (Slot T) → State T
emptied s = state (header None 0) (cleared s)

abbrev pub vacancy : Handle → Header → Vacancy
vacancy h d = record { handle = h; after = d }

-- the slot that was freed last, which has to be a free one
abbrev pub reused : {T : Type 0} → Header → ℕ → Slot T → Result Vacancy Fault
reused d i Unused = Err Broken
reused d i (Free g n) = Ok (vacancy (handle i g) (header n d.used))
reused d i Retired = Err Broken
reused d i (Live g x) = Err Broken

-- the first of n slots that was never used; the header counts to 4294967295
abbrev pub extended : Header → ℕ → Result Vacancy Fault
extended d n =
    cond (nat_lt d.used (min n 4294967295))
    (Ok (vacancy (handle d.used 0) (header d.free (d.used + 1))))
    (Err Full)

abbrev pub vacant_by : {T : Type 0} → State T → Option ℕ → Result Vacancy Fault
vacant_by st None = extended st.header (length st.slots)
vacant_by st (Some i) = reused st.header i (slot_at st.slots i)

-- where the next record goes
abbrev pub vacant_in : {T : Type 0} → State T → Result Vacancy Fault
vacant_in st = vacant_by st st.header.free

abbrev pub handle_of : Result Vacancy Fault → Result Handle Fault
handle_of (Ok v) = Ok v.handle
handle_of (Err f) = Err f

abbrev pub next_handle : {T : Type 0} → State T → Result Handle Fault
next_handle st = handle_of (vacant_in st)

abbrev pub written : {T : Type 0} → List (Slot T) → Handle → T → List (Slot T)
written s h x = slice_set s h.slot (Live h.generation x)

abbrev pub filled : {T : Type 0} → State T → T → Result Vacancy Fault → State T × Result Handle Fault
filled st x (Ok v) = (state v.after (written st.slots v.handle x), Ok v.handle)
filled st x (Err f) = (st, Err f)

abbrev pub inserted : {T : Type 0} → State T → T → State T × Result Handle Fault
inserted st x = filled st x (vacant_in st)

-- the slot of a handle is freed, or retired at the last generation
abbrev pub freed : {T : Type 0} → State T → Handle → State T
freed st h =
    cond (h.generation == 4294967295)
    (state st.header (slice_set st.slots h.slot Retired))
    (state (header (Some h.slot) st.header.used)
    (slice_set st.slots h.slot (Free (h.generation + 1) st.header.free)))

abbrev pub released : {T : Type 0} → State T → Handle → Option T → State T × Result T Fault
released st h None = (st, Err NotLive)
released st h (Some x) = (freed st h, Ok x)

abbrev pub removed : {T : Type 0} → State T → Handle → State T × Result T Fault
removed st h = released st h (found st.slots h)

abbrev pub changed : {T : Type 0} → List (Slot T) → Handle → T → Option T → List (Slot T) × Result (Unit {0}) Fault
changed s h x None = (s, Err NotLive)
changed s h x (Some y) = (written s h x, Ok tt)

abbrev pub replaced : {T : Type 0} → List (Slot T) → Handle → T → List (Slot T) × Result (Unit {0}) Fault
replaced s h x = changed s h x (found s h)
