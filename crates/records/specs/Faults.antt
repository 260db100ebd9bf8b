-- The numbers and places of refusals, and what becomes of the store's. Assumes nothing.
use Rattle.std.specs.Prelude.{◌≡◌, ℕ, ◌≤◌, List, ◌++◌, codes}
use Rattle.std.specs.Fmt.{decimal}
use Rattle.slots.specs.declared.fault.Fault.{Fault as StoreFault}
use Rattle.slots.specs.declared.fault.Fault.TheVariants as stored
use Rattle.records.specs.declared.fault.Fault.{Fault}
use Rattle.records.specs.declared.fault.Fault.TheVariants.{OutOfRange, NotLive, ShapeUnknown, NotMovable, HasColliders, Repeated, Broken, Full, Short}

abbrev pub fault_number : Fault → ℕ
fault_number OutOfRange = 1
fault_number (NotLive i) = 2
fault_number ShapeUnknown = 3
fault_number NotMovable = 4
fault_number HasColliders = 5
fault_number (Repeated i) = 6
fault_number Broken = 7
fault_number Full = 8
fault_number Short = 9

-- the place in a list, where there is one
abbrev pub fault_place : Fault → ℕ
fault_place OutOfRange = 0
fault_place (NotLive i) = i
fault_place ShapeUnknown = 0
fault_place NotMovable = 0
fault_place HasColliders = 0
fault_place (Repeated i) = i
fault_place Broken = 0
fault_place Full = 0
fault_place Short = 0

-- what a refusal prints
abbrev pub fault_text : Fault → List ℕ
fault_text OutOfRange = codes "a number is out of range, or a pose is not admitted"
fault_text (NotLive i) = codes "the handle at place " ++ decimal i ++ codes " is not live"
fault_text ShapeUnknown = codes "the host does not know the shape"
fault_text NotMovable = codes "the body cannot be aimed or marked"
fault_text HasColliders = codes "the body has colliders"
fault_text (Repeated i) = codes "the handle at place " ++ decimal i ++ codes " stands earlier too"
fault_text Broken = codes "what is lent breaks a rule"
fault_text Full = codes "there is no slot left, or no place in a list"
fault_text Short = codes "a store or a space is too short"

-- what a store refuses is handed on
abbrev pub raised : StoreFault → Fault
raised stored.Full = Full
raised stored.NotLive = NotLive 0
raised stored.Broken = Broken

-- A refusal is told by its number and its place.
pub record FaultsNumbered : Type 0 where
  pub low : (f : Fault) → 1 ≤ fault_number f
  pub high : (f : Fault) → fault_number f ≤ 9
  pub told : (f g : Fault) → fault_number f ≡ fault_number g → fault_place f ≡ fault_place g → f ≡ g
