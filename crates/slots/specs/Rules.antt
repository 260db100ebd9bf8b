-- The rules that header and slots obey: as a test that can be run, and as the statement that it decides.
use Rattle.std.specs.Prelude.{◌≡◌, ℕ, zero, suc, ◌+◌, ◌^◌, ◌<◌, ◌≤◌, Bool, true, false, cond, not, ◌&&◌, List, [], ◌∷◌, length, Some, None, Option, ◌==◌, nat_le, nat_lt, count_by}
use Rattle.std.specs.List.{list_all, enumerate_from}
use Rattle.slots.specs.declared.Slot.{Slot}
use Rattle.slots.specs.declared.Slot.TheVariants.{Unused, Free, Retired, Live}
use Rattle.slots.specs.Store.{slot_at, State}

abbrev pub is_unused : {T : Type 0} → Slot T → Bool
is_unused Unused = true
is_unused (Free g n) = false
is_unused Retired = false
is_unused (Live g x) = false

abbrev pub is_free : {T : Type 0} → Slot T → Bool
is_free Unused = false
is_free (Free g n) = true
is_free Retired = false
is_free (Live g x) = false

-- where a free slot leads
abbrev pub link : {T : Type 0} → Slot T → Option ℕ
link Unused = None
link (Free g n) = n
link Retired = None
link (Live g x) = None

-- the same, where there is a free slot
abbrev pub free_link : {T : Type 0} → Slot T → Option (Option ℕ)
free_link Unused = None
free_link (Free g n) = Some n
free_link Retired = None
free_link (Live g x) = None

-- a slot that was freed is past its first generation
abbrev pub aged : {T : Type 0} → Slot T → Bool
aged Unused = true
aged (Free g n) = nat_lt 0 g
aged Retired = true
aged (Live g x) = true

-- whether a slot may stand below the first unused one, or from there on
abbrev pub fitting : {T : Type 0} → Slot T → Bool → Bool
fitting Unused u = not u
fitting (Free g n) u = cond u (nat_lt 0 g) false
fitting Retired u = u
fitting (Live g x) u = u

-- whether the slots from number i on may stand where they do
abbrev pub laid_out : {T : Type 0} → ℕ → ℕ → List (Slot T) → Bool
laid_out u i s = list_all (λ p. fitting p.1 (nat_lt p.0 u)) (enumerate_from i s)

abbrev pub free_count : {T : Type 0} → List (Slot T) → ℕ
free_count s = count_by is_free s

-- whether the links lead through n free slots and end there
abbrev pub walks : {T : Type 0} → List (Slot T) → Option ℕ → ℕ → Bool
walks s None zero = true
walks s None (suc n) = false
walks s (Some i) zero = false
walks s (Some i) (suc n) = cond (is_free (slot_at s i)) (walks s (link (slot_at s i)) n) false

-- the rules, as a test
abbrev pub orderly : {T : Type 0} → State T → Bool
orderly st =
    nat_le (length st.slots) 4294967295 && nat_le st.header.used (length st.slots)
    && laid_out st.header.used 0 st.slots && walks st.slots st.header.free (free_count st.slots)

-- the numbers of the free slots, as the links lead from one to the next
abbrev pub Chain : {T : Type 0} → List (Slot T) → Option ℕ → List ℕ → Type 0
Chain s o [] = o ≡ None
Chain s o (i ∷ is) = (o ≡ Some i) × (is_free (slot_at s i) ≡ true) × Chain s (link (slot_at s i)) is

-- how often a number stands in a list
abbrev pub times : ℕ → List ℕ → ℕ
times i [] = 0
times i (j ∷ js) = cond (i == j) 1 0 + times i js

-- The rules. The header can count the slots; the used ones are the first; a free slot was freed before;
-- and the links lead through each free slot once.
pub record Valid {T : Type 0} (st : State T) : Type 0 where
  pub short : length st.slots < 2 ^ 32
  pub within : st.header.used ≤ length st.slots
  pub unused : (i : ℕ) → is_unused (slot_at st.slots i) ≡ nat_le st.header.used i
  pub old : (i : ℕ) → aged (slot_at st.slots i) ≡ true
  pub chain : List ℕ
  pub linked : Chain st.slots st.header.free chain
  pub once : (i : ℕ) → times i chain ≡ cond (is_free (slot_at st.slots i)) 1 0
