-- The laws of the store. They speak of what the calls do by the definitions that the calls' contracts equate them with.
use Rattle.std.specs.Prelude.{◌≡◌, ℕ, ◌+◌, ◌^◌, ◌<◌, Bool, true, false, cond, not, ◌&&◌, List, [], ◌∷◌, map, reverse, length, drop, is_some, Some, None, Ok, Err, Option, Result, ◌==◌, ◌≢◌, nat_lt}
use Rattle.geometry.specs.declared.handle.Handle.{Handle}
use Rattle.slots.specs.declared.fault.Fault.{Fault}
use Rattle.slots.specs.declared.fault.Fault.TheVariants.{Full, Broken}
use Rattle.slots.specs.declared.Slot.{Slot}
use Rattle.slots.specs.declared.Slot.TheVariants.{Unused, Free, Retired, Live}
use Rattle.geometry.specs.Handles.{same}
use Rattle.slots.specs.Store.{handle, slot_at, found, State, state, emptied, next_handle, inserted, removed, replaced}
use Rattle.slots.specs.Rules.{Valid}

-- the operations that change a store
pub data Op (T : Type 0) : Type 0 where
  insert : T → Op T
  remove : Handle → Op T
  replace : Handle → T → Op T

-- what an operation leaves, whether it is granted or refused
abbrev pub step : {T : Type 0} → State T → Op T → State T
step st (insert x) = (inserted st x).0
step st (remove h) = (removed st h).0
step st (replace h x) = state st.header (replaced st.slots h x).0

abbrev pub run : {T : Type 0} → State T → List (Op T) → State T
run st [] = st
run st (o ∷ os) = run (step st o) os

-- whether a slot is live or retired, so that no insert can take it
abbrev pub is_taken : {T : Type 0} → Slot T → Bool
is_taken Unused = false
is_taken (Free g n) = false
is_taken Retired = true
is_taken (Live g x) = true

-- Where the rules hold, they do after any operations, nothing is found broken, and an insert is refused only for want of a slot.
pub record KeptAt {T : Type 0} (st : State T) : Type 0 where
  pub operation : (o : Op T) → Valid (step st o)
  pub operations : (os : List (Op T)) → Valid (run st os)
  pub foretold : next_handle st ≡ Err Broken → ⊥
  pub insertion : (x : T) → (inserted st x).1 ≢ Err Broken
  pub removal : (h : Handle) → (removed st h).1 ≢ Err Broken
  pub replacement : (h : Handle) (x : T) → (replaced st.slots h x).1 ≢ Err Broken
  pub full : (x : T) → (inserted st x).1 ≡ Err Full → (i : ℕ) → i < length st.slots → is_taken (slot_at st.slots i) ≡ true

-- A store may be opened over any slots that a header can count.
pub record RulesKept (T : Type 0) : Type 0 where
  pub opened : (s : List (Slot T)) → length s < 2 ^ 32 → Valid (emptied s)
  pub after : (st : State T) → Valid st → KeptAt st

-- What each operation makes of what a handle finds.
pub record MapAt {T : Type 0} (st : State T) : Type 0 where
  pub insertion : (x : T) (h : Handle) → (inserted st x).1 ≡ Ok h
      → (found st.slots h ≡ None)
      × ((k : Handle) → found (inserted st x).0.slots k ≡ cond (same k h) (Some x) (found st.slots k))
  pub removal : (h : Handle) (x : T) → found st.slots h ≡ Some x
      → ((removed st h).1 ≡ Ok x)
      × ((k : Handle) → found (removed st h).0.slots k ≡ cond (same k h) None (found st.slots k))
  pub replacement : (h : Handle) (x y : T) → found st.slots h ≡ Some x
      → ((replaced st.slots h y).1 ≡ Ok tt)
      × ((k : Handle) → found (replaced st.slots h y).0 k ≡ cond (same k h) (Some y) (found st.slots k))

-- A store is a map from live handles to records, empty when it is opened.
pub record IsMap (T : Type 0) : Type 0 where
  pub opened : (s : List (Slot T)) (k : Handle) → found (emptied s).slots k ≡ None
  pub after : (st : State T) → Valid st → MapAt st

-- A handle that finds nothing, and that no insert answers.
pub record Dead {T : Type 0} (st : State T) (h : Handle) : Type 0 where
  pub lost : found st.slots h ≡ None
  pub passed : (x : T) → (inserted st x).1 ≢ Ok h

-- A handle is dead for good once its record was removed, and no handle is answered twice, whatever is done between.
pub record DeadForGood (T : Type 0) : Type 0 where
  pub dead : (st : State T) → Valid st → (h : Handle) (x : T) → found st.slots h ≡ Some x
      → (os : List (Op T)) → Dead (run (removed st h).0 os) h
  pub once : (st : State T) → Valid st → (h : Handle) (x : T) → (inserted st x).1 ≡ Ok h
      → (os : List (Op T)) (y : T) → (inserted (run (inserted st x).0 os) y).1 ≢ Ok h

-- A refusal changes nothing, on any content.
pub record RefusalsSpare (T : Type 0) : Type 0 where
  pub insertion : (st : State T) (x : T) (f : Fault) → (inserted st x).1 ≡ Err f → (inserted st x).0 ≡ st
  pub removal : (st : State T) (h : Handle) (f : Fault) → (removed st h).1 ≡ Err f → (removed st h).0 ≡ st
  pub replacement : (s : List (Slot T)) (h : Handle) (x : T) (f : Fault) → (replaced s h x).1 ≡ Err f → (replaced s h x).0 ≡ s

-- the handle of a slot once it is freed
abbrev pub renewed : Handle → Handle
renewed h = handle h.slot (h.generation + 1)

-- The handles of the free slots from a link on: the slot that was freed last is the first.
abbrev pub Links : {T : Type 0} → List (Slot T) → Option ℕ → List Handle → Type 0
Links s o [] = o ≡ None
Links s o (k ∷ ks) = (n : Option ℕ) × (o ≡ Some k.slot) × (slot_at s k.slot ≡ Free k.generation n) × Links s n ks

-- the free slots of a store as a stack of the handles that they give next
abbrev pub Stack : {T : Type 0} → State T → List Handle → Type 0
Stack st ks = Links st.slots st.header.free ks

-- the handle on top, or else the first unused slot at generation 0
abbrev pub top : {T : Type 0} → State T → List Handle → Result Handle Fault
top st [] = cond (nat_lt st.header.used (length st.slots)) (Ok (handle st.header.used 0)) (Err Full)
top st (k ∷ ks) = Ok k

-- An insert takes the top off. A removal puts the handle's successor on top, but for a slot that is retired.
abbrev pub restacked : {T : Type 0} → State T → List Handle → Op T → List Handle
restacked st ks (insert x) = drop 1 ks
restacked st ks (remove h) =
    cond (is_some (found st.slots h) && not (h.generation == 4294967295)) (renewed h ∷ ks) ks
restacked st ks (replace h x) = ks

abbrev pub stack_after : {T : Type 0} → State T → List Handle → List (Op T) → List Handle
stack_after st ks [] = ks
stack_after st ks (o ∷ os) = stack_after (step st o) (restacked st ks o) os

-- each handle is live when its turn comes, and not at its last generation
abbrev pub Freeable : {T : Type 0} → State T → List Handle → Type 0
Freeable st [] = Unit {0}
Freeable st (h ∷ hs) =
    (is_some (found st.slots h) ≡ true) × (h.generation < 4294967295) × Freeable (step st (remove h)) hs

-- what inserts answer, one after the other
abbrev pub answered : {T : Type 0} → State T → List T → List (Result Handle Fault)
answered st [] = []
answered st (x ∷ xs) = (inserted st x).1 ∷ answered (inserted st x).0 xs

-- The free slots are a stack of handles, and an insert answers its top. So slots that are freed one after the other are taken in the
-- reverse order, each at its next generation.
pub record LastInFirstOut (T : Type 0) : Type 0 where
  pub stack : (st : State T) → Valid st → (ks : List Handle) × Stack st ks
  pub alone : (st : State T) (ks ls : List Handle) → Stack st ks → Stack st ls → ks ≡ ls
  pub answers : (st : State T) → Valid st → (ks : List Handle) → Stack st ks → (x : T) → (inserted st x).1 ≡ top st ks
  pub after : (st : State T) → Valid st → (ks : List Handle) → Stack st ks
      → (os : List (Op T)) → Stack (run st os) (stack_after st ks os)
  pub reversed : (st : State T) → Valid st → (hs : List Handle) → Freeable st hs → (xs : List T) → length xs ≡ length hs
      → answered (run st (map remove hs)) xs ≡ map (λ h. Ok (renewed h)) (reverse hs)

-- A retired slot, which no insert answers.
pub record Gone {T : Type 0} (st : State T) (i : ℕ) : Type 0 where
  pub retired : slot_at st.slots i ≡ Retired
  pub passed : (x : T) (k : Handle) → (inserted st x).1 ≡ Ok k → k.slot ≢ i

-- A slot that is freed at the last generation is gone for good.
abbrev pub RetiredForGood : Type 0 → Type 0
RetiredForGood T = (st : State T) → Valid st → (h : Handle) (x : T) → found st.slots h ≡ Some x → h.generation ≡ 4294967295
    → (os : List (Op T)) → Gone (run (removed st h).0 os) h.slot

-- What is foretold is what an insert answers, its refusals too.
abbrev pub NextIsAnswered : Type 0 → Type 0
NextIsAnswered T = (st : State T) (x : T) → (inserted st x).1 ≡ next_handle st
