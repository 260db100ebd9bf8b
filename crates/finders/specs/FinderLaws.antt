-- The laws of a finder. Assumes nothing.
use Rattle.std.specs.Prelude.{◌≡◌, ℕ, ◌<◌, ◌≤◌, T, Err, IsOk, IsErr, List, [], length, Some, None, ◌≢◌, Float}
use Rattle.std.specs.List.Sorted.{IsPermutation}
use Rattle.geometry.specs.declared.handle.ColliderHandle.{ColliderHandle}
use Rattle.geometry.specs.declared.aabb.Aabb.{Aabb}
use Rattle.geometry.specs.Boxes.{loosened_by, meet_of}
use Rattle.finders.specs.declared.finder_fault.FinderFault.TheVariants.{PastTheLastSlot, Full}
use Rattle.finders.specs.Members.{In, Distinct}
use Rattle.finders.specs.Finders.{Held, Meaning, Listing, empty, slot_of, entry_at, box_of, held_count, meets, set_in, remove_in}

-- the list has the held colliders whose box, loosened by p, meets q, each once, in any order
pub record Lists (h : Held) (q : Aabb) (p : Float) (cs : List ColliderHandle) : Type 0 where
  pub apart : Distinct cs
  pub only : (c : ColliderHandle) → In c cs → T (meets (box_of h c) q p)
  pub all : (c : ColliderHandle) → T (meets (box_of h c) q p) → In c cs
  pub few : length cs ≤ held_count h

pub record Lawful (m : Meaning) (l : Listing) : Type 0 where
  pub lists : (q : Aabb) (p : Float) → Lists m.held q p (l q p)
  pub within : held_count m.held ≤ m.capacity

-- both hold the same colliders, with the same boxes
abbrev pub Alike : Held → Held → Type 0
Alike h k = (c : ColliderHandle) → box_of h c ≡ box_of k c

-- the collider is reported of each box that its own, loosened, meets
abbrev pub ReportedWhileMet : Listing → ColliderHandle → Aabb → Type 0
ReportedWhileMet l c b = (q : Aabb) (p : Float) → T (meet_of (loosened_by b p) q) → In c (l q p)

abbrev pub NeverReported : Listing → ColliderHandle → Type 0
NeverReported l c = (q : Aabb) (p : Float) → In c (l q p) → ⊥

-- each report of one is the other's in some order
abbrev pub ReportAlike : Listing → Listing → Type 0
ReportAlike l k = (q : Aabb) (p : Float) → IsPermutation (l q p) (k q p)

-- what is opened empty holds nothing, and nothing is listed of it
pub record EmptyLaws : Type 0 where
  pub holds_none : (slots limit : ℕ) (c : ColliderHandle) → box_of (empty slots limit).held c ≡ None
  pub counts_none : (slots limit : ℕ) → held_count (empty slots limit).held ≡ 0
  pub lists_none : (slots limit : ℕ) (q : Aabb) (p : Float) (cs : List ColliderHandle) → Lists (empty slots limit).held q p cs → cs ≡ []

pub record SettingLaws : Type 0 where
  -- what was set is held, in the place of what its slot held; other slots are as they were
  pub held : (m : Meaning) (c : ColliderHandle) (b : Aabb) → IsOk (set_in m c b).1 → box_of (set_in m c b).0.held c ≡ Some b
  pub replaced : (m : Meaning) (c d : ColliderHandle) (b : Aabb) → IsOk (set_in m c b).1 → slot_of d ≡ slot_of c → (d ≢ c) → box_of (set_in m c b).0.held d ≡ None
  pub others : (m : Meaning) (c d : ColliderHandle) (b : Aabb) → (slot_of d ≢ slot_of c) → box_of (set_in m c b).0.held d ≡ box_of m.held d
  -- a refusal changes nothing, and comes only for a slot that holds nothing: one past the last place, or one more than the capacity
  pub refused : (m : Meaning) (c : ColliderHandle) (b : Aabb) → IsErr (set_in m c b).1 → ((set_in m c b).0 ≡ m) × (entry_at m.held (slot_of c) ≡ None)
  pub past : (m : Meaning) (c : ColliderHandle) (b : Aabb) → (set_in m c b).1 ≡ Err PastTheLastSlot → length m.held ≤ slot_of c
  pub full : (m : Meaning) (c : ColliderHandle) (b : Aabb) → (set_in m c b).1 ≡ Err Full → (slot_of c < length m.held) × (m.capacity ≤ held_count m.held)
  -- setting twice is setting the last
  pub twice : (m : Meaning) (c : ColliderHandle) (a b : Aabb) → set_in (set_in m c a).0 c b ≡ set_in m c b
  -- capacity and slots are kept, and the capacity is not exceeded
  pub capacity : (m : Meaning) (c : ColliderHandle) (b : Aabb) → (set_in m c b).0.capacity ≡ m.capacity
  pub slots : (m : Meaning) (c : ColliderHandle) (b : Aabb) → length (set_in m c b).0.held ≡ length m.held
  pub within : (m : Meaning) (c : ColliderHandle) (b : Aabb) → held_count m.held ≤ m.capacity → held_count (set_in m c b).0.held ≤ m.capacity

pub record RemovingLaws : Type 0 where
  -- what was removed is not held; every other collider is as it was
  pub gone : (m : Meaning) (c : ColliderHandle) → box_of (remove_in m c).held c ≡ None
  pub others : (m : Meaning) (c d : ColliderHandle) → (d ≢ c) → box_of (remove_in m c).held d ≡ box_of m.held d
  pub capacity : (m : Meaning) (c : ColliderHandle) → (remove_in m c).capacity ≡ m.capacity
  pub slots : (m : Meaning) (c : ColliderHandle) → length (remove_in m c).held ≡ length m.held
  pub within : (m : Meaning) (c : ColliderHandle) → held_count (remove_in m c).held ≤ held_count m.held

pub record ReportingLaws : Type 0 where
  -- what was set is reported while its box meets; what was removed is not
  pub set : (m : Meaning) (c : ColliderHandle) (b q : Aabb) (p : Float) (cs : List ColliderHandle) → IsOk (set_in m c b).1 → T (meet_of (loosened_by b p) q) → Lists (set_in m c b).0.held q p cs → In c cs
  pub removed : (m : Meaning) (c : ColliderHandle) (q : Aabb) (p : Float) (cs : List ColliderHandle) → Lists (remove_in m c).held q p cs → In c cs → ⊥
  -- of two that hold alike, each one's report is the other's in some order
  pub alike : (h k : Held) (q : Aabb) (p : Float) (cs ds : List ColliderHandle) → Alike h k → Lists h q p cs → Lists k q p ds → IsPermutation cs ds
  -- no more are reported than the capacity, nor than the slots below which all that is held stands
  pub short : (m : Meaning) (l : Listing) (q : Aabb) (p : Float) → Lawful m l → length (l q p) ≤ m.capacity
  pub below : (h : Held) (n : ℕ) (q : Aabb) (p : Float) (cs : List ColliderHandle) → ((c : ColliderHandle) → n ≤ slot_of c → box_of h c ≡ None) → Lists h q p cs → length cs ≤ n
