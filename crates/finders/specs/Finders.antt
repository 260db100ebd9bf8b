-- What a finder holds, and what setting, removing and reporting make of it. Assumes nothing.
use Rattle.std.specs.Prelude.{ℕ, Bool, false, cond, Result, Ok, Err, ◌&&◌, ◌||◌, List, length, replicate, is_some, Some, None, count_by, Option, ◌==◌, nat_lt, slice_index_or, slice_set, Float}
use Rattle.geometry.specs.declared.handle.ColliderHandle.{ColliderHandle}
use Rattle.geometry.specs.declared.aabb.Aabb.{Aabb}
use Rattle.geometry.specs.Boxes.{loosened_by, meet_of}
use Rattle.finders.specs.declared.entry.Entry.{Entry}
use Rattle.finders.specs.declared.finder_fault.FinderFault.{FinderFault}
use Rattle.finders.specs.declared.finder_fault.FinderFault.TheVariants.{PastTheLastSlot, Full}

abbrev pub slot_of : ColliderHandle → ℕ
slot_of c = c.0.slot

abbrev pub generation_of : ColliderHandle → ℕ
generation_of c = c.0.generation

abbrev pub collider_of : ℕ → ℕ → ColliderHandle
collider_of s g = record { 0 = record { slot = s; generation = g } }

abbrev pub entry_of : ColliderHandle → Aabb → Entry
entry_of c b = record { generation = generation_of c; aabb = b }

-- a place for each slot that the finder has
abbrev pub Held : Type 0
Held = List (Option Entry)

-- at most `capacity` places are taken at a time
pub record Meaning : Type 0 where
  pub capacity : ℕ
  pub held : Held

-- nothing is held in any of `slots` places
abbrev pub empty : ℕ → ℕ → Meaning
empty slots limit = record { capacity = limit; held = replicate slots None }

-- the same slots and capacity, with nothing held
abbrev pub cleared : Meaning → Meaning
cleared m = empty (length m.held) m.capacity

-- what a slot holds; a slot past the last place holds nothing
abbrev pub entry_at : Held → ℕ → Option Entry
entry_at h s = slice_index_or h s None

-- the box held for a generation
abbrev pub box_in : Option Entry → ℕ → Option Aabb
box_in None g = None
box_in (Some e) g = cond (e.generation == g) (Some e.aabb) None

-- the box of a collider, if it is held
abbrev pub box_of : Held → ColliderHandle → Option Aabb
box_of h c = box_in (entry_at h (slot_of c)) (generation_of c)

-- how many are held
abbrev pub held_count : Held → ℕ
held_count h = count_by is_some h

-- there is such a slot, and it holds something already or there is room for one more
abbrev pub takes : Meaning → ColliderHandle → Bool
takes m c = nat_lt (slot_of c) (length m.held) && (is_some (entry_at m.held (slot_of c)) || nat_lt (held_count m.held) m.capacity)

-- why a collider is refused: there is no such slot, or no room for one more
abbrev pub fault_of : Meaning → ColliderHandle → FinderFault
fault_of m c = cond (nat_lt (slot_of c) (length m.held)) Full PastTheLastSlot

abbrev pub put_at : Meaning → ℕ → Option Entry → Meaning
put_at m s e = record { capacity = m.capacity; held = slice_set m.held s e }

-- a collider's box added, or put in the place of what its slot held; else refused, with nothing changed
abbrev pub set_in : Meaning → ColliderHandle → Aabb → Meaning × Result Unit FinderFault
set_in m c b = cond (takes m c) (put_at m (slot_of c) (Some (entry_of c b)), Ok tt) (m, Err (fault_of m c))

-- the entry of that very collider removed; one of another generation stays
abbrev pub remove_in : Meaning → ColliderHandle → Meaning
remove_in m c = cond (is_some (box_of m.held c)) (put_at m (slot_of c) None) m

-- a box is held, and loosened by p it meets q
abbrev pub meets : Option Aabb → Aabb → Float → Bool
meets None q p = false
meets (Some b) q p = meet_of (loosened_by b p) q

-- what a finder reports of a box and a distance, in its own order
abbrev pub Listing : Type 0
Listing = Aabb → Float → List ColliderHandle
