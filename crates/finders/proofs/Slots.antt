-- A row of slots, and what is made of it where a collider is taken. Assumes nothing.
use Rattle.std.proofs.Common.{◌≡◌, ℕ, ◌+◌, ◌<◌, ◌≤◌, true, false, length, min, take, set, replicate, Ok, Err, is_some, Some, ap, ◌∙◌, inl, inr, arith, length-set}
use lib.Ieee.{nan}
use lib.ListN.{length-replicate}
use Rattle.std.proofs.lemmas.Grind.{common_steps}
use Rattle.std.proofs.lemmas.List.{take_all, take-replicate}
use Rattle.std.proofs.lemmas.List.Sums.{count_by-le-length}
use Rattle.std.proofs.lemmas.Bool.{cases_lt}
use Rattle.geometry.specs.declared.handle.ColliderHandle.{ColliderHandle}
use Rattle.geometry.specs.declared.aabb.Aabb.{Aabb}
use Rattle.geometry.specs.declared.vector.Vector.{Vector}
use Rattle.finders.specs.declared.entry.Entry.{Entry}
use Rattle.finders.specs.declared.finder_fault.FinderFault.{FinderFault}
use Rattle.finders.specs.declared.slot_table.SlotTable.{SlotTable}
use Rattle.finders.specs.Finders.{Held, Meaning, slot_of, entry_at, held_count, takes, set_in}
use Rattle.finders.specs.Tables.{table_meaning, count_with}

-- the front of a row of blanks
pub take_blanks : {X : Type 0} (m n : ℕ) (x : X) → take m (replicate n x) ≡ replicate (min m n) x
take_blanks m n x =
    elim (cases_lt m n) [
      | inl l ↦ take-replicate m n x (omega arith) ∙ ap (λ (k : ℕ). replicate k x) (omega arith)
      | inr l ↦ take_all m (replicate n x) (omega (arith, length-replicate n x)) ∙ ap (λ (k : ℕ). replicate k x) (omega arith)
    ]

-- what is known of a collider that is taken: its slot, and how many slots hold something then
pub record Taken (m : Meaning) (c : ColliderHandle) (n : ℕ) : Type 0 where
  pub takes : takes m c ≡ true
  pub inside : slot_of c < length m.held
  pub count : (e : Entry) → n ≡ held_count (set m.held (slot_of c) (Some e))
  pub limit : held_count m.held ≤ m.capacity → n ≤ m.capacity

pub taken : (m : Meaning) (c : ColliderHandle) (n : ℕ) → count_with m c ≡ Ok n → Taken m c n
taken m c n e = grind (arith, common_steps)

pub not_taken : (m : Meaning) (c : ColliderHandle) (x : FinderFault) (b : Aabb) → count_with m c ≡ Err x → set_in m c b ≡ (m, Err x)
not_taken m c x b e = grind (arith, common_steps)

-- where a slot is free, fewer hold something than there are slots: one more could
count_free : (h : Held) (i : ℕ) → i < length h → is_some (entry_at h i) ≡ false → held_count h < length h
count_free h i l f =
    let k : held_count (set h i (Some blank)) ≡ held_count h + 1 = grind (arith, common_steps) in
    omega (arith, count_by-le-length is_some (set h i (Some blank)), length-set h i (Some blank))
  where
    nowhere : Vector
    nowhere = record { x = nan; y = nan; z = nan }

    blank : Entry
    blank = record { generation = 0; aabb = record { mins = nowhere; maxs = nowhere } }

pub takes_all : (m : Meaning) (c : ColliderHandle) → length m.held ≡ m.capacity → slot_of c < m.capacity → takes m c ≡ true
takes_all m c e l = grind (arith, count_free)

-- ---- a table

pub table_count : (t : SlotTable) → t.count ≤ 1024
table_count t = omega (arith, count_by-le-length is_some (table_meaning t).held)
