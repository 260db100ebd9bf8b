-- A table by slots, its order of report, and what is written of a report. Assumes nothing.
use Rattle.std.specs.Prelude.{ℕ, ◌+◌, cond, List, [], ◌∷◌, fold, is_some, Some, None, Option, Result, Ok, Err, Float}
use Rattle.std.specs.List.{flat_map, enumerate_from}
use Rattle.spaces.specs.Spaces.{Written, with}
use Rattle.geometry.specs.declared.handle.ColliderHandle.{ColliderHandle}
use Rattle.geometry.specs.declared.aabb.Aabb.{Aabb}
use Rattle.geometry.specs.Boxes.{loosened_by, meet_of}
use Rattle.finders.specs.declared.entry.Entry.{Entry}
use Rattle.finders.specs.declared.slot_table.SlotTable.{SlotTable}
use Rattle.finders.specs.declared.finder_fault.FinderFault.{FinderFault}
use Rattle.finders.specs.Finders.{Held, Meaning, slot_of, collider_of, entry_at, held_count, takes, fault_of}

abbrev pub table_meaning : SlotTable → Meaning
table_meaning t = record { capacity = t.limit; held = t.entries.items }

-- how many hold something once a collider is held; else why it is refused
abbrev pub count_with : Meaning → ColliderHandle → Result ℕ FinderFault
count_with m c = cond (takes m c) (Ok (cond (is_some (entry_at m.held (slot_of c))) (held_count m.held) (held_count m.held + 1))) (Err (fault_of m c))

-- the collider of a slot, if the box there, loosened by p, meets q
abbrev pub hit : ℕ → Option Entry → Aabb → Float → List ColliderHandle
hit s None q p = []
hit s (Some e) q p = cond (meet_of (loosened_by e.aabb p) q) (collider_of s e.generation ∷ []) []

-- in slot order, of a row of which the first is slot s
abbrev pub upward : ℕ → Held → Aabb → Float → List ColliderHandle
upward s h q p = flat_map (λ e. hit e.0 e.1 q p) (enumerate_from s h)

-- these written after what is written, as far as there is room
abbrev pub offered : Written ColliderHandle → List ColliderHandle → Written ColliderHandle
offered w cs = fold with w cs
