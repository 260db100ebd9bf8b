-- The list of a body's colliders, on any content of its table. Assumes nothing.
use Rattle.std.specs.Prelude.{ℕ, ◌+◌, ◌-◌, min, Bool, cond, ◌&&◌, List, length, take, replicate, Some, None, Ok, Err, Option, Result, ◌==◌, nat_le, nat_lt, slice_set}
use Rattle.std.specs.List.{list_any, position_from, copy_within}
use Rattle.geometry.specs.declared.handle.Handle.{Handle}
use Rattle.geometry.specs.declared.handle.ColliderHandle.{ColliderHandle}
use Rattle.geometry.specs.Handles.{same}
use Rattle.records.specs.declared.fault.Fault.{Fault}
use Rattle.records.specs.declared.fault.Fault.TheVariants.{Full, NotLive}
use Rattle.records.specs.declared.collider_list.ColliderList.{ColliderList}

abbrev pub collider_handle : Handle → ColliderHandle
collider_handle h = record { 0 = h }

-- what stands in an entry that is not listed
abbrev pub blank_handle : ColliderHandle
blank_handle = collider_handle (record { slot = 0; generation = 0 })

abbrev pub tabled : List ColliderHandle → ℕ → ColliderList
tabled t n = record { handles = t; count = n }

abbrev pub empty_list : ColliderList
empty_list = tabled (replicate 8 blank_handle) 0

-- the table has eight entries, as each table of a program has, and the count is one of them
abbrev pub counted : ColliderList → Bool
counted l = length l.handles == 8 && nat_le l.count 8

-- the handles that are listed, in their order
abbrev pub listed : ColliderList → List ColliderHandle
listed l = take (min l.count 8) l.handles

-- where a handle first stands in a list that begins at i
abbrev pub place : ColliderHandle → ℕ → List ColliderHandle → Option ℕ
place h i xs = position_from (λ x. same x.0 h.0) i xs

abbrev pub listed_in : ColliderHandle → List ColliderHandle → Bool
listed_in h xs = list_any (λ x. same x.0 h.0) xs

-- a handle is put last, where there is room
abbrev pub attached : ColliderList → ColliderHandle → ColliderList × Result (Unit {0}) Fault
attached l h = cond (nat_lt l.count 8) (tabled (slice_set l.handles l.count h) (l.count + 1), Ok tt) (l, Err Full)

-- a table of which n entries are listed, without entry i: those after it move up, and the last stays where it is too
abbrev pub closed : List ColliderHandle → ℕ → ℕ → List ColliderHandle
closed t i n = copy_within t (i + 1) n i

-- of n that are listed, the one at i is taken out
abbrev pub detached_at : ColliderList → ℕ → Option ℕ → ColliderList × Result (Unit {0}) Fault
detached_at l n None = (l, Err (NotLive 0))
detached_at l n (Some i) = (tabled (slice_set (closed l.handles i n) (n - 1) blank_handle) (n - 1), Ok tt)

-- a handle is taken out where it first stands
abbrev pub detached : ColliderList → ColliderHandle → ColliderList × Result (Unit {0}) Fault
detached l h = detached_at l (min l.count 8) (place h 0 (listed l))
