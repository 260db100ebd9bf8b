-- The laws of a list of colliders. Assumes nothing.
use Rattle.std.specs.Prelude.{◌≡◌, ℕ, ◌≤◌, true, List, [], ◌∷◌, ◌++◌, length, Ok, Err, Decides, slice_index_or}
use Rattle.std.specs.List.{ContainsAt as Has}
use Rattle.geometry.specs.declared.handle.ColliderHandle.{ColliderHandle}
use Rattle.records.specs.declared.fault.Fault.{Fault}
use Rattle.records.specs.declared.fault.Fault.TheVariants.{Full, NotLive}
use Rattle.records.specs.declared.collider_list.ColliderList.{ColliderList}
use Rattle.records.specs.Lists.{blank_handle, empty_list, counted, listed, listed_in, attached, detached}

-- a list without the first place where a handle stands
pub record Without (h : ColliderHandle) (xs ys : List ColliderHandle) : Type 0 where
  pub before : List ColliderHandle
  pub after : List ColliderHandle
  pub whole : xs ≡ before ++ h ∷ after
  pub left : ys ≡ before ++ after
  pub first : Has before h → ⊥

-- no entry past the count is in use
abbrev pub Blanked : ColliderList → Type 0
Blanked l = (i : ℕ) → l.count ≤ i → slice_index_or l.handles i blank_handle ≡ blank_handle

-- Some of the laws ask that table and count be in order, as they are in every list of a bench.
pub record ListLaws : Type 0 where
  pub none : listed empty_list ≡ []
  pub few : (l : ColliderList) → length (listed l) ≤ 8
  pub counts : (l : ColliderList) → counted l ≡ true → length (listed l) ≡ l.count
  pub tells : (h : ColliderHandle) (xs : List ColliderHandle) → Decides (listed_in h xs) (Has xs h)
  -- a handle is put last, unless eight are listed
  pub appends : (l : ColliderList) (h : ColliderHandle) → counted l ≡ true → (attached l h).1 ≡ Ok tt → listed (attached l h).0 ≡ listed l ++ h ∷ []
  pub full : (l : ColliderList) (h : ColliderHandle) → counted l ≡ true → ((attached l h).1 ≡ Err Full → length (listed l) ≡ 8) × (length (listed l) ≡ 8 → (attached l h).1 ≡ Err Full)
  -- a handle that is listed is taken out, and the others keep their order
  pub takes_out : (l : ColliderList) (h : ColliderHandle) → counted l ≡ true → (detached l h).1 ≡ Ok tt → Without h (listed l) (listed (detached l h).0)
  pub missing : (l : ColliderList) (h : ColliderHandle) → ((detached l h).1 ≡ Err (NotLive 0) → Has (listed l) h → ⊥) × ((Has (listed l) h → ⊥) → (detached l h).1 ≡ Err (NotLive 0))
  -- one undoes the other, in the table too where no entry past the count is in use
  pub undone : (l : ColliderList) (h : ColliderHandle) → counted l ≡ true → (attached l h).1 ≡ Ok tt → (Has (listed l) h → ⊥) → listed (detached (attached l h).0 h).0 ≡ listed l
  pub undone_whole : (l : ColliderList) (h : ColliderHandle) → counted l ≡ true → Blanked l → (attached l h).1 ≡ Ok tt → (Has (listed l) h → ⊥) → (detached (attached l h).0 h).0 ≡ l
  -- table and count stay in order
  pub starts_counted : counted empty_list ≡ true
  pub attached_counted : (l : ColliderList) (h : ColliderHandle) → counted l ≡ true → counted (attached l h).0 ≡ true
  pub detached_counted : (l : ColliderList) (h : ColliderHandle) → counted l ≡ true → counted (detached l h).0 ≡ true
  pub starts_blanked : Blanked empty_list
  pub attached_blanked : (l : ColliderList) (h : ColliderHandle) → Blanked l → Blanked (attached l h).0
  pub detached_blanked : (l : ColliderList) (h : ColliderHandle) → counted l ≡ true → Blanked l → Blanked (detached l h).0
  -- a refusal alters nothing, on any content
  pub spared_by_attach : (l : ColliderList) (h : ColliderHandle) (f : Fault) → (attached l h).1 ≡ Err f → (attached l h).0 ≡ l
  pub spared_by_detach : (l : ColliderList) (h : ColliderHandle) (f : Fault) → (detached l h).1 ≡ Err f → (detached l h).0 ≡ l
