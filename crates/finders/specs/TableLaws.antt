-- Proofs: what a row of entries reports in slot order is lawful. Ghost members cite the last of them, so they stand here. Assumes nothing.
use Rattle.std.specs.Prelude.{◌≡◌, ℕ, zero, suc, ◌+◌, ◌≤◌, cond, T, ◌⊎◌, List, [], ◌∷◌, ◌++◌, length, is_some, Some, None, Option, Float}
use Rattle.std.proofs.Common.{subst, inl, inr, arith, length-append}
use Rattle.std.proofs.lemmas.List.Sums.{sum_by-cons}
use Rattle.std.proofs.lemmas.Bool.{cases_Bool}
use Rattle.std.proofs.lemmas.Grind.{common_steps}
use Rattle.geometry.specs.declared.handle.ColliderHandle.{ColliderHandle}
use Rattle.geometry.specs.declared.aabb.Aabb.{Aabb}
use Rattle.geometry.specs.Boxes.{loosened_by, meet_of}
use Rattle.finders.specs.declared.entry.Entry.{Entry}
use Rattle.finders.specs.declared.slot_table.SlotTable.{SlotTable}
use Rattle.finders.specs.Members.{In, Distinct}
use Rattle.finders.specs.Finders.{Held, Listing, slot_of, generation_of, entry_at, box_in, held_count, meets}
use Rattle.finders.specs.FinderLaws.{Lists, Lawful}
use Rattle.finders.specs.Tables.{table_meaning, hit, upward}

-- ---- members of a list

pub in_left : {X : Type 0} (x : X) (xs ys : List X) → In x xs → In x (xs ++ ys)
in_left x [] ys i = absurd i
in_left x (y ∷ xs) ys i = grind (arith, in_left x xs ys)

pub in_right : {X : Type 0} (x : X) (xs ys : List X) → In x ys → In x (xs ++ ys)
in_right x [] ys i = i
in_right x (y ∷ xs) ys i = inr (in_right x xs ys i)

pub in_cases : {X : Type 0} (x : X) (xs ys : List X) → In x (xs ++ ys) → In x xs ⊎ In x ys
in_cases x [] ys i = inr i
in_cases x (y ∷ xs) ys i = grind (arith, in_cases x xs ys)

pub distinct_append : {X : Type 0} (xs ys : List X) → Distinct xs → Distinct ys → ((x : X) → In x xs → In x ys → ⊥) → Distinct (xs ++ ys)
distinct_append [] ys p q h = q
distinct_append (x ∷ xs) ys p q h = grind (arith, in_cases x xs ys, distinct_append xs ys)

-- ---- one slot

-- the collider stands in slot s, and what is held there meets
abbrev Here : ℕ → Option Entry → Aabb → Float → ColliderHandle → Type 0
Here s o q p c = (slot_of c ≡ s) × T (meets (box_in o (generation_of c)) q p)

hit_only : (s : ℕ) (o : Option Entry) (q : Aabb) (p : Float) (c : ColliderHandle) → In c (hit s o q p) → Here s o q p c
hit_only s None q p c i = absurd i
hit_only s (Some e) q p c i =
    elim (cases_Bool (meet_of (loosened_by e.aabb p) q)) [
      | inl t ↦ grind (arith, common_steps)
      | inr f ↦ grind (arith, common_steps)
    ]

hit_all : (s : ℕ) (o : Option Entry) (q : Aabb) (p : Float) (c : ColliderHandle) → Here s o q p c → In c (hit s o q p)
hit_all s None q p c h = absurd h.1
hit_all s (Some e) q p c h = grind (arith, common_steps)

hit_distinct : (s : ℕ) (o : Option Entry) (q : Aabb) (p : Float) → Distinct (hit s o q p)
hit_distinct s o q p = grind (arith, common_steps)

hit_few : (s : ℕ) (o : Option Entry) (q : Aabb) (p : Float) → length (hit s o q p) ≤ cond (is_some o) 1 0
hit_few s o q p = grind (arith, common_steps)

-- ---- a row from slot s on

-- the collider stands in the row, at place k
abbrev There : ℕ → Held → Aabb → Float → ColliderHandle → ℕ → Type 0
There s h q p c k = (slot_of c ≡ s + k) × T (meets (box_in (entry_at h k) (generation_of c)) q p)

upward_only : (q : Aabb) (p : Float) (c : ColliderHandle) (h : Held) (s : ℕ) → In c (upward s h q p) → (k : ℕ) × There s h q p c k
upward_only q p c [] s i = absurd i
upward_only q p c (o ∷ os) s i =
    elim (in_cases c (hit s o q p) (upward (s + 1) os q p) i) [
      | inl l ↦ let h = hit_only s o q p c l in (0, (omega arith, h.1))
      | inr r ↦ let h = upward_only q p c os (s + 1) r in (suc h.0, (omega arith, h.1.1))
    ]

upward_all : (q : Aabb) (p : Float) (c : ColliderHandle) (h : Held) (k s : ℕ) → There s h q p c k → In c (upward s h q p)
upward_all q p c [] k s t = absurd t.1
upward_all q p c (o ∷ os) zero s t = in_left c (hit s o q p) (upward (s + 1) os q p) (hit_all s o q p c (omega arith, t.1))
upward_all q p c (o ∷ os) (suc k) s t = in_right c (hit s o q p) (upward (s + 1) os q p) (upward_all q p c os k (s + 1) (omega arith, t.1))

upward_distinct : (q : Aabb) (p : Float) (h : Held) (s : ℕ) → Distinct (upward s h q p)
upward_distinct q p [] s = tt
upward_distinct q p (o ∷ os) s =
    distinct_append (hit s o q p) (upward (s + 1) os q p) (hit_distinct s o q p) (upward_distinct q p os (s + 1))
    (λ c l r. let a = hit_only s o q p c l in let b = upward_only q p c os (s + 1) r in omega arith)

upward_few : (q : Aabb) (p : Float) (h : Held) (s : ℕ) → length (upward s h q p) ≤ held_count h
upward_few q p [] s = omega arith
upward_few q p (o ∷ os) s =
    simp length-append (omega (arith, hit_few s o q p, upward_few q p os (s + 1), sum_by-cons (λ x. cond (is_some x) 1 0) o os))

-- ---- lawful

pub upward_lists : (h : Held) (q : Aabb) (p : Float) → Lists h q p (upward 0 h q p)
upward_lists h q p = record {
  apart = upward_distinct q p h 0;
  only = λ c i.
      let t = upward_only q p c h 0 i in
      let e : t.0 ≡ slot_of c = omega arith in
      subst (λ (k : ℕ). T (meets (box_in (entry_at h k) (generation_of c)) q p)) e t.1.1;
  all = λ c t. upward_all q p c h (slot_of c) 0 (omega arith, t);
  few = upward_few q p h 0;
}

-- a table is lawful with each listing that lists what it holds
pub table_lawful : (t : SlotTable) (l : Held → Listing) → ((h : Held) (q : Aabb) (p : Float) → Lists h q p (l h q p)) → Lawful (table_meaning t) (l (table_meaning t).held)
table_lawful t l lists = record { lists = lists (table_meaning t).held; within = omega (arith, t.counted, t.limited) }
