-- The list of a body: no handle twice, and each of a collider that names the body. Assumes nothing.
use Rattle.std.proofs.Common.{◌≡◌, zero, suc, true, not, List, [], ◌∷◌, Some, None, Decides, Option, sym, refl, ap, subst, arith}
use Rattle.std.specs.List.{ContainsAt as Has, AllByRecursion}
use Rattle.std.proofs.ByRecursion.{all-has, all_has_itself, All-weaker, has_get_or, Decides-by_and}
use Rattle.std.proofs.lemmas.Bool.{and_parts, and_from}
use Rattle.std.proofs.lemmas.Bool.Decides.{Decides-like, Decides-not}
use Rattle.geometry.specs.declared.handle.Handle.{Handle}
use Rattle.geometry.specs.declared.handle.RigidBodyHandle.{RigidBodyHandle}
use Rattle.geometry.specs.declared.handle.ColliderHandle.{ColliderHandle}
use Rattle.geometry.specs.Handles.{same}
use Rattle.slots.specs.declared.Slot.{Slot}
use Rattle.slots.specs.Store.{found}
use Rattle.records.specs.declared.collider.Collider.{Collider}
use Rattle.records.specs.declared.collider.ColliderParent.{ColliderParent}
use Rattle.records.specs.Lists.{listed_in}
use Rattle.records.proofs.Members.{same_true, same_self, listed_decides}
use Rattle.rules.specs.Rules.{distinct, named_by, owned_by, owns, owns_all}
use Rattle.rules.specs.Holds.{Distinct, Names}

-- ---- no handle twice

distinct_out : (ks : List ColliderHandle) → distinct ks ≡ true → Distinct ks
distinct_out [] h i j d p q e = omega arith
distinct_out (x ∷ xs) h zero zero d p q e = omega arith
distinct_out (x ∷ xs) h zero (suc j) d p q e =
    let a = and_parts (not (listed_in x xs)) (distinct xs) h in
    let n = Decides-not (listed_in x xs) (listed_decides x xs) in
    n.0 a.0 (subst (λ (y : ColliderHandle). Has xs y) (sym e) (has_get_or xs j d (omega arith)))
distinct_out (x ∷ xs) h (suc i) zero d p q e = omega arith
distinct_out (x ∷ xs) h (suc i) (suc j) d p q e =
    distinct_out xs (and_parts (not (listed_in x xs)) (distinct xs) h).1 i j d (omega arith) (omega arith) e

distinct_in : (ks : List ColliderHandle) → Distinct ks → distinct ks ≡ true
distinct_in [] h = refl
distinct_in (x ∷ xs) h =
    let n = Decides-not (listed_in x xs) (listed_decides x xs) in
    and_from (not (listed_in x xs)) (distinct xs)
    (n.1 (λ m. h 0 (suc m.0) x (omega arith) (let l = m.1 in omega arith) (sym (m.2 x))))
    (distinct_in xs (λ i j d p q e. h (suc i) (suc j) d (omega arith) (omega arith) e))

pub distinct_decides : (ks : List ColliderHandle) → Decides (distinct ks) (Distinct ks)
distinct_decides ks = (distinct_out ks, distinct_in ks)

-- ---- a collider that is live and names the body

module _ (cs : List (Slot Collider)) (h : RigidBodyHandle) where
  named_out : (k : ColliderHandle) (c : Collider) → found cs k.0 ≡ Some c → (q : Option ColliderParent) → c.parent ≡ q → named_by h q ≡ true → Names cs k h
  named_out k c f None e t = absurd (grind arith)
  named_out k c f (Some p) e t =
      let wrap : Handle → RigidBodyHandle = λ g. record { 0 = g } in
      record { collider = c; live = f; parent = p; has = e; named = ap wrap (same_true p.body.0 h.0 t) }

  owned_out : (k : ColliderHandle) (o : Option Collider) → found cs k.0 ≡ o → owned_by h o ≡ true → Names cs k h
  owned_out k None f t = absurd (grind arith)
  owned_out k (Some c) f t = named_out k c f c.parent refl t

  owned_in : (k : ColliderHandle) → Names cs k h → owns cs h k ≡ true
  owned_in k n =
      rw n.live (subst (λ (q : Option ColliderParent). named_by h q ≡ true) (sym n.has)
      (subst (λ (b : RigidBodyHandle). same b.0 h.0 ≡ true) (sym n.named) (same_self h.0)))

  pub owns_decides : (k : ColliderHandle) → Decides (owns cs h k) (Names cs k h)
  owns_decides k = (owned_out k (found cs k.0) refl, owned_in k)

  pub owns_all_decides : (ks : List ColliderHandle) → Decides (owns_all cs h ks) ((k : ColliderHandle) → Has ks k → Names cs k h)
  owns_all_decides ks =
      let P : ColliderHandle → Type 0 = λ k. Names cs k h in
      Decides-like {P = AllByRecursion P ks} {Q = (k : ColliderHandle) → Has ks k → Names cs k h} (owns_all cs h ks)
      (λ a k m. all-has P ks k a m)
      (λ f. All-weaker (Has ks) P f ks (all_has_itself ks))
      (Decides-by_and (owns cs h) P (owns_all cs h) owns_decides refl (λ _ _. refl) ks)
