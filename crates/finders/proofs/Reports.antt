-- The laws of what is reported. Assumes nothing.
use Rattle.std.proofs.Common.{◌≡◌, ℕ, zero, suc, ◌≤◌, T, List, [], ◌∷◌, Some, None, Option, sym, refl, subst, arith}
use lib.Ieee.{Float}
use Rattle.std.specs.List.Sorted.{IsPermutation}
use Rattle.std.proofs.lemmas.Grind.{common_steps}
use Rattle.geometry.specs.declared.handle.ColliderHandle.{ColliderHandle}
use Rattle.geometry.specs.declared.aabb.Aabb.{Aabb}
use Rattle.finders.specs.declared.entry.Entry.{Entry}
use Rattle.finders.specs.Finders.{Held, slot_of, collider_of, entry_at, box_in, box_of, held_count, meets}
use Rattle.finders.specs.FinderLaws.{Lists, Alike, ReportingLaws}
use Rattle.finders.proofs.Shuffles.{shuffled_members}

alike_reported : (h k : Held) (q : Aabb) (p : Float) (cs ds : List ColliderHandle) → Alike h k → Lists h q p cs → Lists k q p ds → IsPermutation cs ds
alike_reported h k q p cs ds e l r =
    shuffled_members cs ds l.apart r.apart
    (λ c i. r.all c (subst (λ (o : Option Aabb). T (meets o q p)) (e c) (l.only c i)))
    (λ c i. l.all c (subst (λ (o : Option Aabb). T (meets o q p)) (sym (e c)) (r.only c i)))

-- a slot of which no collider is held holds nothing
unheld : (h : Held) (s : ℕ) → ((c : ColliderHandle) → slot_of c ≡ s → box_of h c ≡ None) → entry_at h s ≡ None
unheld h s e = go (entry_at h s) (λ g. e (collider_of s g) refl)
  where
    go : (o : Option Entry) → ((g : ℕ) → box_in o g ≡ None) → o ≡ None
    go None k = refl
    go (Some x) k = let n = k x.generation in grind (arith, common_steps)

-- what holds nothing from slot n on holds at most n
held_below : (h : Held) (n : ℕ) → ((s : ℕ) → n ≤ s → entry_at h s ≡ None) → held_count h ≤ n
held_below [] n e = omega arith
held_below (o ∷ os) zero e =
    let r = held_below os zero (λ s b. e (suc s) (omega arith)) in
    let f : o ≡ None = e 0 (omega arith) in
    grind (arith, common_steps)
held_below (o ∷ os) (suc n) e =
    let r = held_below os n (λ s b. e (suc s) (omega arith)) in
    grind (arith, common_steps)

pub reporting_laws : ReportingLaws
reporting_laws = record {
  set = λ m c b q p cs e t l. grind (arith, common_steps);
  removed = λ m c q p cs l i. grind (arith, common_steps);
  alike = alike_reported;
  short = λ m l q p a. omega (arith, (a.lists q p).few, a.within);
  below = λ h n q p cs e l. omega (arith, l.few, held_below h n (λ s b. unheld h s (λ c i. e c (subst (λ (k : ℕ). n ≤ k) (sym i) b))));
}
