-- Where a handle stands in a list, and the list without it. Assumes nothing.
use Rattle.std.proofs.Common.{◌≡◌, ℕ, zero, suc, ◌+◌, ◌-◌, ◌<◌, ◌≤◌, true, false, cond, List, [], ◌∷◌, ◌++◌, length, is_some, Some, None, Decides, refl, ap, ◌∙◌, subst, ⊎_elim, arith}
use Rattle.std.proofs.lemmas.Bool.{cases_Bool}
use Rattle.std.proofs.lemmas.Bool.Decides.{nat_tests}
use Rattle.std.proofs.ByRecursion.{has_append_right}
use Rattle.std.specs.List.{remove, ContainsAt as Has}
use Rattle.geometry.specs.declared.handle.Handle.{Handle}
use Rattle.geometry.specs.declared.handle.ColliderHandle.{ColliderHandle}
use Rattle.geometry.specs.Handles.{same}
use Rattle.slots.specs.Store.{handle}
use Rattle.records.specs.Lists.{place, listed_in}
use Rattle.records.specs.ListLaws.{Without}

-- ---- equal handles

pub same_true : (a b : Handle) → same a b ≡ true → a ≡ b
same_true a b e =
    let p : a.slot ≡ b.slot = grind (arith, nat_tests) in
    let q : a.generation ≡ b.generation = grind (arith, nat_tests) in
    let r : handle a.slot a.generation ≡ handle b.slot b.generation = rw (p, q) refl in r

pub same_self : (a : Handle) → same a a ≡ true
same_self a = grind (arith, nat_tests)

pub same_collider_lem : (a b : ColliderHandle) → same a.0 b.0 ≡ true → a ≡ b
same_collider_lem a b e = let wrap : Handle → ColliderHandle = λ h. record { 0 = h } in ap wrap (same_true a.0 b.0 e)

-- ---- membership

pub has_first : {X : Type 0} (x : X) (xs : List X) → Has (x ∷ xs) x
has_first x xs = (0, omega arith, λ d. refl)

pub has_rest : {X : Type 0} (x y : X) (xs : List X) → Has xs y → Has (x ∷ xs) y
has_rest x y xs h = has_append_right (x ∷ []) xs y h

pub has_none : {X : Type 0} (y : X) → Has [] y → ⊥
has_none y h = let l = h.1 in omega arith

-- what a list has is its first element, or in the rest
pub has_cases : {X : Type 0} (P : Type 0) (x y : X) (xs : List X) → (x ≡ y → P) → (Has xs y → P) → Has (x ∷ xs) y → P
has_cases P x y xs f g (zero, l, e) = f (e x)
has_cases P x y xs f g (suc k, l, e) = g (k, omega arith, e)

module _ (h : ColliderHandle) where
  listed_has : (xs : List ColliderHandle) → listed_in h xs ≡ true → Has xs h
  listed_has [] e = absurd (grind arith)
  listed_has (x ∷ xs) e =
      ⊎_elim
      (λ (b : same x.0 h.0 ≡ true). subst (λ (y : ColliderHandle). Has (x ∷ xs) y) (same_collider_lem x h b) (has_first x xs))
      (λ (b : same x.0 h.0 ≡ false). has_rest x h xs (listed_has xs (grind arith)))
      (cases_Bool (same x.0 h.0))

  has_listed : (xs : List ColliderHandle) → Has xs h → listed_in h xs ≡ true
  has_listed [] m = absurd (has_none h m)
  has_listed (x ∷ xs) m =
      has_cases (listed_in h (x ∷ xs) ≡ true) x h xs
      (λ e. let s : same x.0 h.0 ≡ true = rw e (same_self h.0) in grind arith)
      (λ r. let s = has_listed xs r in grind arith)
      m

  pub listed_decides : (xs : List ColliderHandle) → Decides (listed_in h xs) (Has xs h)
  listed_decides xs = (listed_has xs, has_listed xs)

  -- what is listed has a place
  pub placed_lem : (xs : List ColliderHandle) (i : ℕ) → is_some (place h i xs) ≡ listed_in h xs
  placed_lem [] i = refl
  placed_lem (x ∷ xs) i = let r = placed_lem xs (i + 1) in
      ⊎_elim
      (λ (b : same x.0 h.0 ≡ true). rw b refl)
      (λ (b : same x.0 h.0 ≡ false). rw b r)
      (cases_Bool (same x.0 h.0))

-- ---- a list without the first place where a handle stands

abbrev pub without : ColliderHandle → List ColliderHandle → List ColliderHandle
without h [] = []
without h (x ∷ xs) = cond (same x.0 h.0) xs (x ∷ without h xs)

module _ (h : ColliderHandle) where
  pub without_none : (xs : List ColliderHandle) (j : ℕ) → place h j xs ≡ None → xs ≡ without h xs
  without_none [] j e = refl
  without_none (x ∷ xs) j e =
      ⊎_elim
      (λ (b : same x.0 h.0 ≡ true). absurd (grind arith))
      (λ (b : same x.0 h.0 ≡ false). let r = without_none xs (j + 1) (grind arith) in grind arith)
      (cases_Bool (same x.0 h.0))

  pub without_some : (xs : List ColliderHandle) (j k : ℕ) → place h j xs ≡ Some k → (j ≤ k) × (k - j < length xs) × (remove xs (k - j) ≡ without h xs)
  without_some [] j k e = absurd (grind arith)
  without_some (x ∷ xs) j k e =
      ⊎_elim
      (λ (b : same x.0 h.0 ≡ true).
      let q : j ≡ k = grind arith in
      let z : k - j ≡ 0 = omega arith in
      (omega arith, omega arith, rw (z, b) refl))
      (λ (b : same x.0 h.0 ≡ false).
      let (le, lt, r) = without_some xs (j + 1) k (grind arith) in
      let z : k - j ≡ suc (k - (j + 1)) = omega arith in
      (omega arith, omega arith, rw (z, b) (ap (λ l. x ∷ l) r)))
      (cases_Bool (same x.0 h.0))

  -- the parts before and after it
  pub parted : (xs : List ColliderHandle) → Has xs h → Without h xs (without h xs)
  parted [] m = absurd (has_none h m)
  parted (x ∷ xs) m =
      ⊎_elim
      (λ (b : same x.0 h.0 ≡ true). record {
        before = [];
        after = xs;
        whole = ap (λ (y : ColliderHandle). y ∷ xs) (same_collider_lem x h b);
        left = rw b refl;
        first = has_none h;
      })
      (λ (b : same x.0 h.0 ≡ false).
      let apart : x ≡ h → ⊥ = λ e. let s : same x.0 h.0 ≡ true = rw e (same_self h.0) in grind arith in
      let r = parted xs (has_cases (Has xs h) x h xs (λ e. absurd (apart e)) (λ n. n) m) in
      record {
        before = x ∷ r.before;
        after = r.after;
        whole = ap (λ (l : List ColliderHandle). x ∷ l) r.whole;
        left = rw b (ap (λ (l : List ColliderHandle). x ∷ l) r.left);
        first = has_cases ⊥ x h r.before apart r.first;
      })
      (cases_Bool (same x.0 h.0))

  -- put last and taken out again
  pub without_last : (xs : List ColliderHandle) → (Has xs h → ⊥) → without h (xs ++ h ∷ []) ≡ xs
  without_last [] n = let s = same_self h.0 in grind arith
  without_last (x ∷ xs) n =
      let r = without_last xs (λ m. n (has_rest x h xs m)) in
      ⊎_elim
      (λ (b : same x.0 h.0 ≡ true). absurd (n (subst (λ (y : ColliderHandle). Has (x ∷ xs) y) (same_collider_lem x h b) (has_first x xs))))
      (λ (b : same x.0 h.0 ≡ false). rw b (ap (λ (l : List ColliderHandle). x ∷ l) r))
      (cases_Bool (same x.0 h.0))

  -- where it stands then
  pub place_last : (xs : List ColliderHandle) (i : ℕ) → (Has xs h → ⊥) → place h i (xs ++ h ∷ []) ≡ Some (i + length xs)
  place_last [] i n = let s = same_self h.0 in let z : i + 0 ≡ i = omega arith in rw (s, z) refl
  place_last (x ∷ xs) i n =
      let r = place_last xs (i + 1) (λ m. n (has_rest x h xs m)) in
      let z : i + 1 + length xs ≡ i + suc (length xs) = omega arith in
      ⊎_elim
      (λ (b : same x.0 h.0 ≡ true). absurd (n (subst (λ (y : ColliderHandle). Has (x ∷ xs) y) (same_collider_lem x h b) (has_first x xs))))
      (λ (b : same x.0 h.0 ≡ false). rw b (r ∙ ap Some z))
      (cases_Bool (same x.0 h.0))
