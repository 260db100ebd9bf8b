-- The walk along the links finds each free slot once exactly if it ends after as many steps as there are free slots.
use Rattle.std.proofs.Common.{◌≡◌, ℕ, zero, suc, ◌+◌, ◌<◌, ◌≤◌, true, false, cond, eqb, List, [], ◌∷◌, length, set, Some, None, Option, sym, refl, ap, ⊎_elim, arith}
use Rattle.std.proofs.lemmas.Bool.Decides.{nat_tests}
use Rattle.std.proofs.lemmas.Bool.{cases_eq, cases_lt}
use Rattle.std.proofs.lemmas.List.Sums.{sum_by-cons}
use Rattle.slots.specs.declared.Slot.{Slot}
use Rattle.slots.specs.declared.Slot.TheVariants.{Retired}
use Rattle.slots.specs.Store.{slot_at}
use Rattle.slots.specs.Rules.{is_free, link, free_count, walks, Chain, times}

module _ {T : Type 0} where
  -- a walk that ends is a chain, and a chain is a walk that ends
  pub chain_walked : (s : List (Slot T)) (o : Option ℕ) (n : ℕ) → walks s o n ≡ true
      → (is : List ℕ) × Chain s o is × (length is ≡ n)
  chain_walked s None zero w = ([], refl, refl)
  chain_walked s None (suc n) w = absurd (grind arith)
  chain_walked s (Some i) zero w = absurd (grind arith)
  chain_walked s (Some i) (suc n) w =
      let f : is_free (slot_at s i) ≡ true = grind arith in
      let w' : walks s (link (slot_at s i)) n ≡ true = grind arith in
      let (is, c, l) = chain_walked s (link (slot_at s i)) n w' in
      (i ∷ is, (refl, f, c), omega arith)

  pub walks_chain : (s : List (Slot T)) (o : Option ℕ) (is : List ℕ) → Chain s o is → walks s o (length is) ≡ true
  walks_chain s o [] c = rw c refl
  walks_chain s o (i ∷ is) c = rw (c.0, c.1) (walks_chain s (link (slot_at s i)) is c.2)

  -- the links lead one way
  chain_same : (s : List (Slot T)) (o : Option ℕ) (is js : List ℕ) → Chain s o is → Chain s o js → is ≡ js
  chain_same s o [] [] c d = refl
  chain_same s o [] (j ∷ js) c d = absurd (grind (arith, c, d.0))
  chain_same s o (i ∷ is) [] c d = absurd (grind (arith, c.0, d))
  chain_same s o (i ∷ is) (j ∷ js) c d =
      let e : j ≡ i = grind (arith, c.0, d.0) in
      let r = chain_same s (link (slot_at s i)) is js c.2 (rw e at d.2) in cc

  chain_part : (s : List (Slot T)) (o : Option ℕ) (is : List ℕ) (i : ℕ) → Chain s o is → 0 < times i is
      → (js : List ℕ) × Chain s (Some i) js × (length js ≤ length is)
  chain_part s o [] i c h = absurd (omega arith)
  chain_part s o (j ∷ is) i c h =
      ⊎_elim
      (λ e. (j ∷ is, rw e (refl, c.1, c.2), omega arith))
      (λ ne. let h' : 0 < times i is = grind (arith, nat_tests) in
      let (js, d, l) = chain_part s (link (slot_at s j)) is i c.2 h' in (js, d, omega arith))
      (cases_eq i j)

  pub chain_once : (s : List (Slot T)) (o : Option ℕ) (is : List ℕ) (i : ℕ) → Chain s o is → times i is ≤ 1
  chain_once s o [] i c = omega arith
  chain_once s o (j ∷ is) i c =
      let h = chain_once s (link (slot_at s j)) is i c.2 in
      ⊎_elim
      (λ p. let (js, d, l) = chain_part s (link (slot_at s j)) is j c.2 p in
      let e = ap length (chain_same s (Some j) js (j ∷ is) d (refl, c.1, c.2)) in absurd (omega arith))
      (λ p. grind (arith, nat_tests))
      (cases_lt 0 (times j is))

  chain_free : (s : List (Slot T)) (o : Option ℕ) (is : List ℕ) (i : ℕ) → Chain s o is → 0 < times i is
      → is_free (slot_at s i) ≡ true
  chain_free s o [] i c h = absurd (omega arith)
  chain_free s o (j ∷ is) i c h =
      ⊎_elim
      (λ e. rw e c.1)
      (λ ne. let h' : 0 < times i is = grind (arith, nat_tests) in chain_free s (link (slot_at s j)) is i c.2 h')
      (cases_eq i j)

  pub chain_most : (s : List (Slot T)) (o : Option ℕ) (is : List ℕ) (i : ℕ) → Chain s o is
      → times i is ≤ cond (is_free (slot_at s i)) 1 0
  chain_most s o is i c =
      let m = chain_once s o is i c in
      ⊎_elim
      (λ p. let f = chain_free s o is i c p in grind arith)
      (λ p. grind arith)
      (cases_lt 0 (times i is))

  -- one free slot fewer
  is_free_retire : (s : List (Slot T)) (i j : ℕ) → is_free (slot_at (set s i Retired) j) ≡ cond (eqb j i) false (is_free (slot_at s j))
  is_free_retire [] i j = grind (arith, nat_tests)
  is_free_retire (x ∷ s) zero zero = refl
  is_free_retire (x ∷ s) zero (suc j) = grind (arith, nat_tests)
  is_free_retire (x ∷ s) (suc i) zero = grind (arith, nat_tests)
  is_free_retire (x ∷ s) (suc i) (suc j) = let h = is_free_retire s i j in grind (arith, nat_tests)

  free_count_first : (x : Slot T) (s : List (Slot T)) → free_count (x ∷ s) ≡ cond (is_free x) 1 0 + free_count s
  free_count_first x s = sum_by-cons (λ y. cond (is_free y) 1 0) x s

  free_count_retire : (s : List (Slot T)) (i : ℕ) → is_free (slot_at s i) ≡ true → free_count (set s i Retired) + 1 ≡ free_count s
  free_count_retire [] i f = absurd (grind arith)
  free_count_retire (x ∷ s) zero f = let e = free_count_first x s in let r = free_count_first Retired s in grind arith
  free_count_retire (x ∷ s) (suc i) f =
      let h = free_count_retire s i f in
      let e = free_count_first x s in
      let r = free_count_first x (set s i Retired) in omega arith

  none_free : (s : List (Slot T)) (i : ℕ) → free_count s ≡ 0 → is_free (slot_at s i) ≡ false
  none_free [] i h = refl
  none_free (x ∷ s) zero h = let e = free_count_first x s in grind arith
  none_free (x ∷ s) (suc i) h = let e = free_count_first x s in none_free s i (grind arith)

  free_count_none : (s : List (Slot T)) → ((i : ℕ) → is_free (slot_at s i) ≡ false) → free_count s ≡ 0
  free_count_none [] h = refl
  free_count_none (x ∷ s) h = let e = h 0 in let c = free_count_first x s in let r = free_count_none s (λ i. h (suc i)) in grind arith

  -- a list with each free slot once is as long as there are free slots
  pub count_length : (s : List (Slot T)) (is : List ℕ) → ((i : ℕ) → times i is ≡ cond (is_free (slot_at s i)) 1 0)
      → length is ≡ free_count s
  count_length s [] h = sym (free_count_none s (λ i. let e = h i in grind arith))
  count_length s (j ∷ is) h =
      let e = h j in
      let f : is_free (slot_at s j) ≡ true = grind (arith, nat_tests) in
      let r = count_length (set s j Retired) is (λ i. let d = h i in let q = is_free_retire s j i in grind (arith, nat_tests)) in
      let q = free_count_retire s j f in omega arith

  -- as many places as there are free slots, none twice: each free slot is there
  all_there : (s : List (Slot T)) (is : List ℕ) → ((i : ℕ) → times i is ≤ cond (is_free (slot_at s i)) 1 0)
      → length is ≡ free_count s → (i : ℕ) → times i is ≡ cond (is_free (slot_at s i)) 1 0
  all_there s [] h l i = let e = none_free s i (sym l) in grind arith
  all_there s (j ∷ is) h l i =
      let e = h j in
      let f : is_free (slot_at s j) ≡ true = grind (arith, nat_tests) in
      let q = free_count_retire s j f in
      let r = all_there (set s j Retired) is (λ k. let d = h k in let p = is_free_retire s j k in grind (arith, nat_tests)) (omega arith) i in
      let p = is_free_retire s j i in grind (arith, nat_tests)

  pub once_each : (s : List (Slot T)) (o : Option ℕ) (is : List ℕ) → Chain s o is → length is ≡ free_count s
      → (i : ℕ) → times i is ≡ cond (is_free (slot_at s i)) 1 0
  once_each s o is c l = all_there s is (λ i. chain_most s o is i c) l
