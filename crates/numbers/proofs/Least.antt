-- The least of a list of floats is in the list and below all of it, and it turns on the list's elements alone. Assumes nothing.
use Rattle.std.proofs.Common.{◌≡◌, ℕ, zero, suc, Bool, true, false, cond, not, T, ◌⊎◌, List, [], ◌∷◌, Option, Some, MatchOption, sym, refl, ap, ◌∙◌, subst, inl, inr, zero-lt-suc, arith, ltb→lt}
use lib.Ieee.{Float, nan, inf, fin, Format, lt, le}
use Rattle.std.specs.Float as Floats
use Rattle.std.specs.Float.{is_sign_negative}
use Rattle.std.specs.List.Sorted.{IsPermutation}
use Rattle.std.specs.List.{best_of, ContainsAt as Has, AllByRecursion}
use Rattle.std.proofs.ByRecursion.{all-has, All-weaker, all_has_itself, has_get_or, has_append_left, has_append_right, has_shuffled}
use Rattle.std.proofs.lemmas.List.Sorted.{IsPermutation-sym}
use Rattle.std.specs.Float.Order.{le_trans, le_refl, le_of_lt, le_left}
use Rattle.std.specs.Bool.{passes}
use Rattle.numbers.specs.Reals.{Number, is_zero}
use Rattle.numbers.specs.Least.{least, Least, Plain, Proper}
use Rattle.numbers.proofs.Order.{not_lt}
use Rattle.numbers.proofs.Units.{sign, antisym_sign}

-- ---- the smaller of two
smaller : (b x : Float) → Number b → Number x → Number (cond (lt x b) x b) × T (le (cond (lt x b) x b) b) × T (le (cond (lt x b) x b) x)
smaller b x p q = go (lt x b) (λ e. le_of_lt x b (passes (lt x b) e)) (not_lt x b q p) refl
  where
    go : (t : Bool) → (lt x b ≡ true → T (le x b)) → (lt x b ≡ false → T (le b x)) → lt x b ≡ t → Number (cond t x b) × T (le (cond t x b) b) × T (le (cond t x b) x)
    go true h k e = (q, h e, le_refl x q)
    go false h k e = (p, le_refl b p, k e)

from_below : (b : Float) (xs : List Float) → Number b → AllByRecursion Number xs → T (le (best_of lt b xs) b) × AllByRecursion (λ x. T (le (best_of lt b xs) x)) xs
from_below b [] p q = (le_refl b p, tt)
from_below b (x ∷ xs) p q =
    let s = smaller b x p q.0 in
    let n = cond (lt x b) x b in
    let r = from_below n xs s.0 q.1 in
    let m = best_of lt n xs in
    (le_trans m n b r.0 s.1, (le_trans m n x r.0 s.2, r.1))

one_of : (b x : Float) → (cond (lt x b) x b ≡ b) ⊎ (cond (lt x b) x b ≡ x)
one_of b x = go (lt x b)
  where
    go : (t : Bool) → (cond t x b ≡ b) ⊎ (cond t x b ≡ x)
    go true = inr refl
    go false = inl refl

has_head : (x : Float) (xs : List Float) → Has (x ∷ xs) x
has_head x xs = has_append_left (x ∷ []) xs x (has_get_or (x ∷ []) 0 x (zero-lt-suc 0))

has_tail : (y x : Float) (xs : List Float) → Has xs x → Has (y ∷ xs) x
has_tail y x xs h = has_append_right (y ∷ []) xs x h

from_has : (b : Float) (xs : List Float) → Has (b ∷ xs) (best_of lt b xs)
from_has b [] = has_head b []
from_has b (x ∷ xs) =
    let n = cond (lt x b) x b in
    let m = best_of lt n xs in
    elim (head_or_tail n m xs (from_has n xs)) [
      | inl e ↦ elim (one_of b x) [
        | inl w ↦ subst (Has (b ∷ x ∷ xs)) (sym w ∙ sym e) (has_head b (x ∷ xs))
        | inr w ↦ subst (Has (b ∷ x ∷ xs)) (sym w ∙ sym e) (has_tail b x (x ∷ xs) (has_head x xs))
      ]
      | inr h ↦ has_tail b m (x ∷ xs) (has_tail x m xs h)
    ]
  where
    head_or_tail : (n m : Float) (xs : List Float) → Has (n ∷ xs) m → (m ≡ n) ⊎ Has xs m
    head_or_tail n m xs (zero, l, h) = inl (sym (h n))
    head_or_tail n m xs (suc k, l, h) = inr (k, omega arith, h)

-- ---- the laws
pub least_is : (xs : List Float) (m : Float) → AllByRecursion Number xs → least xs ≡ Some m → Least xs m
least_is [] m p e = let z : ◌≡◌ {A = ℕ} 0 1 = cc in absurd (omega arith)
least_is (x ∷ xs) m p e =
    let w : best_of lt x xs ≡ m = cc in
    let r = from_below x xs p.0 p.1 in
    subst (Least (x ∷ xs)) w (from_has x xs, (r.0, r.1))

-- what `least` answers of a list of numbers
answer_of : (xs : List Float) → AllByRecursion Number xs → MatchOption (least xs) (xs ≡ []) (Least xs)
answer_of [] p = refl
answer_of (x ∷ xs) p = least_is (x ∷ xs) (best_of lt x xs) p refl

pub least_answers : (xs : List Float) (r : Option Float) → r ≡ least xs → AllByRecursion Number xs → MatchOption r (xs ≡ []) (Least xs)
least_answers xs r e p = subst (λ (o : Option Float). MatchOption o (xs ≡ []) (Least xs)) (sym e) (answer_of xs p)

-- a list of which each element stands in the other has a least value that is no smaller
pub least_falls : (xs ys : List Float) (m n : Float) → AllByRecursion Number xs → AllByRecursion Number ys → least xs ≡ Some m → least ys ≡ Some n → AllByRecursion (Has ys) xs → T (le n m)
least_falls xs ys m n p q d e h =
    let a = least_is xs m p d in
    let b = least_is ys n q e in
    all-has (λ y. T (le n y)) ys m b.1 (all-has (Has ys) xs m h a.0)

pub proper_number : (f : Format) (x : Float) → Proper f x → Number x
proper_number f x p = le_left x Floats.float_one (le_of_lt x Floats.float_one p.2)

pub above_not_zero : (x : Float) → T (lt Floats.float_zero x) → T (not (is_zero x))
unfolding lt
above_not_zero nan h = tt
above_not_zero (inf s) h = tt
above_not_zero (fin true zero e) h = absurd h
above_not_zero (fin false zero e) h = absurd (omega (arith, ltb→lt _ _ h))
above_not_zero (fin s (suc m) e) h = tt

no_member : (x : Float) → Has [] x → ⊥
no_member x h = omega (arith, h.1)

sign_is : (x : Float) → is_sign_negative x ≡ sign x
unfolding is_sign_negative
sign_is nan = refl
sign_is (inf s) = refl
sign_is (fin s m e) = refl

pub above_plain : (x : Float) → T (lt Floats.float_zero x) → is_sign_negative x ≡ false
unfolding lt is_sign_negative
above_plain nan h = refl
above_plain (inf true) h = absurd h
above_plain (inf false) h = refl
above_plain (fin true m e) h = absurd h
above_plain (fin false m e) h = refl

pub proper_plain : (f : Format) (x : Float) → Proper f x → Plain f x
proper_plain f x p = (p.0, proper_number f x p, above_plain x p.1)

-- two lists with the same elements have one least value
pub least_same : (f : Format) (xs ys : List Float) → AllByRecursion (Plain f) xs → AllByRecursion (Plain f) ys → AllByRecursion (Has ys) xs → AllByRecursion (Has xs) ys → least xs ≡ least ys
least_same f [] [] p q h k = refl
least_same f [] (y ∷ ys) p q h k = absurd (no_member y k.0)
least_same f (x ∷ xs) [] p q h k = absurd (no_member x h.0)
least_same f (x ∷ xs) (y ∷ ys) p q h k =
    let m = best_of lt x xs in
    let n = best_of lt y ys in
    let P = All-weaker (Plain f) Number (λ z w. w.1) (x ∷ xs) p in
    let Q = All-weaker (Plain f) Number (λ z w. w.1) (y ∷ ys) q in
    let a = all-has (Plain f) (x ∷ xs) m p (from_has x xs) in
    let b = all-has (Plain f) (y ∷ ys) n q (from_has y ys) in
    ap Some (antisym_sign f m n a.0 b.0 (sym (sign_is m) ∙ a.2 ∙ sym b.2 ∙ sign_is n)
    (least_falls (y ∷ ys) (x ∷ xs) n m Q P refl refl k, least_falls (x ∷ xs) (y ∷ ys) m n P Q refl refl h))

-- the order of the list does not count
pub least_shuffled : (f : Format) (xs ys : List Float) → AllByRecursion (Plain f) xs → AllByRecursion (Plain f) ys → IsPermutation xs ys → least xs ≡ least ys
least_shuffled f xs ys p q s =
    least_same f xs ys p q
    (All-weaker (Has xs) (Has ys) (λ x h. has_shuffled xs ys x s h) xs (all_has_itself xs))
    (All-weaker (Has ys) (Has xs) (λ x h. has_shuffled ys xs x (IsPermutation-sym xs ys s) h) ys (all_has_itself ys))
