-- What is taken under a cap, from what is taken under the cap 1. Assumes nothing.
use Rattle.std.proofs.Common.{◌≡◌, ℕ, Bool, true, false, cond, not, ◌&&◌, T, Some, None, Option, sym, refl, ap, ◌∙◌, subst, arith}
use lib.Ieee.{Float, binary32, of_bits, is_nan, lt, le, fits}
use Rattle.std.specs.Float.{is_sign_negative}
use Rattle.std.specs.Bool.{passes, fails}
use Rattle.std.specs.Float.Order.{le_of_lt, le_trans, le_right, lt_of_lt_of_le}
use Rattle.numbers.specs.Constants.{zero_f, one_f}
use Rattle.numbers.specs.Reals.{Number, is_zero, Same}
use Rattle.numbers.proofs.Least.{above_not_zero, above_plain}
use Rattle.numbers.proofs.Literals.{zero_is}
use Rattle.numbers.proofs.Order.{not_lt}
use Rattle.numbers.proofs.Ranges.{both, first_of, second_of}
use Rattle.numbers.proofs.Units.{antisym}
use Rattle.outcomes.specs.Impacts.{Cap, clean, strictly, upto, below, at_most}

-- ---- tests

pub off : (b : Bool) → (T b → ⊥) → b ≡ false
off true h = absurd (h tt)
off false h = refl

pub on : (b : Bool) → T b → b ≡ true
on true h = refl
on false h = absurd h

-- ---- strictly below the cap

and_off : (t : Float) (p : Bool) → ◌≡◌ {A = Option Float} (cond (p && false) (Some t) None) None
and_off t true = refl
and_off t false = refl

pub strictly_none : (t c : Float) → (T (lt t c) → ⊥) → strictly t c ≡ None
strictly_none t c h = ap (λ (b : Bool). cond (lt zero_f t && b) (Some t) None) (off (lt t c) h) ∙ and_off t (lt zero_f t)

under_one : (t c : Float) (p q o : Bool) → lt t c ≡ q → (T q → T o) → cond (p && q) (Some t) None ≡ below (cond (p && o) (Some t) None) c
under_one t c false q o e m = refl
under_one t c true true true e m = sym (ap (λ (b : Bool). cond b (Some t) None) e)
under_one t c true false true e m = sym (ap (λ (b : Bool). cond b (Some t) None) e)
under_one t c true true false e m = absurd (m tt)
under_one t c true false false e m = refl

pub strictly_under : (t c : Float) → T (le c one_f) → strictly t c ≡ below (strictly t one_f) c
strictly_under t c h = under_one t c (lt zero_f t) (lt t c) (lt t one_f) refl (λ k. lt_of_lt_of_le t c one_f k h)

-- what is taken strictly lies there
strictly_by : (f c s : Float) (b : Bool) → (lt zero_f f && lt f c) ≡ b → ◌≡◌ {A = Option Float} (cond b (Some f) None) (Some s) → T (lt zero_f s) × T (lt s c) × (f ≡ s)
strictly_by f c s true t e =
    let same : f ≡ s = cc in
    let h = passes (lt zero_f f && lt f c) t in
    (subst (λ (x : Float). T (lt zero_f x)) same (first_of (lt zero_f f) (lt f c) h), subst (λ (x : Float). T (lt x c)) same (second_of (lt zero_f f) (lt f c) h), same)
strictly_by f c s false t e = let z : ◌≡◌ {A = ℕ} 0 1 = cc in absurd (omega arith)

pub strictly_is : (f c s : Float) → strictly f c ≡ Some s → T (lt zero_f s) × T (lt s c) × (f ≡ s)
strictly_is f c s e = strictly_by f c s (lt zero_f f && lt f c) refl e

-- ---- at most the cap

upto_by : (t c : Float) (q o : Bool) → le t c ≡ q → (T q → T o) → ◌≡◌ {A = Option Float} (cond q (Some t) None) (at_most (cond o (Some t) None) c)
upto_by t c q true e m = sym (ap (λ (b : Bool). cond b (Some t) None) e)
upto_by t c true false e m = absurd (m tt)
upto_by t c false false e m = refl

pub upto_under : (t c : Float) → T (le c one_f) → upto t c ≡ at_most (upto t one_f) c
upto_under t c h = upto_by t c (le t c) (le t one_f) refl (λ k. le_trans t c one_f k h)

upto_is_by : (f c s : Float) (b : Bool) → le f c ≡ b → ◌≡◌ {A = Option Float} (cond b (Some f) None) (Some s) → f ≡ s
upto_is_by f c s true t e = cc
upto_is_by f c s false t e = let z : ◌≡◌ {A = ℕ} 0 1 = cc in absurd (omega arith)

pub upto_is : (f c s : Float) → upto f c ≡ Some s → f ≡ s
upto_is f c s e = upto_is_by f c s (le f c) refl e

-- ---- neither NaN nor minus zero

not_minus : (n z : Bool) → T (not z) → T (not (n && z))
not_minus false z h = tt
not_minus true false h = tt
not_minus true true h = absurd h

pub not_left : (n z : Bool) → T (not n) → T (not (n && z))
not_left true z h = absurd h
not_left false z h = tt

pub clean_above : (i : Float) → T (fits binary32 i) → T (lt zero_f i) → T (clean i)
clean_above i f h =
    both (fits binary32 i) (not (is_nan i) && not (is_sign_negative i && is_zero i)) f
    (both (not (is_nan i)) (not (is_sign_negative i && is_zero i)) (le_right zero_f i (le_of_lt zero_f i h))
    (not_minus (is_sign_negative i) (is_zero i) (above_not_zero i (subst (λ (z : Float). T (lt z i)) zero_is h))))

pub clean_fits : (i : Float) → T (clean i) → T (fits binary32 i)
clean_fits i h = first_of (fits binary32 i) (not (is_nan i) && not (is_sign_negative i && is_zero i)) h

not_both_signs : (n z : Bool) → T (not (n && z)) → z ≡ true → n ≡ false
not_both_signs false z h e = refl
not_both_signs true true h e = absurd h
not_both_signs true false h e = sym e

zero_fits : T (fits binary32 zero_f)
unfolding fits of_bits
zero_fits = tt

zero_number : Number zero_f
unfolding is_nan of_bits
zero_number = tt

zero_is_zero : is_zero zero_f ≡ true
unfolding of_bits
zero_is_zero = refl

-- what is the same number as 0 is one of the zeros
same_zero : (t : Float) → T (fits binary32 t) → Same t zero_f → (b : Bool) → is_zero t ≡ b → is_zero t ≡ true
same_zero t f s true e = e
same_zero t f s false e = ap is_zero (antisym binary32 t zero_f f zero_fits (fails (is_zero t) e) s) ∙ zero_is_zero

plain_by : (t : Float) → T (clean t) → T (le zero_f t) → (b : Bool) → lt zero_f t ≡ b → is_sign_negative t ≡ false
plain_by t k l true e = above_plain t (subst (λ (z : Float). T (lt z t)) zero_is (passes (lt zero_f t) e))
plain_by t k l false e =
    let rest = second_of (fits binary32 t) (not (is_nan t) && not (is_sign_negative t && is_zero t)) k in
    let s : Same t zero_f = (not_lt zero_f t zero_number (le_right zero_f t l) e, l) in
    not_both_signs (is_sign_negative t) (is_zero t) (second_of (not (is_nan t)) (not (is_sign_negative t && is_zero t)) rest) (same_zero t (clean_fits t k) s (is_zero t) refl)

-- a clean value from 0 up has no minus sign
pub clean_plain : (t : Float) → T (clean t) → T (le zero_f t) → is_sign_negative t ≡ false
clean_plain t k l = plain_by t k l (lt zero_f t) refl

-- 1 is a cap
pub cap_one : Cap one_f
unfolding of_bits le fits is_nan is_sign_negative
cap_one = (tt, tt, tt)
