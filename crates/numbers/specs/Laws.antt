-- The laws of single-precision numbers that the crate proves, each stated once. A function of `src/laws.rt` ensures each. Assumes nothing.
use Rattle.std.specs.Prelude.{◌≡◌, true, false, not, T, ◌⊎◌, List, Some, Float}
use Rattle.std.specs.Float.Ieee.{unlike, add, sub, mul, div, neg, fits, lt, le, eq}
use Rattle.std.specs.Float.Ieee.Scale.{finite}
use Rattle.std.specs.Float.{float_zero, float_one, is_sign_negative, binary32}
use Rattle.std.specs.List.Sorted.{IsPermutation}
use Rattle.std.specs.List.{ContainsAt as Has, AllByRecursion}
use Rattle.numbers.specs.Reals.{Number, Real, Same, Within, ranged, is_zero}
use Rattle.numbers.specs.Least.{least, Least, Plain, Proper}
use Rattle.numbers.specs.Along.{From}

-- The numbers, infinities included, are in a total order. `==` is `Same`, and two values of the format that are the same are one, but for the zeros.
pub record Ordered : Type 0 where
  pub refl : (x : Float) → Number x → T (le x x)
  pub chain : (x y z : Float) → T (le x y) → T (le y z) → T (le x z)
  pub chain_left : (x y z : Float) → T (lt x y) → T (le y z) → T (lt x z)
  pub chain_right : (x y z : Float) → T (le x y) → T (lt y z) → T (lt x z)
  pub total : (x y : Float) → Number x → Number y → T (le x y) ⊎ T (lt y x)
  pub apart : (x y : Float) → T (le x y) → T (lt y x) → ⊥
  pub test : (x y : Float) → eq x y ≡ true → Same x y
  pub tested : (x y : Float) → Same x y → eq x y ≡ true
  pub one_value : (x y : Float) → T (fits binary32 x) → T (fits binary32 y) → T (not (is_zero x)) → Same x y → x ≡ y

-- The least of a list stands in it, is below all of it, falls as the list grows, and does not turn on the list's order.
pub record LeastOf : Type 0 where
  pub is : (xs : List Float) (m : Float) → AllByRecursion Number xs → least xs ≡ Some m → Least xs m
  pub falls : (xs ys : List Float) (m n : Float) → AllByRecursion Number xs → AllByRecursion Number ys → least xs ≡ Some m → least ys ≡ Some n → AllByRecursion (Has ys) xs → T (le n m)
  pub any_order : (xs ys : List Float) → AllByRecursion (Plain binary32) xs → AllByRecursion (Plain binary32) ys → IsPermutation xs ys → least xs ≡ least ys
  pub proper : (x : Float) → Proper binary32 x → Plain binary32 x

-- At a finite limit the test of a range holds exactly of the finite values of the format within the limit.
pub record Ranged : Type 0 where
  pub passed : (limit x : Float) → Real binary32 limit → T (ranged limit x) → Real binary32 x × Within limit x
  pub passes : (limit x : Float) → Real binary32 x → Within limit x → T (ranged limit x)

-- Rounded sums, differences and products keep the order, are never a NaN, and change nothing at 0 and 1. No result has to be finite.
pub record Rounds : Type 0 where
  pub add_number : (x y : Float) → Real binary32 x → Real binary32 y → Number (add binary32 x y)
  pub sub_number : (x y : Float) → Real binary32 x → Real binary32 y → Number (sub binary32 x y)
  pub mul_number : (x y : Float) → Real binary32 x → Real binary32 y → Number (mul binary32 x y)
  pub add_mono : (z x y : Float) → Real binary32 z → Real binary32 x → Real binary32 y → T (le x y) → T (le (add binary32 z x) (add binary32 z y))
  pub sub_mono : (z x y : Float) → Real binary32 z → Real binary32 x → Real binary32 y → T (le x y) → T (le (sub binary32 x z) (sub binary32 y z))
  pub sub_anti : (z x y : Float) → Real binary32 z → Real binary32 x → Real binary32 y → T (le x y) → T (le (sub binary32 z y) (sub binary32 z x))
  pub mul_mono : (z x y : Float) → Real binary32 z → Real binary32 x → Real binary32 y → T (le float_zero z) → T (le x y) → T (le (mul binary32 z x) (mul binary32 z y))
  pub mul_anti : (z x y : Float) → Real binary32 z → Real binary32 x → Real binary32 y → T (le z float_zero) → T (le x y) → T (le (mul binary32 z y) (mul binary32 z x))
  pub add_zero : (x z : Float) → Real binary32 x → Real binary32 z → Same z float_zero → Same (add binary32 x z) x
  pub mul_one : (x : Float) → Real binary32 x → Same (mul binary32 x float_one) x
  pub neg_anti : (x y : Float) → T (le x y) → T (le (neg y) (neg x))
  pub neg_neg : (x : Float) → neg (neg x) ≡ x
  pub sub_positive : (x y : Float) → Real binary32 x → Real binary32 y → T (lt y x) → T (lt float_zero (sub binary32 x y))
  pub sub_negative : (x y : Float) → Real binary32 x → Real binary32 y → T (lt x y) → T (lt (sub binary32 x y) float_zero)

-- A quotient of finite values by one that is not zero is a number with the sign of the two signs.
-- It keeps the order of its numerators where the divisor is above 0. A smaller value over a larger one is from 0 to 1, and is not rounded up to 1.
pub record Divides : Type 0 where
  pub number : (a d : Float) → T (finite a) → T (finite d) → T (not (is_zero d)) → Number (div binary32 a d)
  pub sign : (a d : Float) → T (finite a) → T (finite d) → T (not (is_zero d)) → is_sign_negative (div binary32 a d) ≡ unlike (is_sign_negative a) (is_sign_negative d)
  pub above : (a d : Float) → T (finite a) → T (finite d) → T (not (is_zero d)) → unlike (is_sign_negative a) (is_sign_negative d) ≡ false → T (le float_zero (div binary32 a d))
  pub below : (a d : Float) → T (finite a) → T (finite d) → T (not (is_zero d)) → unlike (is_sign_negative a) (is_sign_negative d) ≡ true → T (le (div binary32 a d) float_zero)
  pub mono : (x y d : Float) → Real binary32 x → Real binary32 y → Real binary32 d → T (lt float_zero d) → T (le x y) → T (le (div binary32 x d) (div binary32 y d))
  pub to_one : (x d : Float) → Real binary32 x → Real binary32 d → T (lt float_zero d) → T (le float_zero x) → T (le x d) → From float_zero float_one (div binary32 x d)
  pub below_one : (x d : Float) → Real binary32 x → Real binary32 d → T (lt float_zero d) → T (le float_zero x) → T (lt x d) → T (lt (div binary32 x d) float_one)
