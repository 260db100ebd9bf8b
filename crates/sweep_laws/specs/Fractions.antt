-- Fractions are marks: the values of single precision from 0 to 1 that are neither NaN nor minus zero, in their order. Assumes nothing.
use Rattle.std.specs.Prelude.{◌≡◌, Bool, true, false, not, ◌&&◌, T, refl, Float}
use Rattle.std.proofs.Common.{sym, ◌∙◌}
use Rattle.std.specs.Float.Ieee.{of_bits, is_nan, lt, le, fits}
use Rattle.std.specs.Float.{is_sign_negative, binary32}
use Rattle.std.specs.Bool.{passes, fails}
use Rattle.std.specs.Float.Order.{le_refl, le_trans, le_of_lt, lt_of_not-le, lt_irrefl, lt_of_lt_of_le}
use Rattle.numbers.specs.Constants.{zero_f, one_f}
use Rattle.numbers.specs.Reals.{Number, is_zero}
use Rattle.numbers.proofs.Ranges.{first_of, second_of}
use Rattle.numbers.proofs.Units.{antisym_sign}
use Rattle.outcomes.specs.Impacts.{clean}
use Rattle.outcomes.proofs.Caps.{on, off, clean_fits, clean_plain}
use Rattle.search.specs.Marks.{Marks}

abbrev pub is_fraction : Float → Bool
is_fraction f = le zero_f f && (le f one_f && clean f)

pub from_zero : (f : Float) → T (is_fraction f) → T (le zero_f f)
from_zero f h = first_of (le zero_f f) (le f one_f && clean f) h

pub to_one : (f : Float) → T (is_fraction f) → T (le f one_f)
to_one f h = first_of (le f one_f) (clean f) (second_of (le zero_f f) (le f one_f && clean f) h)

pub is_clean : (f : Float) → T (is_fraction f) → T (clean f)
is_clean f h = second_of (le f one_f) (clean f) (second_of (le zero_f f) (le f one_f && clean f) h)

pub is_number : (f : Float) → T (is_fraction f) → Number f
is_number f h = first_of (not (is_nan f)) (not (is_sign_negative f && is_zero f)) (second_of (fits binary32 f) (not (is_nan f) && not (is_sign_negative f && is_zero f)) (is_clean f h))

pub zero_is_a_fraction : T (is_fraction zero_f)
unfolding of_bits le fits is_nan is_sign_negative
zero_is_a_fraction = tt

pub one_is_a_fraction : T (is_fraction one_f)
unfolding of_bits le fits is_nan is_sign_negative
one_is_a_fraction = tt

pub zero_below_one : T (lt zero_f one_f)
unfolding of_bits lt
zero_below_one = tt

pub strict_by : (a b : Float) → Number a → Number b → (t : Bool) → le b a ≡ t → lt a b ≡ not t
strict_by a b p q true e = off (lt a b) (λ l. lt_irrefl a (lt_of_lt_of_le a b a l (passes (le b a) e)))
strict_by a b p q false e = on (lt a b) (lt_of_not-le b a q p (fails (le b a) e))

pub one_value : (a b : Float) → T (is_fraction a) → T (is_fraction b) → T (le a b) → T (le b a) → a ≡ b
unfolding is_sign_negative
one_value a b p q h k =
    antisym_sign binary32 a b (clean_fits a (is_clean a p)) (clean_fits b (is_clean b q))
    (clean_plain a (is_clean a p) (from_zero a p) ∙ sym (clean_plain b (is_clean b q) (from_zero b q))) (h, k)

abbrev pub fractions : Marks Float
fractions = record {
  lt = lt;
  le = le;
  admitted = is_fraction;
  zero = zero_f;
  one = one_f;
  zero_admitted = zero_is_a_fraction;
  one_admitted = one_is_a_fraction;
  zero_below_one = zero_below_one;
  from_zero = from_zero;
  to_one = to_one;
  reflexive = λ a p. le_refl a (is_number a p);
  transitive = λ a b c p q r. le_trans a b c;
  antisymmetric = one_value;
  strict = λ a b p q. strict_by a b (is_number a p) (is_number b q) (le b a) refl;
  weaker = λ a b p q h. le_of_lt a b h;
}
