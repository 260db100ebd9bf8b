-- Texts and the numbers that they are, by evaluation. Assumes nothing.
use Rattle.std.proofs.Common.{refl}
use lib.Ieee.{of_bits, of_int, div, neg, is_nan}
use Rattle.texts.specs.Laws.{Numerals}

pub numerals : Numerals
unfolding of_bits of_int div neg is_nan
numerals = record {
  half_sided = refl;
  minus_zero = refl;
  one = refl;
  one_by_bits = refl;
  four_and_a_half = refl;
  minus_half = refl;
  million = refl;
  tenth = refl;
  largest_digits = refl;
  smallest = refl;
  either_case = refl;
  infinity = refl;
  no_nan = refl;
  no_nine_hex_digits = refl;
  no_larger_digits = refl;
  no_eleven_places = refl;
  no_exponent = refl;
  no_plus = refl;
  no_bare_point = refl;
  no_bare_fraction = refl;
  no_bare_minus = refl;
  nothing = refl;
}
