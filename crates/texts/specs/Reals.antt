-- Numbers: the bits of a single-precision number, or a decimal. Assumes nothing.
use Rattle.std.specs.Prelude.{ℕ, ◌^◌, Bool, cond, ◌&&◌, ◌||◌, List, ◌++◌, length, take, drop, pos, Some, None, Ok, Err, codes, Option, Result, ◌==◌, from_bits, is_nan, nat_le, Float}
use Rattle.std.specs.Float.{binary32}
use Rattle.std.specs.Float.Ieee.{of_int, div, neg}
use Rattle.std.specs.Str.{bytes_eq}
use Rattle.texts.specs.declared.trouble.Trouble.{Trouble}
use Rattle.texts.specs.declared.trouble.Trouble.TheVariants.{NotANumber, TooManyDigits}
use Rattle.texts.specs.Cuts.{front_of, past_of}
use Rattle.texts.specs.Digits.{spelled, value_of, whole_of}

-- digits with k of them after the point: a whole number divided by a power of ten
abbrev pub decimal_of : ℕ → ℕ → Float
decimal_of m k = div binary32 (of_int binary32 (pos m)) (of_int binary32 (pos (10 ^ k)))

-- up to the limits both are exact
abbrev pub quotient_of : ℕ → ℕ → Result Float Trouble
quotient_of m k = cond (nat_le m 16777216 && nat_le k 10) (Ok (decimal_of m k)) (Err TooManyDigits)

-- digits before the point, and after it where there is one: the tail stands from the point on
abbrev pub is_decimal : List ℕ → List ℕ → Bool
is_decimal units tail = spelled 10 units && (length tail == 0 || spelled 10 (drop 1 tail))

abbrev pub unsigned_from : List ℕ → List ℕ → Result Float Trouble
unsigned_from units tail =
    cond (is_decimal units tail) (quotient_of (value_of 10 0 (units ++ drop 1 tail)) (length (drop 1 tail))) (Err NotANumber)

-- a decimal without a sign
abbrev pub unsigned_of : List ℕ → Result Float Trouble
unsigned_of bs = unsigned_from (front_of (λ b. b == 46) bs) (past_of (λ b. b == 46) bs)

-- the bits of a NaN are no number
abbrev pub bits_from : Option ℕ → Result Float Trouble
bits_from None = Err NotANumber
bits_from (Some b) = cond (is_nan (from_bits binary32 b)) (Err NotANumber) (Ok (from_bits binary32 b))

-- 1 to 8 hexadecimal digits
abbrev pub bits_of : List ℕ → Result Float Trouble
bits_of bs = bits_from (whole_of 16 8 bs)

abbrev pub negated : Result Float Trouble → Result Float Trouble
negated (Ok x) = Ok (neg x)
negated (Err e) = Err e

abbrev pub number_of : List ℕ → Result Float Trouble
number_of bs =
    cond (bytes_eq (take 2 bs) (codes "0x")) (bits_of (drop 2 bs))
    (cond (bytes_eq (take 1 bs) (codes "-")) (negated (unsigned_of (drop 1 bs))) (unsigned_of bs))
