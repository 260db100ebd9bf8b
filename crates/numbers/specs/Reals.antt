-- The floats that a format holds, and their order. Assumes nothing.
use Rattle.std.specs.Prelude.{zero, suc, Bool, true, false, not, ◌&&◌, T, is_nan, Float}
use Rattle.std.specs.Float.{nan, inf, fin, Format, binary32}
use Rattle.std.specs.Float.Ieee.{fits, le, neg}
use Rattle.std.specs.Float.Ieee.Scale.{finite}

-- not a NaN
abbrev pub Number : Float → Type 0
Number x = T (not (is_nan x))

-- finite, and a value of the format
abbrev pub Real : Format → Float → Type 0
Real f x = T (fits f x) × T (finite x)

-- equal as numbers: the two zeros are the same, and nothing else differs
abbrev pub Same : Float → Float → Type 0
Same x y = T (le x y) × T (le y x)

-- at most `limit` in size
abbrev pub Within : Float → Float → Type 0
Within limit x = T (le (neg limit) x) × T (le x limit)

-- the test of a range: a value of single precision, which every number of a program is, of at most `limit` in size
abbrev pub ranged : Float → Float → Bool
ranged limit x = fits binary32 x && (le (neg limit) x && le x limit)

-- one of the two zeros
abbrev pub is_zero : Float → Bool
is_zero nan = false
is_zero (inf s) = false
is_zero (fin s zero e) = true
is_zero (fin s (suc m) e) = false
