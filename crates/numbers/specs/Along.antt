-- The place at the fraction t of the way from s to e: a difference, a product and a sum, each rounded once. Assumes nothing.
use Rattle.std.specs.Prelude.{false, T, pos, from_bits, Float}
use Rattle.std.specs.Float.Ieee.{add, sub, mul, le, lt}
use Rattle.std.specs.Float.Ieee.Scale.{finite}
use Rattle.std.specs.Float.{float_zero, float_one, fin, Format, binary32}
use Rattle.numbers.specs.Reals.{Real, Same, Within}

abbrev pub along : Format → Float → Float → Float → Float
along f s e t = add f s (mul f (sub f e s) t)

-- four million, the size up to which a coordinate goes
abbrev pub reach : Float
reach = fin false 15625 (pos 8)

-- from 0 to 1
abbrev pub Fraction : Float → Type 0
Fraction t = T (le float_zero t) × T (le t float_one)

-- x lies from a to b, where a ≤ b
abbrev pub From : Float → Float → Float → Type 0
From a b x = T (le a x) × T (le x b)

-- What holds of a place r at the fraction t of the way from s to e.
pub record OnTheWay (s e t r : Float) : Type 0 where
  pub stays_finite : T (finite r)
  pub within : T (lt t float_one) → Within reach r
  pub ahead : T (le s e) → T (lt t float_one) → From s e r
  pub behind : T (le e s) → T (lt t float_one) → From e s r

-- What holds of the place at each fraction of the way from s to e, for s and e of size at most four million.
pub record Interpolates (s e : Float) : Type 0 where
  pub starts : Same (along binary32 s e float_zero) s
  pub stays_finite : (t : Float) → Real binary32 t → Fraction t → T (finite (along binary32 s e t))
  pub rises : (t u : Float) → Real binary32 t → Real binary32 u → Fraction t → Fraction u → T (le s e) → T (le t u) → T (le (along binary32 s e t) (along binary32 s e u))
  pub falls : (t u : Float) → Real binary32 t → Real binary32 u → Fraction t → Fraction u → T (le e s) → T (le t u) → T (le (along binary32 s e u) (along binary32 s e t))
  pub ahead : (t : Float) → Real binary32 t → Fraction t → T (le s e) → From s (add binary32 s (sub binary32 e s)) (along binary32 s e t)
  pub behind : (t : Float) → Real binary32 t → Fraction t → T (le e s) → From (add binary32 s (sub binary32 e s)) s (along binary32 s e t)
  pub inside_ahead : (t : Float) → Real binary32 t → T (le float_zero t) → T (lt t float_one) → T (le s e) → From s e (along binary32 s e t)
  pub keeps_within : (t : Float) → Real binary32 t → T (le float_zero t) → T (lt t float_one) → Within reach (along binary32 s e t)
  pub inside_behind : (t : Float) → Real binary32 t → T (le float_zero t) → T (lt t float_one) → T (le e s) → From e s (along binary32 s e t)

abbrev pub Interpolation : Type 0
Interpolation = (s e : Float) → Real binary32 s → Real binary32 e → Within reach s → Within reach e → Interpolates s e

-- At t = 1 the place can lie past e: from about -0.87 to about 3.54 it is the value after e.
abbrev pub Overshoots : Type 0
Overshoots = T (lt (from_bits binary32 0x4062_db64) (along binary32 (from_bits binary32 0xbf5f_b1ad) (from_bits binary32 0x4062_db64) float_one))
