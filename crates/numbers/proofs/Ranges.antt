-- The test of a range decides the range. Assumes nothing.
use Rattle.std.proofs.Common.{Bool, true, false, ◌&&◌, T}
use lib.Ieee.{Float, binary32, fits, neg, le}
use Rattle.numbers.specs.Reals.{Real, Within, ranged}
use Rattle.numbers.proofs.Bounds.{within_finite}

-- ---- tests joined by `&&`
pub both : (a b : Bool) → T a → T b → T (a && b)
both true b p q = q
both false b p q = absurd p

pub first_of : (a b : Bool) → T (a && b) → T a
first_of true b h = tt
first_of false b h = absurd h

pub second_of : (a b : Bool) → T (a && b) → T b
second_of true b h = h
second_of false b h = absurd h

-- ---- the range
pub in_range : (limit x : Float) → Real binary32 limit → T (ranged limit x) → Real binary32 x × Within limit x
in_range limit x L h =
    let f = first_of (fits binary32 x) (le (neg limit) x && le x limit) h in
    let w = second_of (fits binary32 x) (le (neg limit) x && le x limit) h in
    let i : Within limit x = (first_of (le (neg limit) x) (le x limit) w, second_of (le (neg limit) x) (le x limit) w) in
    ((f, within_finite binary32 limit x L i), i)

pub ranged_within : (limit x : Float) → Real binary32 x → Within limit x → T (ranged limit x)
ranged_within limit x X w = both (fits binary32 x) (le (neg limit) x && le x limit) X.0 (both (le (neg limit) x) (le x limit) w.0 w.1)
