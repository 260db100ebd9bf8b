-- Places up to four million, and what is added to them. Assumes nothing.
use Rattle.std.proofs.Common.{◌≡◌, ◌*◌, ◌^◌, false, T, pos, sym, refl, subst, inl, inr, arith}
use lib.Ieee.{Float, fin, binary32, of_bits, add, sub, neg, fits, le, lt}
use lib.Ieee.Fits.{add-fits}
use lib.Ieee.Scale.{finite}
use Rattle.std.specs.Float as Floats
use Rattle.std.specs.Float.Order.{le_of_lt, le_trans}
use Rattle.numbers.specs.Reals.{Real, Within, ranged}
use Rattle.numbers.specs.Least.{Proper}
use Rattle.numbers.specs.Along.{along, reach}
use Rattle.numbers.specs.Constants.{million, reach_f}
use Rattle.numbers.proofs.Order.{finite_number, finite_between, le_or_le}
use Rattle.numbers.proofs.Units.{over, under}
use Rattle.numbers.proofs.Bounds.{add_within, sub_within, within_finite}
use Rattle.numbers.proofs.Coordinates.{bound_units, interpolation}
use Rattle.numbers.proofs.Literals.{zero_is, one_is, reach_is}
use Rattle.numbers.proofs.Ranges.{in_range, ranged_within}
use Rattle.hosts.specs.HostLaws.{Inner}

-- one, five and six million
abbrev pub one_m : Float
one_m = fin false 15625 (pos 6)

abbrev pub five_m : Float
five_m = fin false 78125 (pos 6)

abbrev six_m : Float
six_m = fin false 46875 (pos 7)

million_is : million ≡ one_m
unfolding of_bits
million_is = refl

one_real : Real binary32 one_m
unfolding fits
one_real = (tt, tt)

reach_real : Real binary32 reach
unfolding fits
reach_real = (tt, tt)

five_real : Real binary32 five_m
unfolding fits
five_real = (tt, tt)

six_real : Real binary32 six_m
unfolding fits
six_real = (tt, tt)

one_units : (over binary32 one_m ≡ 1000000 * 2 ^ 149) × (under binary32 one_m ≡ 0)
one_units = bound_units 15625 6 (1000000 * 2 ^ 149) refl

reach_units : (over binary32 reach ≡ 4000000 * 2 ^ 149) × (under binary32 reach ≡ 0)
reach_units = bound_units 15625 8 (4000000 * 2 ^ 149) refl

five_units : (over binary32 five_m ≡ 5000000 * 2 ^ 149) × (under binary32 five_m ≡ 0)
five_units = bound_units 78125 6 (5000000 * 2 ^ 149) refl

six_units : (over binary32 six_m ≡ 6000000 * 2 ^ 149) × (under binary32 six_m ≡ 0)
six_units = bound_units 46875 7 (6000000 * 2 ^ 149) refl

-- a value of single precision within a bound
abbrev pub Bounded : Float → Float → Type 0
Bounded m x = Real binary32 x × Within m x

pub in_million : (x : Float) → T (ranged million x) → Bounded one_m x
in_million x h = in_range one_m x one_real (subst (λ (m : Float). T (ranged m x)) million_is h)

pub in_reach : (x : Float) → T (ranged reach_f x) → Bounded reach x
in_reach x h = in_range reach x reach_real (subst (λ (m : Float). T (ranged m x)) reach_is h)

wider : (m n x : Float) → T (le (neg n) (neg m)) → T (le m n) → Within m x → Within n x
wider m n x a b w = (le_trans (neg n) (neg m) x a w.0, le_trans x m n w.1 b)

one_in_reach : (x : Float) → Within one_m x → Within reach x
unfolding le neg
one_in_reach x w = wider one_m reach x tt tt w

pub reach_in_five : (x : Float) → Within reach x → Within five_m x
unfolding le neg
reach_in_five x w = wider reach five_m x tt tt w

-- a place and a child's place
pub child_place : (x y : Float) → Bounded reach x → Bounded one_m y → Bounded five_m (add binary32 x y)
child_place x y X Y =
    let a = reach_units in
    let b = one_units in
    let c = five_units in
    let w = add_within binary32 reach one_m five_m x y reach_real one_real five_real X.0 Y.0 (omega arith) X.1 Y.1 in
    ((add-fits binary32 x y, within_finite binary32 five_m (add binary32 x y) five_real w), w)

-- the ends of a side
pub upper_end : (x y : Float) → Bounded five_m x → Bounded one_m y → T (finite (add binary32 x y))
upper_end x y X Y =
    let a = five_units in
    let b = one_units in
    let c = six_units in
    within_finite binary32 six_m (add binary32 x y) six_real (add_within binary32 five_m one_m six_m x y five_real one_real six_real X.0 Y.0 (omega arith) X.1 Y.1)

pub lower_end : (x y : Float) → Bounded five_m x → Bounded one_m y → T (finite (sub binary32 x y))
lower_end x y X Y =
    let a = five_units in
    let b = one_units in
    let c = six_units in
    within_finite binary32 six_m (sub binary32 x y) six_real (sub_within binary32 five_m one_m six_m x y five_real one_real six_real X.0 Y.0 (omega arith) X.1 Y.1)

-- ---- inside a sweep

module _ (s e t : Float) (S : T (ranged million s)) (E : T (ranged million e)) (P : Proper binary32 t) where
  inside_within : Within one_m (along binary32 s e t)
  inside_within =
      let r = along binary32 s e t in
      let a = in_million s S in
      let b = in_million e E in
      let R : Real binary32 t = (P.0, finite_between Floats.float_zero t Floats.float_one tt tt (le_of_lt Floats.float_zero t P.1) (le_of_lt t Floats.float_one P.2)) in
      let laws = interpolation s e a.0 b.0 (one_in_reach s a.1) (one_in_reach e b.1) in
      elim (le_or_le s e (finite_number s a.0.1) (finite_number e b.0.1)) [
        | inl o ↦ (let k = laws.inside_ahead t R (le_of_lt Floats.float_zero t P.1) P.2 o in (le_trans (neg one_m) s r a.1.0 k.0, le_trans r e one_m k.1 b.1.1))
        | inr o ↦ (let k = laws.inside_behind t R (le_of_lt Floats.float_zero t P.1) P.2 o in (le_trans (neg one_m) e r b.1.0 k.0, le_trans r s one_m k.1 a.1.1))
      ]

  inside_bounded : Bounded one_m (along binary32 s e t)
  inside_bounded = ((add-fits binary32 s _, within_finite binary32 one_m (along binary32 s e t) one_real inside_within), inside_within)

  pub inside_ranged : T (ranged million (along binary32 s e t))
  inside_ranged = subst (λ (m : Float). T (ranged m (along binary32 s e t))) (sym million_is) (ranged_within one_m (along binary32 s e t) inside_bounded.0 inside_within)

  pub inside_reach : T (ranged reach_f (along binary32 s e t))
  inside_reach = subst (λ (m : Float). T (ranged m (along binary32 s e t))) (sym reach_is) (ranged_within reach (along binary32 s e t) inside_bounded.0 (one_in_reach (along binary32 s e t) inside_within))

  pub inside_product : (y : Float) → T (ranged million y) → T (ranged reach_f (add binary32 (along binary32 s e t) y))
  inside_product y Y =
      let r = along binary32 s e t in
      let a = one_units in
      let b = reach_units in
      let w = add_within binary32 one_m one_m reach r y one_real one_real reach_real inside_bounded.0 (in_million y Y).0 (omega arith) inside_within (in_million y Y).1 in
      subst (λ (m : Float). T (ranged m (add binary32 r y))) (sym reach_is) (ranged_within reach (add binary32 r y) (add-fits binary32 r y, within_finite binary32 reach (add binary32 r y) reach_real w) w)

-- a fraction strictly inside, by the constants of `numbers`
pub proper : (t : Float) → Inner t → Proper binary32 t
proper t i = (i.0, subst (λ (z : Float). T (lt z t)) zero_is i.1, subst (λ (o : Float). T (lt t o)) one_is i.2)
