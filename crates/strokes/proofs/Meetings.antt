-- The time of a meeting is from 0 to 1, neither NaN nor minus zero. Assumes nothing.
use Rattle.std.proofs.Common.{◌≡◌, ℕ, Bool, true, false, cond, ◌&&◌, ◌||◌, T, Some, None, Option, refl, arith}
use lib.Ieee.{Float, binary32, of_bits, div, lt, le, fits, is_nan}
use lib.Ieee.Fits.{div-fits}
use Rattle.std.specs.Float.{is_sign_negative}
use Rattle.std.specs.Bool.{passes}
use Rattle.std.specs.Float.Order.{le_of_lt, le_right, lt_of_le_of_lt}
use Rattle.numbers.specs.Reals.{Number}
use Rattle.numbers.proofs.Order.{not_lt}
use Rattle.geometry.specs.declared.vector.Vector.{Vector}
use Rattle.geometry.specs.declared.aabb.Aabb.{Aabb}
use Rattle.numbers.specs.Constants.{zero_f, one_f}
use Rattle.numbers.specs.Picks.{greater_of}
use Rattle.outcomes.specs.declared.pair_kind.PairKind.{PairKind}
use Rattle.outcomes.specs.declared.pair_kind.PairKind.TheVariants.{Solid, Pseudo}
use Rattle.strokes.specs.declared.Crossing.{Crossing}
use Rattle.outcomes.specs.Impacts.{clean}
use Rattle.outcomes.proofs.Caps.{clean_above}
use Rattle.strokes.specs.Strokes.{cross, crossing_of, entry, too_late, joined, axis, meeting_of, counted_for, sooner_of}
use Rattle.strokes.specs.Laws.{Timely, Met}

-- ---- the times of one axis are values of single precision

abbrev Entered : Option Crossing → Type 0
Entered None = Unit {0}
Entered (Some x) = T (fits binary32 x.enter)

zero_fits : T (fits binary32 zero_f)
unfolding fits of_bits
zero_fits = tt

entered_by : (a b d : Float) (p q r : Bool)
    → Entered (cond p (Some (cross (div binary32 a d) (div binary32 b d))) (cond q (Some (cross (div binary32 b d) (div binary32 a d))) (cond r (Some (cross zero_f one_f)) None)))
entered_by a b d true q r = div-fits binary32 a d
entered_by a b d false true r = div-fits binary32 b d
entered_by a b d false false true = zero_fits
entered_by a b d false false false = tt

entered : (a b d : Float) → Entered (crossing_of a b d)
entered a b d = entered_by a b d (lt zero_f d) (lt d zero_f) (le a zero_f && le zero_f b)

-- ---- a time never is NaN or minus zero

abbrev Started : Float → Type 0
Started t = T (clean t) × T (le zero_f t)

later_by : (t i : Float) → Started t → T (fits binary32 i) → (b : Bool) → lt t i ≡ b → Started (cond b i t)
later_by t i s f true e =
    let up : T (lt zero_f i) = lt_of_le_of_lt zero_f t i s.1 (passes (lt t i) e) in
    (clean_above i f up, le_of_lt zero_f i up)
later_by t i s f false e = s

later : (t i : Float) → Started t → T (fits binary32 i) → Started (greater_of t i)
later t i s f = later_by t i s f (lt t i) refl

zero_started : Started zero_f
unfolding fits of_bits is_nan is_sign_negative le
zero_started = (tt, tt)

entry_started : (x y z : Crossing) → T (fits binary32 x.enter) → T (fits binary32 y.enter) → T (fits binary32 z.enter) → Started (entry x y z)
entry_started x y z p q r = later (greater_of (greater_of zero_f x.enter) y.enter) z.enter (later (greater_of zero_f x.enter) y.enter (later zero_f x.enter zero_started p) q) r

-- ---- nor passes it 1

last_off : (a b c d : Bool) → (a || (b || (c || d))) ≡ false → d ≡ false
last_off true b c d e = let z : ◌≡◌ {A = ℕ} 0 1 = cc in absurd (omega arith)
last_off false true c d e = let z : ◌≡◌ {A = ℕ} 0 1 = cc in absurd (omega arith)
last_off false false true d e = let z : ◌≡◌ {A = ℕ} 0 1 = cc in absurd (omega arith)
last_off false false false d e = e

one_number : Number one_f
unfolding of_bits is_nan
one_number = tt

shared_by : (t : Float) (x y z : Crossing) → Started t → (b : Bool) → too_late t x y z ≡ b → Met (cond b None (Some t))
shared_by t x y z s true e = tt
shared_by t x y z s false e = record {
  plain = s.0;
  low = s.1;
  high = not_lt one_f t one_number (le_right zero_f t s.1) (last_off (lt x.leave t) (lt y.leave t) (lt z.leave t) (lt one_f t) e);
}

joined_met : (x y z : Option Crossing) → Entered x → Entered y → Entered z → Met (joined x y z)
joined_met None y z p q r = tt
joined_met (Some x) None z p q r = tt
joined_met (Some x) (Some y) None p q r = tt
joined_met (Some x) (Some y) (Some z) p q r = shared_by (entry x y z) x y z (entry_started x y z p q r) (too_late (entry x y z) x y z) refl

pub meeting_met : (f t : Aabb) (d : Vector) → Met (meeting_of f t d)
meeting_met f t d =
    joined_met
    (axis f.mins.x f.maxs.x t.mins.x t.maxs.x d.x)
    (axis f.mins.y f.maxs.y t.mins.y t.maxs.y d.y)
    (axis f.mins.z f.maxs.z t.mins.z t.maxs.z d.z)
    (entered _ _ d.x) (entered _ _ d.y) (entered _ _ d.z)

-- ---- of several meetings

counted_by : (t : Float) → Timely t → (b : Bool) → Met (cond b (Some t) None)
counted_by t m true = m
counted_by t m false = tt

pub counted_met : (o : Option Float) (p : PairKind) → Met o → Met (counted_for o p)
counted_met None p m = tt
counted_met (Some t) Solid m = counted_by t m (lt zero_f t)
counted_met (Some t) Pseudo m = m

sooner_by : (s t : Float) → Timely s → Timely t → (b : Bool) → Timely (cond b t s)
sooner_by s t m n true = n
sooner_by s t m n false = m

pub sooner_met : (a b : Option Float) → Met a → Met b → Met (sooner_of a b)
sooner_met None b m n = n
sooner_met (Some s) None m n = m
sooner_met (Some s) (Some t) m n = sooner_by s t m n (lt t s)
