-- Vectors whose three numbers share a bound, and the poses strictly inside a sweep. Assumes nothing.
use Rattle.std.proofs.Common.{◌&&◌, T}
use lib.Ieee.{Float, binary32, of_bits, fits, neg, le, eq}
use lib.Ieee.Scale.{finite}
use Rattle.numbers.specs.Least.{Proper}
use Rattle.numbers.specs.Along.{reach}
use Rattle.numbers.specs.Constants.{million, reach_f}
use Rattle.numbers.specs.Reals.{ranged}
use Rattle.numbers.proofs.Ranges.{both, first_of, second_of}
use Rattle.geometry.specs.declared.vector.Vector.{Vector}
use Rattle.geometry.specs.declared.pose.Pose.{Pose}
use Rattle.geometry.specs.Vectors.{origin, ranged_vector, sum_of, along_of}
use Rattle.geometry.specs.Poses.{identity, is_identity, ranged_rotation, InRange}
use Rattle.geometry.specs.Boxes.{around_of, finite_vector, FiniteBox}
use Rattle.hosts.specs.declared.questions.Sweep.{Sweep}
use Rattle.hosts.specs.Turnless.{admitted, product_of, pose_along, InsideASweep}
use Rattle.hosts.proofs.Places.{Bounded, one_m, five_m, in_million, in_reach, reach_in_five, child_place, upper_end, lower_end, inside_ranged, inside_reach, inside_product, proper}

-- ---- no turn

pub turnless : T (is_identity identity)
unfolding eq of_bits
turnless = tt

pub turn_ranged : T (ranged_rotation million identity)
unfolding fits le neg of_bits
turn_ranged = tt

-- ---- three numbers

abbrev pub Each : (Float → Type 0) → Vector → Type 0
Each P v = P v.x × P v.y × P v.z

pub each_ranged : (m : Float) (v : Vector) → T (ranged_vector m v) → Each (λ u. T (ranged m u)) v
each_ranged m v h =
    let a = ranged m v.x in
    let b = ranged m v.y in
    let c = ranged m v.z in
    let k = second_of a (b && c) h in
    (first_of a (b && c) h, first_of b c k, second_of b c k)

pub all_ranged : (m : Float) (v : Vector) → T (ranged m v.x) → T (ranged m v.y) → T (ranged m v.z) → T (ranged_vector m v)
all_ranged m v a b c = both (ranged m v.x) (ranged m v.y && ranged m v.z) a (both (ranged m v.y) (ranged m v.z) b c)

pub each_finite : (v : Vector) → T (finite_vector v) → Each (λ u. T (finite u)) v
each_finite v h =
    let a = finite v.x in
    let b = finite v.y in
    let c = finite v.z in
    let k = second_of a (b && c) h in
    (first_of a (b && c) h, first_of b c k, second_of b c k)

pub all_finite : (v : Vector) → T (finite v.x) → T (finite v.y) → T (finite v.z) → T (finite_vector v)
all_finite v a b c = both (finite v.x) (finite v.y && finite v.z) a (both (finite v.y) (finite v.z) b c)

pub in_million_all : (v : Vector) → T (ranged_vector million v) → Each (Bounded one_m) v
in_million_all v h = let k = each_ranged million v h in (in_million v.x k.0, in_million v.y k.1, in_million v.z k.2)

pub in_reach_all : (p : Pose) → T (admitted p) → Each (Bounded reach) p.translation
in_reach_all p h =
    let v = p.translation in
    let k = each_ranged reach_f v (first_of (ranged_vector reach_f v) (is_identity p.rotation) h) in
    (in_reach v.x k.0, in_reach v.y k.1, in_reach v.z k.2)

pub in_five_all : (v : Vector) → Each (Bounded reach) v → Each (Bounded five_m) v
in_five_all v k = ((k.0.0, reach_in_five v.x k.0.1), (k.1.0, reach_in_five v.y k.1.1), (k.2.0, reach_in_five v.z k.2.1))

-- a place within reach, and a child's place in range
pub sum_in_five : (p c : Vector) → Each (Bounded reach) p → Each (Bounded one_m) c → Each (Bounded five_m) (sum_of p c)
sum_in_five p c a b = (child_place p.x c.x a.0 b.0, child_place p.y c.y a.1 b.1, child_place p.z c.z a.2 b.2)

-- the numbers of a pose in range
pub place_ranged : (p : Pose) → InRange p → T (ranged_vector million p.translation)
place_ranged p h = first_of (ranged_vector million p.translation) (ranged_rotation million p.rotation) h

origin_ranged : T (ranged_vector million origin)
unfolding fits le neg of_bits
origin_ranged = tt

pub origin_in : Each (Bounded one_m) origin
origin_in = in_million_all origin origin_ranged

-- ---- boxes

pub sum_finite : (at by : Vector) → Each (Bounded five_m) at → Each (Bounded one_m) by → T (finite_vector (sum_of at by))
sum_finite at by a h = all_finite (sum_of at by) (upper_end at.x by.x a.0 h.0) (upper_end at.y by.y a.1 h.1) (upper_end at.z by.z a.2 h.2)

pub around_finite : (at half : Vector) → Each (Bounded five_m) at → Each (Bounded one_m) half → FiniteBox (around_of at half)
around_finite at half a h = (
  all_finite (around_of at half).mins (lower_end at.x half.x a.0 h.0) (lower_end at.y half.y a.1 h.1) (lower_end at.z half.z a.2 h.2),
  sum_finite at half a h,
)

-- ---- poses inside a sweep

module _ (w : Sweep) (t : Float) (P : Proper binary32 t) (S : InRange w.start) (E : InRange w.end) where
  along_ranged : InRange (pose_along w t)
  along_ranged =
      let s = w.start.translation in
      let e = w.end.translation in
      let a = each_ranged million s (place_ranged w.start S) in
      let b = each_ranged million e (place_ranged w.end E) in
      both (ranged_vector million (pose_along w t).translation) (ranged_rotation million identity)
      (all_ranged million (along_of s e t) (inside_ranged s.x e.x t a.0 b.0 P) (inside_ranged s.y e.y t a.1 b.1 P) (inside_ranged s.z e.z t a.2 b.2 P))
      turn_ranged

  along_admitted : T (admitted (pose_along w t))
  along_admitted =
      let s = w.start.translation in
      let e = w.end.translation in
      let a = each_ranged million s (place_ranged w.start S) in
      let b = each_ranged million e (place_ranged w.end E) in
      both (ranged_vector reach_f (pose_along w t).translation) (is_identity identity)
      (all_ranged reach_f (along_of s e t) (inside_reach s.x e.x t a.0 b.0 P) (inside_reach s.y e.y t a.1 b.1 P) (inside_reach s.z e.z t a.2 b.2 P))
      turnless

  along_product : (r : Pose) → InRange r → T (admitted (product_of (pose_along w t) r))
  along_product r R =
      let s = w.start.translation in
      let e = w.end.translation in
      let v = r.translation in
      let a = each_ranged million s (place_ranged w.start S) in
      let b = each_ranged million e (place_ranged w.end E) in
      let c = each_ranged million v (place_ranged r R) in
      both (ranged_vector reach_f (product_of (pose_along w t) r).translation) (is_identity identity)
      (all_ranged reach_f (sum_of (along_of s e t) v) (inside_product s.x e.x t a.0 b.0 P v.x c.0) (inside_product s.y e.y t a.1 b.1 P v.y c.1) (inside_product s.z e.z t a.2 b.2 P v.z c.2))
      turnless

pub inside_a_sweep : InsideASweep
inside_a_sweep w t I S E =
    let P = proper t I in
    record { range = along_ranged w t P S E; admitted_there = along_admitted w t P S E; product = along_product w t P S E }
