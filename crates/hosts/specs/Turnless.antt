-- Poses that never turn. Assumes nothing.
use Rattle.std.specs.Prelude.{Bool, ◌&&◌, T, Float}
use Rattle.numbers.specs.Constants.{reach_f}
use Rattle.geometry.specs.declared.vector.Vector.{Vector}
use Rattle.geometry.specs.declared.pose.Pose.{Pose}
use Rattle.geometry.specs.Vectors.{ranged_vector, sum_of, difference_of, along_of}
use Rattle.geometry.specs.Poses.{is_identity, placed, InRange}
use Rattle.hosts.specs.declared.questions.Sweep.{Sweep}
use Rattle.hosts.specs.HostLaws.{Inner}

-- a place of at most four million in size on each axis, and no turn
abbrev pub admitted : Pose → Bool
admitted p = ranged_vector reach_f p.translation && is_identity p.rotation

abbrev pub product_of : Pose → Pose → Pose
product_of a b = placed (sum_of a.translation b.translation)

abbrev pub inverse_of : Pose → Vector → Vector
inverse_of p v = difference_of v p.translation

-- b as seen from a
abbrev pub relative_of : Pose → Pose → Pose
relative_of a b = placed (difference_of b.translation a.translation)

abbrev pub pose_along : Sweep → Float → Pose
pose_along w t = placed (along_of w.start.translation w.end.translation t)

abbrev pub stroke_of : Sweep → Vector
stroke_of w = difference_of w.end.translation w.start.translation

-- What holds of a pose strictly inside a sweep whose ends are in range, alone and in products with a pose in range.
pub record Inside (w : Sweep) (t : Float) : Type 0 where
  pub range : InRange (pose_along w t)
  pub admitted_there : T (admitted (pose_along w t))
  pub product : (r : Pose) → InRange r → T (admitted (product_of (pose_along w t) r))

abbrev pub InsideASweep : Type 0
InsideASweep = (w : Sweep) (t : Float) → Inner t → InRange w.start → InRange w.end → Inside w t
