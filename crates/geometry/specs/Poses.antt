-- Turns and poses. Assumes nothing.
use Rattle.std.specs.Prelude.{Bool, ◌&&◌, T, Float}
use Rattle.std.specs.Float.Ieee.{eq}
use Rattle.numbers.specs.Constants.{zero_f, one_f, million}
use Rattle.numbers.specs.Reals.{ranged}
use Rattle.geometry.specs.declared.vector.Vector.{Vector}
use Rattle.geometry.specs.declared.pose.Rotation.{Rotation}
use Rattle.geometry.specs.declared.pose.Pose.{Pose}
use Rattle.geometry.specs.Vectors.{ranged_vector}

-- no turn
abbrev pub identity : Rotation
identity = record { i = zero_f; j = zero_f; k = zero_f; w = one_f }

-- compared by number
abbrev pub is_identity : Rotation → Bool
is_identity r = eq r.i zero_f && (eq r.j zero_f && (eq r.k zero_f && eq r.w one_f))

abbrev pub ranged_rotation : Float → Rotation → Bool
ranged_rotation limit r = ranged limit r.i && (ranged limit r.j && (ranged limit r.k && ranged limit r.w))

abbrev pub ranged_pose : Float → Pose → Bool
ranged_pose limit p = ranged_vector limit p.translation && ranged_rotation limit p.rotation

-- a place, with no turn
abbrev pub placed : Vector → Pose
placed v = record { translation = v; rotation = identity }

-- each number is in range: at most a million in size
abbrev pub InRange : Pose → Type 0
InRange p = T (ranged_pose million p)
