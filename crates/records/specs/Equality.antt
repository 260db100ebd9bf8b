-- Exact equality of numbers and poses. Assumes nothing.
use Rattle.std.specs.Prelude.{◌≡◌, Bool, true, false, cond, not, ◌&&◌, ℤ, pos, negsuc, Decides, ◌==◌, Float}
use Rattle.std.specs.Float.{nan, inf, fin}
use Rattle.geometry.specs.declared.vector.Vector.{Vector}
use Rattle.geometry.specs.declared.pose.Rotation.{Rotation}
use Rattle.geometry.specs.declared.pose.Pose.{Pose}

abbrev pub alike : Bool → Bool → Bool
alike a b = cond a b (not b)

abbrev pub same_exponent : ℤ → ℤ → Bool
same_exponent (pos a) (pos b) = a == b
same_exponent (pos a) (negsuc b) = false
same_exponent (negsuc a) (pos b) = false
same_exponent (negsuc a) (negsuc b) = a == b

-- one and the same value, part by part: minus zero is not zero, and there is one NaN
abbrev pub same_number : Float → Float → Bool
same_number nan nan = true
same_number nan (inf t) = false
same_number nan (fin t n d) = false
same_number (inf s) nan = false
same_number (inf s) (inf t) = alike s t
same_number (inf s) (fin t n d) = false
same_number (fin s m e) nan = false
same_number (fin s m e) (inf t) = false
same_number (fin s m e) (fin t n d) = alike s t && (m == n && same_exponent e d)

abbrev pub same_vector : Vector → Vector → Bool
same_vector a b = same_number a.x b.x && (same_number a.y b.y && same_number a.z b.z)

abbrev pub same_rotation : Rotation → Rotation → Bool
same_rotation a b = same_number a.i b.i && (same_number a.j b.j && (same_number a.k b.k && same_number a.w b.w))

abbrev pub same_pose : Pose → Pose → Bool
same_pose a b = same_vector a.translation b.translation && same_rotation a.rotation b.rotation

-- Each test is passed exactly by two that are one.
pub record EqualityDecides : Type 0 where
  pub numbers : (a b : Float) → Decides (same_number a b) (a ≡ b)
  pub vectors : (a b : Vector) → Decides (same_vector a b) (a ≡ b)
  pub poses : (a b : Pose) → Decides (same_pose a b) (a ≡ b)
