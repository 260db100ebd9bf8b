-- Vectors of three numbers. Assumes nothing.
use Rattle.std.specs.Prelude.{Bool, ◌&&◌, Float}
use Rattle.std.specs.Float.{binary32}
use Rattle.std.specs.Float.Ieee.{add, sub}
use Rattle.numbers.specs.Constants.{zero_f}
use Rattle.numbers.specs.Reals.{ranged}
use Rattle.numbers.specs.Along.{along}
use Rattle.geometry.specs.declared.vector.Vector.{Vector}

abbrev pub vector : Float → Float → Float → Vector
vector a b c = record { x = a; y = b; z = c }

abbrev pub origin : Vector
origin = vector zero_f zero_f zero_f

abbrev pub uniform : Float → Vector
uniform a = vector a a a

-- each number is at most `limit` in size
abbrev pub ranged_vector : Float → Vector → Bool
ranged_vector limit v = ranged limit v.x && (ranged limit v.y && ranged limit v.z)

abbrev pub sum_of : Vector → Vector → Vector
sum_of a b = vector (add binary32 a.x b.x) (add binary32 a.y b.y) (add binary32 a.z b.z)

abbrev pub difference_of : Vector → Vector → Vector
difference_of a b = vector (sub binary32 a.x b.x) (sub binary32 a.y b.y) (sub binary32 a.z b.z)

-- the place at a fraction of the way from one place to another
abbrev pub along_of : Vector → Vector → Float → Vector
along_of s e t = vector (along binary32 s.x e.x t) (along binary32 s.y e.y t) (along binary32 s.z e.z t)
