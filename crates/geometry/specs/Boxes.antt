-- Boxes with a least and a greatest number on each axis. Assumes nothing.
use Rattle.std.specs.Prelude.{Bool, ◌&&◌, T, Float}
use Rattle.std.specs.Float.Ieee.{le}
use Rattle.std.specs.Float.Ieee.Scale.{finite}
use Rattle.numbers.specs.Picks.{lesser_of, greater_of}
use Rattle.geometry.specs.declared.vector.Vector.{Vector}
use Rattle.geometry.specs.declared.aabb.Aabb.{Aabb}
use Rattle.geometry.specs.Vectors.{vector, uniform, sum_of, difference_of}

abbrev pub box : Vector → Vector → Aabb
box l g = record { mins = l; maxs = g }

abbrev pub around_of : Vector → Vector → Aabb
around_of centre half = box (difference_of centre half) (sum_of centre half)

abbrev pub moved_by : Aabb → Vector → Aabb
moved_by b place = box (sum_of place b.mins) (sum_of place b.maxs)

-- the least numbers lowered, the greatest raised
abbrev pub loosened_by : Aabb → Float → Aabb
loosened_by b by = box (difference_of b.mins (uniform by)) (sum_of b.maxs (uniform by))

-- the least box that holds both
abbrev pub merged_of : Aabb → Aabb → Aabb
merged_of a b =
    box
    (vector (lesser_of a.mins.x b.mins.x) (lesser_of a.mins.y b.mins.y) (lesser_of a.mins.z b.mins.z))
    (vector (greater_of a.maxs.x b.maxs.x) (greater_of a.maxs.y b.maxs.y) (greater_of a.maxs.z b.maxs.z))

-- on no axis one's least exceeds the other's greatest
abbrev pub meet_of : Aabb → Aabb → Bool
meet_of a b =
    le a.mins.x b.maxs.x
    && (le b.mins.x a.maxs.x
    && (le a.mins.y b.maxs.y
    && (le b.mins.y a.maxs.y
    && (le a.mins.z b.maxs.z
    && le b.mins.z a.maxs.z))))

abbrev pub finite_vector : Vector → Bool
finite_vector v = finite v.x && (finite v.y && finite v.z)

-- each of its six numbers is finite
abbrev pub FiniteBox : Aabb → Type 0
FiniteBox b = T (finite_vector b.mins) × T (finite_vector b.maxs)
