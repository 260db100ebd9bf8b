-- The kinds of bodies and shapes, and the numbers that stand for them outside. Assumes nothing.
use Rattle.std.specs.Prelude.{◌≡◌, ℕ, Bool, true, false, cond, Some, None, Option, Result, ◌==◌}
use Rattle.std.specs.Option.{ok_or}
use Rattle.geometry.specs.declared.unknown_number.UnknownNumber.{UnknownNumber}
use Rattle.geometry.specs.declared.rigid_body_type.RigidBodyType.{RigidBodyType}
use Rattle.geometry.specs.declared.rigid_body_type.RigidBodyType.TheVariants.{Dynamic, Fixed, KinematicPositionBased, KinematicVelocityBased}
use Rattle.geometry.specs.declared.shape_kind.ShapeKind.{ShapeKind}
use Rattle.geometry.specs.declared.shape_kind.ShapeKind.TheVariants.{Proxy, Compound, TriMesh, Polyline, HeightField, Voxels, Other}
use Rattle.geometry.specs.Groups.{mode_number, mode_of}

abbrev pub body_number : RigidBodyType → ℕ
body_number Dynamic = 0
body_number Fixed = 1
body_number KinematicPositionBased = 2
body_number KinematicVelocityBased = 3

abbrev pub body_type_of : ℕ → Option RigidBodyType
body_type_of n =
    cond (n == 0) (Some Dynamic)
    (cond (n == 1) (Some Fixed)
    (cond (n == 2) (Some KinematicPositionBased)
    (cond (n == 3) (Some KinematicVelocityBased) None)))

abbrev pub shape_number : ShapeKind → ℕ
shape_number Proxy = 0
shape_number Compound = 1
shape_number TriMesh = 2
shape_number Polyline = 3
shape_number HeightField = 4
shape_number Voxels = 5
shape_number Other = 6

abbrev pub shape_kind_of : ℕ → Option ShapeKind
shape_kind_of n =
    cond (n == 0) (Some Proxy)
    (cond (n == 1) (Some Compound)
    (cond (n == 2) (Some TriMesh)
    (cond (n == 3) (Some Polyline)
    (cond (n == 4) (Some HeightField)
    (cond (n == 5) (Some Voxels)
    (cond (n == 6) (Some Other) None))))))

-- the kind that a number stands for, or that it stands for none
abbrev pub kind_or_unknown : {K : Type 0} → (ℕ → Option K) → ℕ → Result K UnknownNumber
kind_or_unknown kind_of n = ok_or (kind_of n) (record { 0 = n })

-- a target of this kind takes composite casts
abbrev pub is_composite : ShapeKind → Bool
is_composite Proxy = false
is_composite Compound = true
is_composite TriMesh = true
is_composite Polyline = true
is_composite HeightField = true
is_composite Voxels = false
is_composite Other = false

-- a shape of this kind is never swept as the moving one
abbrev pub never_swept : ShapeKind → Bool
never_swept Proxy = false
never_swept Compound = false
never_swept TriMesh = true
never_swept Polyline = true
never_swept HeightField = true
never_swept Voxels = true
never_swept Other = false

-- each has a number of its own that gives it back, and a number that gives one is its own
pub record Numbers {K : Type 0} (number_of : K → ℕ) (kind_of : ℕ → Option K) : Type 0 where
  pub gives_back : (k : K) → kind_of (number_of k) ≡ Some k
  pub its_own : (n : ℕ) (k : K) → kind_of n ≡ Some k → number_of k ≡ n

pub record Numbered : Type 0 where
  pub bodies : Numbers body_number body_type_of
  pub shapes : Numbers shape_number shape_kind_of
  pub modes : Numbers mode_number mode_of
