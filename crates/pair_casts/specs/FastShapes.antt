-- How a fast shape is swept: whole, piece by piece, as one that turns, or not at all. Assumes nothing.
use Rattle.std.specs.Prelude.{ℕ, cond, List, length, take, map, filter, Some, None, Option, ◌==◌}
use Rattle.geometry.specs.declared.vector.Vector.{Vector}
use Rattle.geometry.specs.declared.shape_kind.ShapeKind as Kinds
use Rattle.geometry.specs.declared.shape_kind.ShapeKind.{ShapeKind}
use Rattle.hosts.specs.declared.questions.Child.{Child}
use Rattle.hosts.specs.declared.questions.Motion.{Motion}
use Rattle.hosts.specs.declared.questions.Sweep.{Sweep}
use Rattle.hosts.specs.Hosts.{Answers}
use Rattle.casts.specs.Pieces.{is_proxy, child_sweep}
use Rattle.pair_casts.specs.declared.fast_shape.FastSubShape.{FastSubShape}
use Rattle.pair_casts.specs.declared.fast_shape.FastShapeKind.{FastShapeKind}
use Rattle.pair_casts.specs.declared.fast_shape.FastShapeKind.TheVariants.{Convex, Compound, Nonlinear}
use Rattle.pair_casts.specs.declared.fast_shape.FastShape.{FastShape}

abbrev pub sub_shape : ℕ → Sweep → FastSubShape
sub_shape s w = record { shape = s; sweep = w }

-- a child of a Compound as a piece, on its own way
abbrev pub piece : Answers → Sweep → Child → FastSubShape
piece h w c = sub_shape c.shape (child_sweep h w c)

-- the pieces of a Compound: the children that are proxies, in their order, of which the first 16 count
abbrev pub pieces : Answers → Sweep → List Child → List FastSubShape
pieces h w cs = take 16 (map (piece h w) (filter (λ c. is_proxy (h.kind c.shape)) cs))

-- ---- the fast shape

-- a Compound without a piece is not swept
abbrev pub compound_of : List FastSubShape → Option FastShapeKind
compound_of ps = cond (length ps == 0) None (Some (Compound (record { items = ps })))

-- meshes and their like are never swept, nor is what the host does not know
abbrev pub kind_of : Answers → ℕ → Sweep → Option ShapeKind → Option FastShapeKind
kind_of h s w None = None
kind_of h s w (Some Kinds.TheVariants.Proxy) = Some (Convex (sub_shape s w))
kind_of h s w (Some Kinds.TheVariants.Compound) = compound_of (pieces h w (h.children s))
kind_of h s w (Some Kinds.TheVariants.TriMesh) = None
kind_of h s w (Some Kinds.TheVariants.Polyline) = None
kind_of h s w (Some Kinds.TheVariants.HeightField) = None
kind_of h s w (Some Kinds.TheVariants.Voxels) = None
kind_of h s w (Some Kinds.TheVariants.Other) = Some Nonlinear

-- the start and the centre of the sweep, with the velocities
abbrev pub motion_of : Sweep → Vector → Vector → Motion
motion_of w l a = record { start = w.start; centre = w.centre; linear = l; angular = a }

abbrev pub shape_by : ℕ → Motion → Option FastShapeKind → Option FastShape
shape_by s m None = None
shape_by s m (Some k) = Some (record { shape = s; kind = k; motion = m })

abbrev pub fast_shape : Answers → ℕ → Sweep → Vector → Vector → Option FastShape
fast_shape h s w l a = shape_by s (motion_of w l a) (kind_of h s w (h.kind s))
