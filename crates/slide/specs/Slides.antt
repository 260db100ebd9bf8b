-- The slide host's answers. Assumes nothing.
use Rattle.std.specs.Prelude.{ℕ, Bool, cond, ◌&&◌, List, [], ◌∷◌, length, Some, None, Option, Ok, Err, fold, nat_lt, is_some, option_map, Float}
use Rattle.std.specs.List.{slice_get, list_any}
use Rattle.std.specs.Float.Ieee.{le}
use Rattle.geometry.specs.declared.vector.Vector.{Vector}
use Rattle.geometry.specs.declared.pose.Pose.{Pose}
use Rattle.geometry.specs.declared.aabb.Aabb.{Aabb}
use Rattle.geometry.specs.declared.shape_kind.ShapeKind.{ShapeKind}
use Rattle.geometry.specs.declared.shape_kind.ShapeKind.TheVariants.{Proxy, Compound}
use Rattle.geometry.specs.Vectors.{origin, ranged_vector, sum_of}
use Rattle.geometry.specs.Poses.{is_identity, ranged_pose, placed}
use Rattle.geometry.specs.Boxes.{around_of, merged_of, meet_of}
use Rattle.numbers.specs.Constants.{zero_f, million}
use Rattle.outcomes.specs.declared.pair_kind.PairKind.{PairKind}
use Rattle.hosts.specs.declared.questions.Child.{Child}
use Rattle.hosts.specs.declared.questions.CastQuery.{CastQuery}
use Rattle.hosts.specs.Hosts.{Answers}
use Rattle.hosts.specs.Children.{part_of, passing}
use Rattle.hosts.specs.Turnless.{admitted, product_of, inverse_of, relative_of, pose_along, stroke_of}
use Rattle.strokes.specs.Strokes.{meeting_of, answered, answered_if_met, counted_for, sooner_of}
use Rattle.slide.specs.declared.shapes.Shape.{Shape}
use Rattle.slide.specs.declared.shapes.Shape.TheVariants.{Cuboid, Group}

-- ---- shapes

-- half sides from 0 to a million
abbrev pub sided : Vector → Bool
sided v = ranged_vector million v && (le zero_f v.x && (le zero_f v.y && le zero_f v.z))

abbrev pub half_of : Option Shape → Option Vector
half_of None = None
half_of (Some (Cuboid v)) = cond (sided v) (Some v) None
half_of (Some (Group f n)) = None

-- the half sides of a box that is known
abbrev pub half_sides : List Shape → ℕ → Option Vector
half_sides ss i = half_of (slice_get ss i)

-- such a box, at a pose
abbrev pub cuboid_at : List Shape → ℕ → Pose → Option Aabb
cuboid_at ss i p = option_map (around_of p.translation) (half_sides ss i)

-- a child is a known box at a pose in range that does not turn
abbrev pub fits_at : Option Vector → Pose → Bool
fits_at o p = is_some o && (ranged_pose million p && is_identity p.rotation)

abbrev pub child_fits : List Shape → Child → Bool
child_fits ss c = fits_at (half_sides ss c.shape) c.pose

-- the children that are listed of a Compound, and of no other shape
abbrev pub listed_of : List Child → Option Shape → List Child
listed_of cs None = []
listed_of cs (Some (Cuboid v)) = []
listed_of cs (Some (Group f n)) = part_of cs f n

-- the same of a Compound that is known: its children all fit
abbrev pub parts_of : List Shape → List Child → Option Shape → List Child
parts_of ss cs s = passing (child_fits ss) (listed_of cs s)

abbrev pub children_of : List Shape → List Child → ℕ → List Child
children_of ss cs i = parts_of ss cs (slice_get ss i)

abbrev pub kind_from : Option Vector → List Child → Option ShapeKind
kind_from (Some v) l = Some Proxy
kind_from None l = cond (nat_lt 0 (length l)) (Some Compound) None

-- ---- boxes

abbrev pub half_or : Option Vector → Vector
half_or None = origin
half_or (Some v) = v

abbrev pub child_box : List Shape → Pose → Child → Aabb
child_box ss p c = around_of (sum_of p.translation c.pose.translation) (half_or (half_sides ss c.shape))

-- the union of the boxes of children, if there are any
abbrev pub union_of : List Shape → Pose → List Child → Option Aabb
union_of ss p [] = None
union_of ss p (c ∷ cs) = Some (fold (λ (u : Aabb) d. merged_of u (child_box ss p d)) (child_box ss p c) cs)

abbrev pub box_or : Option Aabb → Pose → Aabb
box_or None p = around_of p.translation origin
box_or (Some b) p = b

abbrev pub box_from : List Shape → List Child → Pose → Option Aabb → Aabb
box_from ss l p (Some b) = b
box_from ss l p None = box_or (union_of ss p l) p

-- ---- casts

abbrev pub met_boxes : CastQuery → Option Aabb → Option Aabb → Option Float
met_boxes q None b = None
met_boxes q (Some a) None = None
met_boxes q (Some a) (Some b) = meeting_of a b (stroke_of q.sweep)

-- the first meeting with a child, of those that count for the pair
abbrev pub first_meeting : List Shape → Aabb → CastQuery → PairKind → Option Float → List Child → Option Float
first_meeting ss f q p best l = fold (λ (o : Option Float) c. sooner_of o (counted_for (meeting_of f (child_box ss q.pose c) (stroke_of q.sweep)) p)) best l

abbrev pub met_children : List Shape → List Child → CastQuery → PairKind → Option Aabb → Option Float
met_children ss l q p None = None
met_children ss l q p (Some f) = first_meeting ss f q p None l

-- ---- overlap

abbrev pub meets_child : List Shape → Pose → Aabb → List Child → Bool
meets_child ss p b l = list_any (λ c. meet_of b (child_box ss p c)) l

abbrev pub meets_from : List Shape → List Child → Pose → Aabb → Option Aabb → Bool
meets_from ss l p b (Some a) = meet_of b a
meets_from ss l p b None = meets_child ss p b l

-- a box meets a shape at a pose
abbrev pub meets_shape : List Shape → List Child → Aabb → ℕ → Pose → Bool
meets_shape ss cs b i p = meets_from ss (children_of ss cs i) p b (cuboid_at ss i p)

abbrev pub any_meets : List Shape → List Child → ℕ → Pose → List Child → Bool
any_meets ss cs i p l = list_any (λ c. meets_shape ss cs (child_box ss (placed origin) c) i p) l

abbrev pub overlap_from : List Shape → List Child → ℕ → Pose → List Child → Option Aabb → Bool
overlap_from ss cs i p l (Some b) = meets_shape ss cs b i p
overlap_from ss cs i p l None = any_meets ss cs i p l

-- ---- all of it

abbrev pub slide_answers : List Shape → List Child → Answers
slide_answers ss cs = record {
  kind = λ s. kind_from (half_sides ss s) (children_of ss cs s);
  children = λ s. children_of ss cs s;
  admits = admitted;
  product = product_of;
  inverse_point = inverse_of;
  relative_pose = relative_of;
  aabb = λ s p. box_from ss (children_of ss cs s) p (cuboid_at ss s p);
  pose_at = pose_along;
  proxy_cast = λ q c. answered (met_boxes q (cuboid_at ss q.fast q.sweep.start) (cuboid_at ss q.target q.pose)) c;
  composite_cast = λ q p c. answered_if_met (met_children ss (children_of ss cs q.target) q p (cuboid_at ss q.fast q.sweep.start)) c;
  turning_cast = λ q p. Err (record {});
  overlap = λ p s t. Ok (overlap_from ss cs t p (children_of ss cs s) (cuboid_at ss s (placed origin)));
}
