-- The recorded host's answers. Assumes nothing.
use Rattle.std.specs.Prelude.{ℕ, Bool, true, false, cond, not, ◌&&◌, List, [], length, find, Some, None, Option, Ok, ◌==◌, Float}
use Rattle.std.specs.Float.Ieee.{fits, le, lt}
use Rattle.std.specs.Float.{is_sign_negative, binary32}
use Rattle.std.specs.List.{slice_get}
use Rattle.numbers.specs.Constants.{zero_f, one_f, million}
use Rattle.geometry.specs.declared.pose.Pose.{Pose}
use Rattle.geometry.specs.declared.aabb.Aabb.{Aabb}
use Rattle.geometry.specs.declared.shape_kind.ShapeKind.{ShapeKind}
use Rattle.geometry.specs.Kinds.{shape_number}
use Rattle.geometry.specs.Vectors.{origin, ranged_vector}
use Rattle.geometry.specs.Poses.{is_identity, ranged_pose}
use Rattle.geometry.specs.Boxes.{around_of, moved_by}
use Rattle.outcomes.specs.declared.cast_outcome.CastOutcome.{CastOutcome}
use Rattle.outcomes.specs.declared.cast_outcome.CastOutcome.TheVariants.{Separated}
use Rattle.outcomes.specs.Outcomes.{Overlap, TurningOutcome, fraction_of}
use Rattle.hosts.specs.declared.questions.Child.{Child}
use Rattle.hosts.specs.Hosts.{Answers}
use Rattle.hosts.specs.Children.{part_of, passing}
use Rattle.hosts.specs.Turnless.{admitted, product_of, inverse_of, relative_of, pose_along}
use Rattle.recorded.specs.declared.rows.Listed.{Listed}
use Rattle.recorded.specs.declared.rows.Row.{Row}

-- ---- shapes

-- each number is at most a million in size, and no least number is above the greatest of its axis
abbrev pub ranged_box : Aabb → Bool
ranged_box b =
    ranged_vector million b.mins
    && (ranged_vector million b.maxs
    && (le b.mins.x b.maxs.x
    && (le b.mins.y b.maxs.y
    && le b.mins.z b.maxs.z)))

abbrev pub only_ranged : Option Listed → Option Listed
only_ranged None = None
only_ranged (Some l) = cond (ranged_box l.aabb) (Some l) None

-- the entry of a shape number, if its box is in range
abbrev pub entry_of : List Listed → ℕ → Option Listed
entry_of ss i = only_ranged (slice_get ss i)

abbrev pub is_compound : ShapeKind → Bool
is_compound k = shape_number k == 1

-- an entry that may be a child: in range and no Compound
abbrev pub is_piece : Option Listed → Bool
is_piece None = false
is_piece (Some l) = not (is_compound l.kind)

-- such a child, at a pose in range that does not turn
abbrev pub child_fits : List Listed → Child → Bool
child_fits ss c = is_piece (entry_of ss c.shape) && (ranged_pose million c.pose && is_identity c.pose.rotation)

-- the children that are listed of a Compound, and of no other shape
abbrev pub listed_of : List Child → Option Listed → List Child
listed_of cs None = []
listed_of cs (Some l) = cond (is_compound l.kind) (part_of cs l.first l.count) []

-- the same of a Compound that is known: its children all fit
abbrev pub parts_of : List Listed → List Child → Option Listed → List Child
parts_of ss cs o = passing (child_fits ss) (listed_of cs o)

abbrev pub children_of : List Listed → List Child → ℕ → List Child
children_of ss cs i = parts_of ss cs (entry_of ss i)

-- an entry and its children: a Compound without children is absent
abbrev pub known_of : Option Listed → List Child → Option Listed
known_of None l = None
known_of (Some s) l = cond (is_compound s.kind && length l == 0) None (Some s)

-- the shape of a number, if it is known
abbrev pub shape_of : List Listed → List Child → ℕ → Option Listed
shape_of ss cs i = known_of (entry_of ss i) (children_of ss cs i)

abbrev pub kind_of : Option Listed → Option ShapeKind
kind_of None = None
kind_of (Some l) = Some l.kind

abbrev pub box_at : Option Listed → Pose → Aabb
box_at None p = around_of p.translation origin
box_at (Some l) p = moved_by l.aabb p.translation

-- ---- rows

-- a value of single precision, which every number of a program is, from 0 to a limit and not minus zero
abbrev pub from_zero : Float → Float → Bool
from_zero limit x = fits binary32 x && (le zero_f x && (le x limit && not (is_sign_negative x)))

abbrev pub time_fits : Option Float → Bool
time_fits None = true
time_fits (Some t) = from_zero million t

abbrev pub row_fits : Row → Bool
row_fits r = from_zero one_f (fraction_of r.cast) && time_fits r.time

-- a row in range with both shape numbers
abbrev pub counts : Row → ℕ → ℕ → Bool
counts r f t = r.fast == f && (r.target == t && row_fits r)

-- the first such row
abbrev pub row_of : List Row → ℕ → ℕ → Option Row
row_of rs f t = find (λ r. counts r f t) rs

-- above the cap a cast is separated at it
abbrev pub at_cap : CastOutcome → Float → CastOutcome
at_cap o c = cond (lt c (fraction_of o)) (Separated c) o

-- what the row that counts answers, if there is one
abbrev pub cast_of : Option Row → Float → CastOutcome
cast_of None c = Separated c
cast_of (Some r) c = at_cap r.cast c

-- a time that is missing is no meeting
abbrev pub time_of : Option Row → TurningOutcome
time_of None = Ok None
time_of (Some r) = Ok r.time

-- an overlap that is missing is none
abbrev pub overlap_from : Option Bool → Overlap
overlap_from None = Ok false
overlap_from (Some b) = Ok b

abbrev pub overlap_of : Option Row → Overlap
overlap_of None = Ok false
overlap_of (Some r) = overlap_from r.overlap

-- ---- all of it

abbrev pub recorded_answers : List Listed → List Child → List Row → Answers
recorded_answers ss cs rs = record {
  kind = λ s. kind_of (shape_of ss cs s);
  children = λ s. children_of ss cs s;
  admits = admitted;
  product = product_of;
  inverse_point = inverse_of;
  relative_pose = relative_of;
  aabb = λ s p. box_at (shape_of ss cs s) p;
  pose_at = pose_along;
  proxy_cast = λ q c. cast_of (row_of rs q.fast q.target) c;
  composite_cast = λ q p c. Some (cast_of (row_of rs q.fast q.target) c);
  turning_cast = λ q p. time_of (row_of rs q.fast q.target);
  overlap = λ p s t. overlap_of (row_of rs s t);
}
