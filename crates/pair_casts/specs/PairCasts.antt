-- What a pair takes of its casts at a cap, by the kinds of both shapes. Assumes nothing.
use Rattle.std.specs.Prelude.{ℕ, cond, Some, None, Option, Float}
use Rattle.std.specs.Float.Ieee.{eq}
use Rattle.numbers.specs.Constants.{zero_f}
use Rattle.geometry.specs.declared.shape_kind.ShapeKind.{ShapeKind}
use Rattle.outcomes.specs.declared.pair_kind.PairKind.{PairKind}
use Rattle.outcomes.specs.declared.cast_outcome.CastOutcome.{CastOutcome}
use Rattle.outcomes.specs.Impacts.{taken_of, turned_of}
use Rattle.hosts.specs.declared.questions.CastQuery.{CastQuery}
use Rattle.hosts.specs.declared.questions.Motion.{Motion}
use Rattle.hosts.specs.declared.questions.TurningQuery.{TurningQuery}
use Rattle.hosts.specs.Hosts.{Answers}
use Rattle.search.specs.Searches.{sought}
use Rattle.casts.specs.declared.pieces.TargetKind.{TargetKind}
use Rattle.casts.specs.Pieces.{target_kind_of, is_turning, cast_at}
use Rattle.pair_casts.specs.declared.fast_shape.FastSubShape.{FastSubShape}
use Rattle.pair_casts.specs.declared.fast_shape.FastShapeKind.{FastShapeKind}
use Rattle.pair_casts.specs.declared.fast_shape.FastShapeKind.TheVariants.{Convex, Compound, Nonlinear}
use Rattle.pair_casts.specs.declared.fast_shape.FastShape.{FastShape}
use Rattle.pair_casts.specs.declared.target.Step.{Step}
use Rattle.pair_casts.specs.declared.target.Target.{Target}

abbrev pub query_of : Target → Float → FastSubShape → CastQuery
query_of t slop q = record { fast = q.shape; sweep = q.sweep; target = t.shape; pose = t.pose; slop = slop }

abbrev pub taken_if : PairKind → Option CastOutcome → Float → Option Float
taken_if p None c = None
taken_if p (Some o) c = taken_of p o c

-- what the pair takes of one piece's cast
abbrev pub sub_shape_taken : Answers → Step → Target → TargetKind → FastSubShape → Float → Option Float
sub_shape_taken h s t k q c = taken_if t.pair (cast_at h (query_of t s.slop q) k t.pair c) c

abbrev pub turning_query : Step → Target → ℕ → Motion → TurningQuery
turning_query s t fast m = record { fast = fast; motion = m; target = t.shape; pose = t.pose; dt = s.dt }

-- what the pair takes of one turning cast of the whole shape, which is not asked for where dt is 0
abbrev pub turning_taken : Answers → Step → Target → ℕ → Motion → Float → Option Float
turning_taken h s t fast m c = cond (eq s.dt zero_f) None (turned_of t.pair (h.turning_cast (turning_query s t fast m) t.pair) s.dt c)

-- by pieces, with a cap that each accepted fraction tightens, or by one turning cast
abbrev pub taken_by : Answers → Step → Target → FastShape → TargetKind → FastShapeKind → Float → Option Float
taken_by h s t f k (Convex q) c = cond (is_turning k) (turning_taken h s t f.shape f.motion c) (sub_shape_taken h s t k q c)
taken_by h s t f k (Compound qs) c = cond (is_turning k) (turning_taken h s t f.shape f.motion c) (sought (sub_shape_taken h s t k) c None qs.items)
taken_by h s t f k Nonlinear c = turning_taken h s t f.shape f.motion c

-- a target that the host does not know is not cast at
abbrev pub taken_at : Answers → Step → Target → FastShape → Option ShapeKind → Float → Option Float
taken_at h s t f None c = None
taken_at h s t f (Some k) c = taken_by h s t f (target_kind_of k) f.kind c

abbrev pub pair_taken : Answers → Step → Target → FastShape → Float → Option Float
pair_taken h s t f c = taken_at h s t f (h.kind t.shape) c
