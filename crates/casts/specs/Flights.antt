-- A single check, what it asks, and why it is refused. Assumes nothing.
use Rattle.std.specs.Prelude.{ℕ, Bool, cond, ◌&&◌, Some, None, Ok, Err, Option, Result}
use Rattle.numbers.specs.Constants.{zero_f, one_f, million}
use Rattle.geometry.specs.declared.shape_kind.ShapeKind.{ShapeKind}
use Rattle.geometry.specs.Vectors.{origin, difference_of}
use Rattle.geometry.specs.Poses.{ranged_pose}
use Rattle.hosts.specs.declared.questions.Sweep.{Sweep}
use Rattle.hosts.specs.declared.questions.Motion.{Motion}
use Rattle.hosts.specs.declared.questions.CastQuery.{CastQuery}
use Rattle.hosts.specs.declared.questions.TurningQuery.{TurningQuery}
use Rattle.hosts.specs.Hosts.{Answers}
use Rattle.casts.specs.declared.flight.Flight.{Flight}
use Rattle.casts.specs.declared.refusal.CastRefusal.{CastRefusal}
use Rattle.casts.specs.declared.refusal.CastRefusal.TheVariants.{NumberOutOfRange, PoseNotAdmitted, ShapeUnknown}

abbrev pub ranged_flight : Flight → Bool
ranged_flight f = ranged_pose million f.start && (ranged_pose million f.end && ranged_pose million f.pose)

abbrev pub admitted_flight : Answers → Flight → Bool
admitted_flight h f = h.admits f.start && (h.admits f.end && h.admits f.pose)

abbrev pub sweep_of : Flight → Sweep
sweep_of f = record { start = f.start; end = f.end; centre = origin }

-- the stroke as the velocity, for one time unit, without a turn
abbrev pub motion_of : Flight → Motion
motion_of f = record { start = f.start; centre = origin; linear = difference_of f.end.translation f.start.translation; angular = origin }

-- the question for one piece, which sweeps along its own way
abbrev pub query_of : Flight → ℕ → Sweep → CastQuery
query_of f s w = record { fast = s; sweep = w; target = f.target; pose = f.pose; slop = zero_f }

abbrev pub turning_query : Flight → TurningQuery
turning_query f = record { fast = f.fast; motion = motion_of f; target = f.target; pose = f.pose; dt = one_f }

abbrev pub both_known : Option ShapeKind → Option ShapeKind → Result (ShapeKind × ShapeKind) CastRefusal
both_known None b = Err ShapeUnknown
both_known (Some a) None = Err ShapeUnknown
both_known (Some a) (Some b) = Ok (a, b)

-- the kinds of both shapes, or the first refusal: numbers, then poses, then shapes
abbrev pub checked : Answers → Flight → Result (ShapeKind × ShapeKind) CastRefusal
checked h f =
    cond (ranged_flight f)
    (cond (admitted_flight h f) (both_known (h.kind f.fast) (h.kind f.target)) (Err PoseNotAdmitted))
    (Err NumberOutOfRange)
