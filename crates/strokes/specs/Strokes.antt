-- When a box that moves along a straight stroke meets one that stands still. Assumes nothing.
use Rattle.std.specs.Prelude.{Bool, cond, ◌&&◌, ◌||◌, Some, None, Option, Float}
use Rattle.std.specs.Float.{binary32}
use Rattle.std.specs.Float.Ieee.{sub, div, lt, le}
use Rattle.geometry.specs.declared.vector.Vector.{Vector}
use Rattle.geometry.specs.declared.aabb.Aabb.{Aabb}
use Rattle.numbers.specs.Constants.{zero_f, one_f}
use Rattle.numbers.specs.Picks.{lesser_of, greater_of}
use Rattle.outcomes.specs.declared.cast_outcome.CastOutcome.{CastOutcome}
use Rattle.outcomes.specs.declared.cast_outcome.CastOutcome.TheVariants.{Hit, Overlapped, Separated}
use Rattle.outcomes.specs.declared.pair_kind.PairKind.{PairKind}
use Rattle.outcomes.specs.declared.pair_kind.PairKind.TheVariants.{Solid, Pseudo}
use Rattle.strokes.specs.declared.Crossing.{Crossing}

abbrev pub cross : Float → Float → Crossing
cross i o = record { enter = i; leave = o }

abbrev pub crossing_of : Float → Float → Float → Option Crossing
crossing_of a b d =
    cond (lt zero_f d) (Some (cross (div binary32 a d) (div binary32 b d)))
    (cond (lt d zero_f) (Some (cross (div binary32 b d) (div binary32 a d)))
    (cond (le a zero_f && le zero_f b) (Some (cross zero_f one_f)) None))

abbrev pub entry : Crossing → Crossing → Crossing → Float
entry x y z = greater_of (greater_of (greater_of zero_f x.enter) y.enter) z.enter

abbrev pub too_late : Float → Crossing → Crossing → Crossing → Bool
too_late t x y z = lt x.leave t || (lt y.leave t || (lt z.leave t || lt one_f t))

abbrev pub shared_time : Crossing → Crossing → Crossing → Option Float
shared_time x y z = cond (too_late (entry x y z) x y z) None (Some (entry x y z))

abbrev pub joined : Option Crossing → Option Crossing → Option Crossing → Option Float
joined None y z = None
joined (Some x) None z = None
joined (Some x) (Some y) None = None
joined (Some x) (Some y) (Some z) = shared_time x y z

-- the crossing of one axis: the fast box's ends, the target's ends and the stroke
abbrev pub axis : Float → Float → Float → Float → Float → Option Crossing
axis low high least greatest d = crossing_of (sub binary32 least high) (sub binary32 greatest low) d

abbrev pub meeting_of : Aabb → Aabb → Vector → Option Float
meeting_of f t d =
    joined
    (axis f.mins.x f.maxs.x t.mins.x t.maxs.x d.x)
    (axis f.mins.y f.maxs.y t.mins.y t.maxs.y d.y)
    (axis f.mins.z f.maxs.z t.mins.z t.maxs.z d.z)

abbrev pub touched : Float → CastOutcome
touched t = cond (lt zero_f t) (Hit t) (Overlapped t)

abbrev pub answered : Option Float → Float → CastOutcome
answered None c = Separated c
answered (Some t) c = cond (lt c t) (Separated c) (touched t)

abbrev pub answered_if_met : Option Float → Float → Option CastOutcome
answered_if_met None c = None
answered_if_met (Some t) c = cond (lt c t) None (Some (touched t))

-- a meeting that counts: for a solid pair not one at the start
abbrev pub counted_for : Option Float → PairKind → Option Float
counted_for None p = None
counted_for (Some t) Solid = cond (lt zero_f t) (Some t) None
counted_for (Some t) Pseudo = Some t

abbrev pub sooner_of : Option Float → Option Float → Option Float
sooner_of None o = o
sooner_of (Some a) None = Some a
sooner_of (Some a) (Some b) = Some (lesser_of a b)
