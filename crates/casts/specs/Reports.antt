-- What a pair takes of a check's casts. Assumes nothing.
use Rattle.std.specs.Prelude.{List, Some, None, Option, Float}
use Rattle.std.specs.List.{filter_map}
use Rattle.numbers.specs.Constants.{one_f}
use Rattle.numbers.specs.Least.{least}
use Rattle.outcomes.specs.declared.pair_kind.PairKind.{PairKind}
use Rattle.outcomes.specs.declared.cast_outcome.CastOutcome.{CastOutcome}
use Rattle.outcomes.specs.Impacts.{taken_of, turned_of}
use Rattle.casts.specs.declared.report.Casts.{Casts}
use Rattle.casts.specs.declared.report.Casts.TheVariants.{NeverSwept, Turning, Pieces}

-- what a pair takes of a piece's cast, at the cap 1: its impact
abbrev pub took_of : PairKind → Option CastOutcome → Option Float
took_of p None = None
took_of p (Some o) = taken_of p o one_f

-- the least of the impacts that the pieces' casts have
abbrev pub soonest_of : PairKind → List (Option CastOutcome) → Option Float
soonest_of p os = least (filter_map (took_of p) os)

-- what a pair takes of all casts, for one time unit and at the cap 1
abbrev pub impact_of : PairKind → Casts → Option Float
impact_of p NeverSwept = None
impact_of p (Turning o) = turned_of p o one_f one_f
impact_of p (Pieces os) = soonest_of p os.items
