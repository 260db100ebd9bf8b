-- The soonest of the casts, found one after the other, is the least of their impacts. Assumes nothing.
use Rattle.std.proofs.Common.{◌≡◌, List, [], ◌∷◌, Some, None, Option, refl, ◌∙◌}
use lib.Ieee.{Float, lt}
use Rattle.std.specs.List.{best_of, fold, cons_option, filter_map}
use Rattle.numbers.specs.Least.{least}
use Rattle.outcomes.specs.declared.pair_kind.PairKind.{PairKind}
use Rattle.outcomes.specs.declared.cast_outcome.CastOutcome.{CastOutcome}
use Rattle.strokes.specs.Strokes.{sooner_of}
use Rattle.casts.specs.Reports.{took_of, soonest_of}

-- the least of a list, and what was there before it
abbrev least_from : Option Float → List Float → Option Float
least_from None is = least is
least_from (Some b) is = Some (best_of lt b is)

-- an impact more: the sooner one stays
sooner_first : (best next : Option Float) (is : List Float) → least_from (sooner_of best next) is ≡ least_from best (cons_option next is)
sooner_first None None is = refl
sooner_first None (Some i) is = refl
sooner_first (Some b) None is = refl
sooner_first (Some b) (Some i) is = refl

from_best : (o : Option Float) → o ≡ least_from o []
from_best None = refl
from_best (Some b) = refl

soonest_from : (p : PairKind) (best : Option Float) (os : List (Option CastOutcome)) → fold (λ (b : Option Float) (o : Option CastOutcome). sooner_of b (took_of p o)) best os ≡ least_from best (filter_map (took_of p) os)
soonest_from p best [] = from_best best
soonest_from p best (o ∷ os) = soonest_from p (sooner_of best (took_of p o)) os ∙ sooner_first best (took_of p o) (filter_map (took_of p) os)

pub soonest_is : (p : PairKind) (os : List (Option CastOutcome)) → fold (λ (b : Option Float) (o : Option CastOutcome). sooner_of b (took_of p o)) None os ≡ soonest_of p os
soonest_is p os = soonest_from p None os
