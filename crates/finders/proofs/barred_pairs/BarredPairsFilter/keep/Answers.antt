use Rattle.std.proofs.Common.{Bool, not, ap, rules, tests}
use Rattle.std.proofs.lemmas.Iterator.{YieldsList-from_slice, YieldsList-from_take}
use Rattle.std.proofs.lemmas.Iterator.Consumers.{YieldsList-at}
use Rattle.std.proofs.lemmas.Iterator.Search.{any_from_yields_List}
use Rattle.finders.specs.Filters.{bars}
use Rattle.finders.proofs.barred_pairs.BarredPairsFilter.keep.Goals as goal

pub returns : goal.returns
returns c =
    let say : Bool → Bool = not in
    ap say
    (any_from_yields_List (λ x. bars x c.args.first c.args.second) _ _ _ c.any.ensures.ran (YieldsList-from_take 64 (YieldsList-at c.take.ensures.source (YieldsList-from_slice c.args.self.now.pairs.now cc)) c.take.ensures.count)
    (λ x b q k. search (rules, tests)))
