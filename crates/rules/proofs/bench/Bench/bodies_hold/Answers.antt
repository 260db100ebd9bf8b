use Rattle.std.proofs.Common.{rules}
use Rattle.std.proofs.lemmas.Iterator.Consumers.{YieldsList-from_first}
use Rattle.std.proofs.lemmas.Iterator.Search.{all_from_yields_List}
use Rattle.slots.specs.Records.{records_in}
use Rattle.rules.specs.Rules.{body_rule}
use Rattle.rules.proofs.bench.Bench.bodies_hold.Goals as goal

pub returns : goal.returns
returns g c =
    let cs = c.args.self.now.colliders.now in
    all_from_yields_List (λ r. body_rule cs r.0 r.1) _ _ c.all.result c.all.ensures.ran
    (YieldsList-from_first (λ item. (item.0, item.1.now)) (λ rest. rest) (records_in c.args.self.now.bodies.now) c.live_records-bodies.ensures)
    (λ x b q k. search rules)
