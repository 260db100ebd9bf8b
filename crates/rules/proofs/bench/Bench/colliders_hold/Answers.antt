use Rattle.std.proofs.Common.{rules}
use Rattle.std.proofs.lemmas.Iterator.Consumers.{YieldsList-from_first}
use Rattle.std.proofs.lemmas.Iterator.Search.{all_from_yields_List}
use Rattle.slots.specs.Records.{records_in}
use Rattle.rules.specs.Rules.{collider_rule}
use Rattle.rules.proofs.bench.Bench.colliders_hold.Goals as goal

pub returns : goal.returns
returns g c =
    let a = g.H.Host.answers c.args.self.now.host.now in
    let bs = c.args.self.now.bodies.now in
    all_from_yields_List (λ r. collider_rule a bs r.0 r.1) _ _ c.all.result c.all.ensures.ran
    (YieldsList-from_first (λ item. (item.0, item.1.now)) (λ rest. rest) (records_in c.args.self.now.colliders.now) c.live_records-colliders.ensures)
    (λ x b q k. search rules)
