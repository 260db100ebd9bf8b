use Rattle.std.proofs.Common.{arith}
use Rattle.std.proofs.lemmas.Grind.{common_steps}
use Rattle.slots.specs.Store.{state}
use Rattle.rules.proofs.Decided.{decided}
use Rattle.rules.proofs.bench.Bench.stores_hold.Goals as goal

pub returns-then-bodies_hold-clause-decides : goal.returns-then-bodies_hold-clause-decides
returns-then-bodies_hold-clause-decides g c =
    decided (g.H.Host.answers c.args.self.now.host.now) (state c.args.bodies_header.now c.args.self.now.bodies.now)
    (state c.args.colliders_header.now c.args.self.now.colliders.now) _ (grind (arith, common_steps))

pub returns-else-bodies_hold-clause-decides : goal.returns-else-bodies_hold-clause-decides
returns-else-bodies_hold-clause-decides g c =
    decided (g.H.Host.answers c.args.self.now.host.now) (state c.args.bodies_header.now c.args.self.now.bodies.now)
    (state c.args.colliders_header.now c.args.self.now.colliders.now) _ (grind (arith, common_steps))
