use Rattle.std.proofs.Common.{rules}
use Rattle.rules.proofs.Poses.{poses_decided}
use Rattle.rules.proofs.bench.Bench.admits_all.Goals as goal

pub returns-then-admits_bodies-clause-decides : goal.returns-then-admits_bodies-clause-decides
returns-then-admits_bodies-clause-decides g c =
    poses_decided (g.H.Host.answers c.args.self.now.host.now) c.args.self.now.bodies.now c.args.self.now.colliders.now _ (search rules)

pub returns-else-admits_bodies-clause-decides : goal.returns-else-admits_bodies-clause-decides
returns-else-admits_bodies-clause-decides g c =
    poses_decided (g.H.Host.answers c.args.self.now.host.now) c.args.self.now.bodies.now c.args.self.now.colliders.now _ (search rules)
