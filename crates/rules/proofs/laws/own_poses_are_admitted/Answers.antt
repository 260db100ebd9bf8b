use Rattle.rules.proofs.Follows.{own_poses}
use Rattle.rules.proofs.laws.own_poses_are_admitted.Goals as goal

pub returns : goal.returns
returns c = own_poses
