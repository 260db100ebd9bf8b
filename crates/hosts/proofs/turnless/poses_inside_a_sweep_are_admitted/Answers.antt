use Rattle.hosts.proofs.Insides.{inside_a_sweep}
use Rattle.hosts.proofs.turnless.poses_inside_a_sweep_are_admitted.Goals as goal

pub returns : goal.returns
returns c = inside_a_sweep
