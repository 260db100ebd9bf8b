use Rattle.slots.proofs.Lasting.{ends}
use Rattle.slots.proofs.dead_handles_stay_dead.Goals as goal

pub returns : goal.returns
returns g c = ends
