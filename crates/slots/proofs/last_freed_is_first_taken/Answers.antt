use Rattle.slots.proofs.Stacks.{stacks}
use Rattle.slots.proofs.last_freed_is_first_taken.Goals as goal

pub returns : goal.returns
returns g c = stacks
