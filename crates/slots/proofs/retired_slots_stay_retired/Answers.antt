use Rattle.slots.proofs.Lasting.{retires}
use Rattle.slots.proofs.retired_slots_stay_retired.Goals as goal

pub returns : goal.returns
returns g c = retires
