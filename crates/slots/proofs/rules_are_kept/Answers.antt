use Rattle.slots.proofs.Rules.{kept}
use Rattle.slots.proofs.rules_are_kept.Goals as goal

pub returns : goal.returns
returns g c = kept
