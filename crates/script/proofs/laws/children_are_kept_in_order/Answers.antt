use Rattle.script.proofs.Kept.{gathered}
use Rattle.script.proofs.laws.children_are_kept_in_order.Goals as goal

pub returns : goal.returns
returns c = gathered
