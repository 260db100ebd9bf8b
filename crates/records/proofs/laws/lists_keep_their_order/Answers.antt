use Rattle.records.proofs.Lawful.{lawful}
use Rattle.records.proofs.laws.lists_keep_their_order.Goals as goal

pub returns : goal.returns
returns c = lawful
