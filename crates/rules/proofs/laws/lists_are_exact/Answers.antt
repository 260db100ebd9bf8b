use Rattle.rules.proofs.Follows.{exact_lists}
use Rattle.rules.proofs.laws.lists_are_exact.Goals as goal

pub returns : goal.returns
returns c = exact_lists
