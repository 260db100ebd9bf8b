use Rattle.records.proofs.Values.{exact}
use Rattle.records.proofs.laws.equality_is_exact.Goals as goal

pub returns : goal.returns
returns c = exact
