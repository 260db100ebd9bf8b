use Rattle.rules.proofs.Follows.{empty_stores}
use Rattle.rules.proofs.laws.empty_stores_hold.Goals as goal

pub returns : goal.returns
returns c = empty_stores
