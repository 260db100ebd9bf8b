use Rattle.texts.proofs.Nearest.{rounded_once}
use Rattle.texts.proofs.laws.decimals_are_rounded_once.Goals as goal

pub returns : goal.returns
returns c = rounded_once
