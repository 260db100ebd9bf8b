use Rattle.script.proofs.Sayings.{sayings}
use Rattle.script.proofs.laws.lines_say_what_they_say.Goals as goal

pub returns : goal.returns
returns c = sayings
