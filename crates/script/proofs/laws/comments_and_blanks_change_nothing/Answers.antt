use Rattle.script.proofs.Ignored.{ignored}
use Rattle.script.proofs.laws.comments_and_blanks_change_nothing.Goals as goal

pub returns : goal.returns
returns c = ignored
