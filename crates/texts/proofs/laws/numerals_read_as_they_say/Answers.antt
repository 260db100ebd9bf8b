use Rattle.texts.proofs.Numerals.{numerals}
use Rattle.texts.proofs.laws.numerals_read_as_they_say.Goals as goal

pub returns : goal.returns
returns c = numerals
