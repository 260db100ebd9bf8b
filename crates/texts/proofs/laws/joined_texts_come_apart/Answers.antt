use Rattle.texts.proofs.Joined.{joins}
use Rattle.texts.proofs.laws.joined_texts_come_apart.Goals as goal

pub returns : goal.returns
returns c = joins
