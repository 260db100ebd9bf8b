use Rattle.texts.proofs.Tens.{tens_are}
use Rattle.texts.proofs.reals.power_of_ten.Goals as goal

pub returns : goal.returns
returns c = tens_are c.args.k c.requires
