use Rattle.finders.proofs.Barrings.{barring_laws}
use Rattle.finders.proofs.laws.exactly_the_first_64_pairs_are_barred.Goals as goal

pub returns : goal.returns
returns c = barring_laws
