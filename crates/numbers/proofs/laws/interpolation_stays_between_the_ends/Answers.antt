use Rattle.numbers.proofs.Coordinates.{interpolation}
use Rattle.numbers.proofs.laws.interpolation_stays_between_the_ends.Goals as goal

pub returns : goal.returns
returns c = interpolation
