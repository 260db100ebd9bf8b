use lib.Ieee.{lt, add, sub, mul, of_bits}
use Rattle.numbers.proofs.laws.interpolation_may_pass_the_end_at_one.Goals as goal

pub returns : goal.returns
unfolding lt add sub mul of_bits
returns c = tt
