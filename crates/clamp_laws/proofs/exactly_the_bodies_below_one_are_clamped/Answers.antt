use Rattle.clamp_laws.proofs.Exact.{clamps_exact}
use Rattle.clamp_laws.proofs.exactly_the_bodies_below_one_are_clamped.Goals as goal

pub returns : goal.returns
returns c = clamps_exact
