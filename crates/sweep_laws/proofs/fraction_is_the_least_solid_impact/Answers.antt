use Rattle.sweep_laws.proofs.PairCaps.{pair_facts}
use Rattle.sweep_laws.proofs.Leasts.{fraction_least}
use Rattle.sweep_laws.proofs.fraction_is_the_least_solid_impact.Goals as goal

pub returns : goal.returns
returns c = λ e room m h b w l t f. fraction_least e room m h b w (pair_facts e l t) f
