use Rattle.sweep_laws.proofs.PairCaps.{pair_facts}
use Rattle.sweep_laws.proofs.Exact.{exactly}
use Rattle.sweep_laws.proofs.exactly_the_admitted_pairs_are_cast.Goals as goal

pub returns : goal.returns
returns c = λ e room h b l t f. exactly e room h b (pair_facts e l t) f
