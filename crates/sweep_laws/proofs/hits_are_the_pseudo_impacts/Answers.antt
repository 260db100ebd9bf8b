use Rattle.sweep_laws.proofs.PairCaps.{pair_facts}
use Rattle.sweep_laws.proofs.Hits.{hits_noted}
use Rattle.sweep_laws.proofs.hits_are_the_pseudo_impacts.Goals as goal

pub returns : goal.returns
returns c = λ e room n h b w l t f r. hits_noted e room n h b w (pair_facts e l t) f r
