-- A space for hits with a count beside it, which may be any: how a sweep reads them, and what it leaves in them. Assumes nothing.
use Rattle.std.specs.Prelude.{List}
use Rattle.sweeps.specs.declared.hall.PseudoHit.{PseudoHit}
use Rattle.sweeps.specs.declared.hall.Reached.{Reached}
use Rattle.sweeps.specs.Sweeps.{Swept}

abbrev pub opened : List PseudoHit → Reached → Swept
opened hits r = (record { all = hits; count = r.hits }, r.fraction)

abbrev pub left_in : Swept → List PseudoHit × Reached
left_in s = (s.0.all, record { fraction = s.1; hits = s.0.count })
