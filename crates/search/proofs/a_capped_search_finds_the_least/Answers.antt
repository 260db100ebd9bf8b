use Rattle.search.proofs.Finds.{search_laws}
use Rattle.search.proofs.a_capped_search_finds_the_least.Goals as goal

pub returns : goal.returns
returns g c = search_laws g.row.M.Denot g.row.Q.Denot
