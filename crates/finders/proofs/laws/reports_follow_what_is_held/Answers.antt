use Rattle.finders.proofs.Reports.{reporting_laws}
use Rattle.finders.proofs.laws.reports_follow_what_is_held.Goals as goal

pub returns : goal.returns
returns c = reporting_laws
