use Rattle.finders.proofs.Reports.{reporting_laws}
use Rattle.finders.proofs.laws.finders_that_hold_alike_report_alike.Goals as goal

pub returns : goal.returns
returns g c alike q p =
    let d = c.args.first.now in
    let e = c.args.second.now in
    reporting_laws.alike (g.D.Finder.meaning d).held (g.E.Finder.meaning e).held q p (g.D.Finder.listed d q p) (g.E.Finder.listed e q p) alike
    ((g.D.Finder.lawful d).lists q p) ((g.E.Finder.lawful e).lists q p)
