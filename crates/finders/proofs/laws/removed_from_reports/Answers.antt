use Rattle.std.proofs.Common.{subst}
use Rattle.finders.specs.Finders.{Meaning}
use Rattle.finders.specs.FinderLaws.{Lists}
use Rattle.finders.proofs.Reports.{reporting_laws}
use Rattle.finders.proofs.laws.removed_from_reports.Goals as goal

pub returns : goal.returns
returns g c =
    let d = c.remove.new.self in
    record {
      removed = c.remove.ensures;
      unreported = λ q p.
          reporting_laws.removed (g.D.Finder.meaning c.args.finder.now) c.args.collider q p (g.D.Finder.listed d q p)
          (subst (λ (m : Meaning). Lists m.held q p (g.D.Finder.listed d q p)) c.remove.ensures ((g.D.Finder.lawful d).lists q p));
    }
