use Rattle.std.proofs.Common.{rules, ◌≡◌, Ok, Result, sym, subst}
use Rattle.casts.specs.declared.refusal.CastRefusal.{CastRefusal}
use Rattle.casts.specs.declared.report.Report.{Report}
use Rattle.casts.specs.Singles.{flown, Flown}
use Rattle.casts.proofs.Singles.{flown_law}
use Rattle.casts.proofs.single.cast_flight.Goals as goal

pub returns-in_err-fast : goal.returns-in_err-fast
returns-in_err-fast g c =
    let h = g.H.Host.answers c.args.host.now in
    let value : c.from_residual.result ≡ flown h c.args.flight = search rules in
    record { value = value; law = subst (Flown h c.args.flight) (sym value) (flown_law h (g.H.Host.lawful c.args.host.now) c.args.flight) }

pub returns : goal.returns
returns g c =
    let h = g.H.Host.answers c.args.host.now in
    let value : ◌≡◌ {A = Result Report CastRefusal} (Ok c.report.result) (flown h c.args.flight) = search rules in
    record { value = value; law = subst (Flown h c.args.flight) (sym value) (flown_law h (g.H.Host.lawful c.args.host.now) c.args.flight) }
