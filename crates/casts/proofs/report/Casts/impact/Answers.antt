use Rattle.std.proofs.Common.{ap, ◌∙◌, sym}
use Rattle.casts.specs.Reports.{impact_of, soonest_of}
use Rattle.casts.proofs.Soonest.{soonest_is}
use Rattle.casts.proofs.report.Casts.impact.Goals as goal

pub returns-in-Pieces : goal.returns-in-Pieces
returns-in-Pieces c =
    c.soonest.ensures ∙ (soonest_is c.args.pair c.as_slice.result.now ∙ (ap (soonest_of c.args.pair) c.as_slice.ensures ∙ ap (impact_of c.args.pair) (sym c.in-Pieces.is)))
