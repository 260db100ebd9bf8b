use Rattle.std.proofs.Common.{sym, ◌∙◌}
use Rattle.texts.proofs.Capped.{read_joined}
use Rattle.texts.proofs.reals.digits.Goals as goal

pub returns : goal.returns
returns c =
    c.value-2.ensures.value
    ∙ read_joined 10 0 c.args.units.now c.args.fraction.now c.in_ok-value.field-0 (sym c.value.ensures.value ∙ c.in_ok-value.was)
