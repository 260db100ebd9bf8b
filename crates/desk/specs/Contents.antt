-- What lies on the estimator's desk. Assumes nothing.
use Rattle.std.specs.Prelude.{List}
use Rattle.hosts.specs.declared.questions.Child.{Child}
use Rattle.slide.specs.declared.shapes.Shape.{Shape}
use Rattle.recorded.specs.declared.rows.Listed.{Listed}
use Rattle.recorded.specs.declared.rows.Row.{Row}
use Rattle.script.specs.declared.command.HostChoice.{HostChoice}

-- what a desk's lists hold, and which host answers for them
pub record Contents : Type 0 where
  pub host : HostChoice
  pub shapes : List Shape
  pub listed : List Listed
  pub children : List Child
  pub rows : List Row
