-- The laws of meetings and of the casts that are known by them. Assumes nothing.
use Rattle.std.specs.Prelude.{T, Some, None, Option, Float}
use Rattle.std.specs.Float.Ieee.{le}
use Rattle.numbers.specs.Constants.{zero_f, one_f}
use Rattle.geometry.specs.declared.vector.Vector.{Vector}
use Rattle.geometry.specs.declared.aabb.Aabb.{Aabb}
use Rattle.outcomes.specs.Impacts.{clean, SolidLaw, PseudoLaw, CleanLaw}
use Rattle.strokes.specs.Strokes.{meeting_of, answered, answered_if_met}

-- a time from 0 to 1 that is neither NaN nor minus zero
pub record Timely (t : Float) : Type 0 where
  pub plain : T (clean t)
  pub low : T (le zero_f t)
  pub high : T (le t one_f)

abbrev pub Met : Option Float → Type 0
Met None = Unit {0}
Met (Some t) = Timely t

-- Whatever the boxes and the stroke, the time of a meeting is timely; and a cast that is known by a timely meeting, or by none, keeps the cap law.
pub record CapKept : Type 0 where
  pub timely : (f t : Aabb) (d : Vector) → Met (meeting_of f t d)
  pub proxy_solid : (o : Option Float) → Met o → SolidLaw (λ c. Some (answered o c))
  pub proxy_pseudo : (o : Option Float) → Met o → PseudoLaw (λ c. Some (answered o c))
  pub proxy_clean : (o : Option Float) → Met o → CleanLaw (λ c. Some (answered o c))
  pub composite_solid : (o : Option Float) → Met o → SolidLaw (answered_if_met o)
  pub composite_pseudo : (o : Option Float) → Met o → PseudoLaw (answered_if_met o)
  pub composite_clean : (o : Option Float) → Met o → CleanLaw (answered_if_met o)
