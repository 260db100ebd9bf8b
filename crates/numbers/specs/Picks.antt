-- The smaller and the greater of two floats. Neither is told from an equal one, the zeros among them, and a NaN is neither below nor above. Assumes nothing.
use Rattle.std.specs.Prelude.{cond, Float}
use Rattle.std.specs.Float.Ieee.{lt}

-- the second where it is below the first, and else the first
abbrev pub lesser_of : Float → Float → Float
lesser_of a b = cond (lt b a) b a

-- the second where the first is below it, and else the first
abbrev pub greater_of : Float → Float → Float
greater_of a b = cond (lt a b) b a
