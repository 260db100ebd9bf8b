-- The order from the last slot to the first. Assumes nothing.
use Rattle.std.specs.Prelude.{List, reverse, Float}
use Rattle.geometry.specs.declared.handle.ColliderHandle.{ColliderHandle}
use Rattle.geometry.specs.declared.aabb.Aabb.{Aabb}
use Rattle.finders.specs.Finders.{Held}
use Rattle.finders.specs.Tables.{upward}

-- what is listed in slot order, turned round
abbrev pub downward : Held → Aabb → Float → List ColliderHandle
downward h q p = reverse (upward 0 h q p)
