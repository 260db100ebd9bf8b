-- The texts of refusals.
use Rattle.std.specs.Prelude.{ℕ, List, codes}
use Rattle.slots.specs.declared.fault.Fault.{Fault}
use Rattle.slots.specs.declared.fault.Fault.TheVariants.{Full, NotLive, Broken}

abbrev pub text_of : Fault → List ℕ
text_of Full = codes "no slot is free or unused"
text_of NotLive = codes "the handle names no record"
text_of Broken = codes "the memory breaks the rules of the store"
