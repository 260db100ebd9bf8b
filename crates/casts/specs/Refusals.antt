-- Why a check is refused, for the table of the orders and for people. Assumes nothing.
use Rattle.std.specs.Prelude.{ℕ, List, codes}
use Rattle.casts.specs.declared.refusal.CastRefusal.{CastRefusal}
use Rattle.casts.specs.declared.refusal.CastRefusal.TheVariants.{NumberOutOfRange, PoseNotAdmitted, ShapeUnknown}

abbrev pub refusal_number : CastRefusal → ℕ
refusal_number NumberOutOfRange = 1
refusal_number PoseNotAdmitted = 1
refusal_number ShapeUnknown = 3

abbrev pub refusal_text : CastRefusal → List ℕ
refusal_text NumberOutOfRange = codes "a number is out of range"
refusal_text PoseNotAdmitted = codes "a pose is not admitted"
refusal_text ShapeUnknown = codes "a shape is unknown"
