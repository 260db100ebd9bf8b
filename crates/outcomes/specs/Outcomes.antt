-- What casts and overlap tests answer: the number of each case, and the value that it carries. Assumes nothing.
use Rattle.std.specs.Prelude.{ℕ, Bool, true, false, List, Some, None, Option, Ok, Err, Result, codes, Float}
use Rattle.outcomes.specs.declared.cast_outcome.CastOutcome.{CastOutcome}
use Rattle.outcomes.specs.declared.cast_outcome.CastOutcome.TheVariants.{Hit, Failed, Overlapped, Separated}
use Rattle.outcomes.specs.declared.unsupported.Unsupported.{Unsupported}
use Rattle.outcomes.specs.declared.pair_kind.PairKind.{PairKind}
use Rattle.outcomes.specs.declared.pair_kind.PairKind.TheVariants.{Solid, Pseudo}

-- what an overlap test answers: yes or no, or that the host cannot tell
abbrev pub Overlap : Type 0
Overlap = Result Bool Unsupported

-- what a turning cast answers: a time, or nothing, or that the host cannot tell
abbrev pub TurningOutcome : Type 0
TurningOutcome = Result (Option Float) Unsupported

abbrev pub status_number : CastOutcome → ℕ
status_number (Hit f) = 0
status_number (Failed f) = 1
status_number (Overlapped f) = 2
status_number (Separated f) = 3

abbrev pub fraction_of : CastOutcome → Float
fraction_of (Hit f) = f
fraction_of (Failed f) = f
fraction_of (Overlapped f) = f
fraction_of (Separated f) = f

abbrev pub turning_number : TurningOutcome → ℕ
turning_number (Ok (Some t)) = 0
turning_number (Ok None) = 1
turning_number (Err u) = 2

abbrev pub overlap_number : Overlap → ℕ
overlap_number (Ok false) = 0
overlap_number (Ok true) = 1
overlap_number (Err u) = 2

-- what the host cannot tell is not yes
abbrev pub is_yes : Overlap → Bool
is_yes (Ok b) = b
is_yes (Err u) = false

-- the word for a kind of pair
abbrev pub pair_name : PairKind → List ℕ
pair_name Solid = codes "solid"
pair_name Pseudo = codes "pseudo"
