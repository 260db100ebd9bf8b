-- Places and poses: numbers joined by commas. Assumes nothing.
use Rattle.std.specs.Prelude.{ℕ, List, [], ◌∷◌, take, Ok, Err, Result, Float}
use Rattle.arrayvec.specs.ArrayVec.{ArrayVec}
use Rattle.geometry.specs.declared.vector.Vector.{Vector}
use Rattle.geometry.specs.declared.pose.Pose.{Pose}
use Rattle.geometry.specs.Vectors.{vector}
use Rattle.geometry.specs.Poses.{placed}
use Rattle.texts.specs.declared.trouble.Trouble.{Trouble}
use Rattle.texts.specs.declared.trouble.Trouble.TheVariants.{NotAPlace, NotAPose}
use Rattle.texts.specs.Cuts.{parts_of}
use Rattle.texts.specs.Reals.{number_of}

abbrev pub and_then : {A B E : Type 0} → Result A E → (A → Result B E) → Result B E
and_then (Ok a) f = f a
and_then (Err e) f = Err e

-- the trouble of the first part that is no number comes first
abbrev pub numbers_of : List (List ℕ) → Result (List Float) Trouble
numbers_of [] = Ok []
numbers_of (w ∷ ws) = and_then (number_of w) (λ x. and_then (numbers_of ws) (λ xs. Ok (x ∷ xs)))

-- the first eight of them
abbrev pub kept_of : List (List ℕ) → Result (ArrayVec Float) Trouble
kept_of ws = and_then (numbers_of ws) (λ xs. Ok (record { items = take 8 xs }))

abbrev pub place_from : List Float → Result Vector Trouble
place_from (x ∷ (y ∷ (z ∷ []))) = Ok (vector x y z)
place_from _ = Err NotAPlace

abbrev pub place_of : List ℕ → Result Vector Trouble
place_of w = and_then (numbers_of (parts_of 44 w)) place_from

-- a place alone has no turn
abbrev pub pose_from : List Float → Result Pose Trouble
pose_from (x ∷ (y ∷ (z ∷ []))) = Ok (placed (vector x y z))
pose_from (x ∷ (y ∷ (z ∷ (i ∷ (j ∷ (k ∷ (w ∷ []))))))) =
    Ok (record { translation = vector x y z; rotation = record { i = i; j = j; k = k; w = w } })
pose_from _ = Err NotAPose

abbrev pub pose_of : List ℕ → Result Pose Trouble
pose_of w = and_then (numbers_of (parts_of 44 w)) pose_from
