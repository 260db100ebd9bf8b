-- The lines of a text. Assumes nothing.
use Rattle.std.specs.Prelude.{ℕ, List, [], ◌∷◌}
use Rattle.texts.specs.Cuts.{parts_of}

-- a line feed ends a line and begins none, so an empty last part is no line
abbrev pub ended : List (List ℕ) → List (List ℕ)
ended [] = []
ended ([] ∷ []) = []
ended ((b ∷ bs) ∷ []) = (b ∷ bs) ∷ []
ended (l ∷ k ∷ ls) = l ∷ ended (k ∷ ls)

abbrev pub lines_of : List ℕ → List (List ℕ)
lines_of bs = ended (parts_of 10 bs)
