-- The words of a text: what stands between blanks. Assumes nothing.
use Rattle.std.specs.Prelude.{ℕ, Bool, true, false, List, [], ◌∷◌, filter, ◌==◌}
use Rattle.std.specs.List.{slice_split}
use Rattle.texts.specs.Cuts.{is_blank, front_of}

abbrev pub has_bytes : List ℕ → Bool
has_bytes [] = false
has_bytes (b ∷ bs) = true

abbrev pub words_of : List ℕ → List (List ℕ)
words_of bs = filter has_bytes (slice_split is_blank bs)

-- what stands before a comment
abbrev pub uncommented : List ℕ → List ℕ
uncommented bs = front_of (λ b. b == 35) bs
