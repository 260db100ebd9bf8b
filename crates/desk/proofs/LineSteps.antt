-- The lines of a text, one after another. Assumes nothing.
use Rattle.std.proofs.Common.{◌≡◌, ℕ, ◌<◌, Bool, eqb, List, [], ◌∷◌, length, drop, refl, ap, ◌∙◌, arith, length-take, length-drop}
use Rattle.std.specs.List.{position_or_len}
use Rattle.texts.specs.Cuts.{front_of, past_of, parts_of}
use Rattle.texts.proofs.WordSteps.{parts_step}
use Rattle.desk.specs.Lines.{ended, lines_of}

abbrev ends : ℕ → Bool
ends b = eqb b 10

alone : (l : List ℕ) → (length l ≡ 0 → ⊥) → ended (l ∷ []) ≡ l ∷ []
alone [] h = absurd (h refl)
alone (b ∷ bs) h = refl

-- a line that has an end, and the lines of what follows
followed : (l bs : List ℕ) (ps : List (List ℕ)) → parts_of 10 bs ≡ ps → ended (l ∷ ps) ≡ l ∷ ended ps
followed l bs [] e = let s = parts_step ends bs in cc
followed l bs (p ∷ ps) e = refl

line_by : (bs xs : List ℕ) → past_of ends bs ≡ xs → (length xs ≡ 0 → length (front_of ends bs) ≡ 0 → ⊥) → lines_of bs ≡ front_of ends bs ∷ lines_of (drop 1 xs)
line_by bs [] e h = ap ended (rw e at (parts_step ends bs)) ∙ alone (front_of ends bs) (h refl)
line_by bs (x ∷ xs) e h = ap ended (rw e at (parts_step ends bs)) ∙ followed (front_of ends bs) xs (parts_of 10 xs) refl

-- a text that is not empty has a first line, and those of the text past its end
pub some_line : (bs : List ℕ) → 0 < length bs → lines_of bs ≡ front_of ends bs ∷ lines_of (drop 1 (past_of ends bs))
some_line bs h =
    let n = position_or_len ends bs in
    line_by bs (past_of ends bs) refl (λ p f. (let a = length-take n bs in let b = length-drop n bs in omega arith))
