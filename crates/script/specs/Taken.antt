-- What is taken from the words that are still to come. Assumes nothing.
use Rattle.std.specs.Prelude.{◌≡◌, ℕ, List, [], ◌∷◌, Ok, Err, Result, MatchResult}
use Rattle.std.specs.Borrow.{Bor}
use Rattle.texts.specs.declared.trouble.Trouble.{Trouble}
use Rattle.texts.specs.declared.trouble.Trouble.TheVariants.{MissingWord}
use Rattle.texts.specs.declared.words.Words.{Words}
use Rattle.texts.specs.WordsLeft.{words_left}

-- the first word was taken, and the others are left
abbrev pub Takes : Words → Result (Bor (List ℕ)) Trouble → Words → Type 0
Takes s r t = MatchResult r (λ w. words_left s ≡ w.now ∷ words_left t) (λ e. (words_left s ≡ []) × (e ≡ MissingWord))

-- what `read` says of the words: the value and those that are left, or the trouble
abbrev pub Reads : {A : Type 0} → (List (List ℕ) → Result (A × List (List ℕ)) Trouble) → Words → Result A Trouble → Words → Type 0
Reads read s r t = MatchResult r (λ x. read (words_left s) ≡ Ok (x, words_left t)) (λ e. read (words_left s) ≡ Err e)
