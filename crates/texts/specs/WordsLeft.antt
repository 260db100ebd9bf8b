-- The words that are still to come. Assumes nothing.
use Rattle.std.specs.Prelude.{ℕ, List}
use Rattle.texts.specs.declared.words.Words.{Words}
use Rattle.texts.specs.Words.{words_of}

abbrev pub words_left : Words → List (List ℕ)
words_left w = words_of w.text.now
