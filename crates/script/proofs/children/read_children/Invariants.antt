use Rattle.std.proofs.Common.{◌≡◌}
use Rattle.texts.specs.WordsLeft.{words_left}
use Rattle.script.specs.Parts.{no_children, children_of}
use Rattle.script.proofs.children.read_children.Given as goal

abbrev pub invariant-loop-word : goal.invariant-loop-word
invariant-loop-word l = children_of l.children (words_left l.word-iterator) ≡ children_of no_children (words_left l.fn.words)
