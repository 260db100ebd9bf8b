-- The lines that are still to come. Assumes nothing.
use Rattle.std.specs.Prelude.{ℕ, List}
use Rattle.desk.specs.declared.lines.Lines.{Lines}
use Rattle.desk.specs.Lines.{lines_of}

abbrev pub lines_left : Lines → List (List ℕ)
lines_left l = lines_of l.text.now
