use Rattle.std.proofs.Common.{sym, ◌∙◌}
use Rattle.texts.specs.WordsLeft.{words_left}
use Rattle.script.proofs.Kept.{none_made}
use Rattle.script.proofs.lines.compound_line.Goals as goal

pub returns-then-children-eq0 : goal.returns-then-children-eq0
returns-then-children-eq0 c =
    none_made (words_left c.args.words) c.in_ok-children.children (sym c.read_children.ensures ∙ c.in_ok-children.was)
    c.if-children-eq0.true
