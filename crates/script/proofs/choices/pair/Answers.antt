use Rattle.std.proofs.Common.{rules, sym, ap, codes, arith}
use Rattle.std.proofs.lemmas.Slice.Eq.{text_from_reads}
use Rattle.script.specs.Choices.{pair_of}
use Rattle.script.proofs.choices.pair.Goals as goal

pub returns-in-pseudo : goal.returns-in-pseudo
returns-in-pseudo c = ap pair_of (sym (text_from_reads c.args.word.now (codes "pseudo") (omega arith) (search rules)))
