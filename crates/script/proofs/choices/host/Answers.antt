use Rattle.std.proofs.Common.{rules, sym, ap, codes, arith}
use Rattle.std.proofs.lemmas.Slice.Eq.{text_from_reads}
use Rattle.script.specs.Choices.{host_of}
use Rattle.script.proofs.choices.host.Goals as goal

pub returns-in-recorded : goal.returns-in-recorded
returns-in-recorded c = ap host_of (sym (text_from_reads c.args.word.now (codes "recorded") (omega arith) (search rules)))
