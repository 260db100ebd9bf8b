use Rattle.std.proofs.Common.{rules, sym, ap, codes, arith}
use Rattle.std.proofs.lemmas.Slice.Eq.{text_from_reads}
use Rattle.script.specs.Verbs.{verb_of}
use Rattle.script.proofs.verbs.verb_of.Goals as goal

pub returns-in-compound : goal.returns-in-compound
returns-in-compound c = ap verb_of (sym (text_from_reads c.args.word.now (codes "compound") (omega arith) (search rules)))

pub returns-in-listed : goal.returns-in-listed
returns-in-listed c = ap verb_of (sym (text_from_reads c.args.word.now (codes "listed") (omega arith) (search rules)))
