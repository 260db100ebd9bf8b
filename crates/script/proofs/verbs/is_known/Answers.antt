use Rattle.std.proofs.Common.{rules, sym, ap, codes, arith}
use Rattle.std.proofs.lemmas.Slice.Eq.{text_from_reads}
use Rattle.script.specs.Verbs.{is_known}
use Rattle.script.proofs.verbs.is_known.Goals as goal

-- params
pub returns-in-slots-9 : goal.returns-in-slots-9
returns-in-slots-9 c = ap is_known (sym (text_from_reads c.args.word.now (codes "params") (omega arith) (search rules)))

-- attach
pub returns-in-slots-10 : goal.returns-in-slots-10
returns-in-slots-10 c = ap is_known (sym (text_from_reads c.args.word.now (codes "attach") (omega arith) (search rules)))

-- detach
pub returns-in-slots-11 : goal.returns-in-slots-11
returns-in-slots-11 c = ap is_known (sym (text_from_reads c.args.word.now (codes "detach") (omega arith) (search rules)))

-- advance
pub returns-in-slots-12 : goal.returns-in-slots-12
returns-in-slots-12 c = ap is_known (sym (text_from_reads c.args.word.now (codes "advance") (omega arith) (search rules)))
