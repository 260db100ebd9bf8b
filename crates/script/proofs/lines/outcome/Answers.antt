use Rattle.std.proofs.Common.{◌≡◌, rules, codes, arith}
use Rattle.std.proofs.lemmas.Slice.Eq.{text_from_reads}
use Rattle.script.proofs.lines.outcome.Goals as goal

pub returns-in-overlapped : goal.returns-in-overlapped
returns-in-overlapped c =
    let e : c.args.status.now ≡ codes "overlapped" = text_from_reads c.args.status.now (codes "overlapped") (omega arith) (search rules) in
    rw e (search rules)

pub returns-in-separated : goal.returns-in-separated
returns-in-separated c =
    let e : c.args.status.now ≡ codes "separated" = text_from_reads c.args.status.now (codes "separated") (omega arith) (search rules) in
    rw e (search rules)
