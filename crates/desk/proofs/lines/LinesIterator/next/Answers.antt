use Rattle.std.proofs.Common.{◌≡◌, rules, ◌<◌, ◌∷◌, length, ap, arith}
use Rattle.desk.specs.Lines.{lines_of}
use Rattle.desk.proofs.LineSteps.{some_line}
use Rattle.desk.proofs.lines.LinesIterator.next.Goals as goal

pub returns-clause-steps : goal.returns-clause-steps
returns-clause-steps c =
    let some : 0 < length c.args.self.now.text.now = search rules in
    let s = some_line c.args.self.now.text.now some in
    cc

pub returns-clause-goes : goal.returns-clause-goes
returns-clause-goes c =
    let s : lines_of c.args.self.now.text.now ≡ c.front-line.result.now ∷ lines_of c.skip-self.result.now = returns-clause-steps c in
    let n = ap length s in
    record { on = λ f. search (rules, arith); keeps = search rules; rests = search rules }
