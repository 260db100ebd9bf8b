use Rattle.std.proofs.Common.{◌≡◌, rules, length, ap, sym, ◌∙◌, eqb-true, ◌∷◌, arith}
use borrow.Author.Tests.{eqb-false}
use Rattle.texts.specs.Cuts.{is_blank, front_of, past_of}
use Rattle.texts.specs.Words.{words_of}
use Rattle.texts.proofs.WordSteps.{past_blanks, no_words, some_words}
use Rattle.texts.proofs.words.WordsIterator.next.Goals as goal

pub returns-then-is_empty-clause-steps : goal.returns-then-is_empty-clause-steps
returns-then-is_empty-clause-steps c =
    let e : c.past-text.result.now ≡ past_blanks c.args.self.now.text.now = c.past-text.ensures in
    let z = no_words c.args.self.now.text.now (sym (ap length e) ∙ eqb-true _ 0 (sym c.if-is_empty.ensures)) in
    (z, z)

pub returns-clause-steps : goal.returns-clause-steps
returns-clause-steps c =
    let e : c.past-text.result.now ≡ past_blanks c.args.self.now.text.now = c.past-text.ensures in
    let f : c.cut.result.0.now ≡ front_of is_blank c.past-text.result.now = c.cut.ensures.front in
    let g : c.cut.result.1.now ≡ past_of is_blank c.past-text.result.now = c.cut.ensures.past in
    let s = some_words c.args.self.now.text.now (λ z. eqb-false _ 0 (sym c.if-is_empty.ensures) (ap length e ∙ z)) in
    cc

pub returns-clause-goes : goal.returns-clause-goes
returns-clause-goes c =
    let s : words_of c.args.self.now.text.now ≡ c.cut.result.0.now ∷ words_of c.cut.result.1.now = returns-clause-steps c in
    let n = ap length s in
    record { on = λ f. search (rules, arith); keeps = search rules; rests = search rules }
