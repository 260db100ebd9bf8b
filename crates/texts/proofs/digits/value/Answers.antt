use Rattle.std.proofs.Common.{ℕ, ◌+◌, ◌*◌, get_or, drop, sym, ap, ◌∙◌, arith}
use Rattle.std.proofs.lemmas.List.{at_drop_more}
use Rattle.texts.specs.Digits.{radix_of, capped, read_digits}
use Rattle.texts.proofs.Capped.{next_digit}
use Rattle.texts.proofs.digits.value.Goals as goal

pub loop-b-preserved : goal.loop-b-preserved
loop-b-preserved c =
    let xs = c.args.text.now in
    let i = c.loop-b.b-index in
    let sum = c.loop-b.sum in
    let rest = drop (i + 1) xs in
    record {
      bound = omega (arith, c.min-sum.ensures);
      same =
          ap (λ (n : ℕ). read_digits (radix_of c.args.base) n rest) (c.min-sum.ensures ∙ ap (λ (n : ℕ). capped (sum * n + c.in_ok-digit.digit)) (c.from.ensures ∙ c.radix.ensures.value))
          ∙ next_digit (radix_of c.args.base) sum (get_or xs i 0) c.in_ok-digit.digit rest (sym c.digit.ensures.value ∙ c.in_ok-digit.was)
          ∙ sym (at_drop_more (read_digits (radix_of c.args.base) sum) xs i 0 c.loop-b-test.true)
          ∙ c.loop-b.invariant.same;
    }
