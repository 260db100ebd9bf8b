use Rattle.std.proofs.Common.{◌≡◌, ℕ, ◌++◌, ◌∷◌, [], length, take, drop, rules, tests, eqb, ap, sym, ◌∙◌, arith, length-append, length-take}
use Rattle.std.proofs.lemmas.Result.{err_from_is_err_and}
use Rattle.std.proofs.lemmas.Iterator.Consumers.{YieldsList-turn, YieldsList-end}
use Rattle.std.proofs.lemmas.Iterator.Splits.{YieldsList-from_slice_split}
use Rattle.texts.specs.Cuts.{parts_of}
use Rattle.texts.proofs.PartSteps.{kept_after, bad_part, next_part, all_read}
use Rattle.texts.proofs.places.numbers.Goals as goal

pub loop-part-preserved : goal.loop-part-preserved
loop-part-preserved c =
    let xs = c.loop-part.yielded in
    let s = c.loop-part.numbers.items in
    let all = parts_of 44 c.args.word.now in
    let part = c.in-Some.part in
    let turn = YieldsList-turn (YieldsList-from_slice_split {s = c.into_iter-part-iterator.result} _ (λ b. eqb b 44) c.args.word.now (search rules) (search rules) (search rules) (λ x b q k. search (rules, tests)))
    xs c.loop-part.part-iterator c.loop-part.yielded_by c.next.result c.next.new.self part c.in-Some.is c.next.ensures.steps in
    record {
      few = omega (arith, ap length c.keep.ensures, length-take 8 (s ++ c.in_ok-next.next ∷ []));
      same =
          ap (λ (l : _). kept_after l (drop (length (xs ++ part ∷ [])) all)) c.keep.ensures
          ∙ ap (λ (n : ℕ). kept_after (take 8 (s ++ c.in_ok-next.next ∷ [])) (drop n all)) (length-append xs (part ∷ []))
          ∙ next_part s all (length xs) part.now turn.0 turn.1 c.loop-part.invariant.same c.in_ok-next.next (sym c.number.ensures ∙ c.in_ok-next.was);
    }

pub returns-in_err-next : goal.returns-in_err-next
returns-in_err-next c =
    let turn = YieldsList-turn (YieldsList-from_slice_split {s = c.into_iter-part-iterator.result} _ (λ b. eqb b 44) c.args.word.now (search rules) (search rules) (search rules) (λ x b q k. search (rules, tests)))
    c.loop-part.yielded c.loop-part.part-iterator c.loop-part.yielded_by c.next.result c.next.new.self c.in-Some.part c.in-Some.is c.next.ensures.steps in
    let p = err_from_is_err_and c.from_residual.result c.from_residual.ensures.1 in
    rw (p.1, p.2)
    (bad_part c.loop-part.numbers.items (parts_of 44 c.args.word.now) (length c.loop-part.yielded) c.in-Some.part.now turn.0 turn.1 c.loop-part.invariant.same
    c.in_err-next.field-0.0 (sym c.number.ensures ∙ c.in_err-next.was))

pub returns : goal.returns
returns c =
    let done = YieldsList-end (YieldsList-from_slice_split {s = c.into_iter-part-iterator.result} _ (λ b. eqb b 44) c.args.word.now (search rules) (search rules) (search rules) (λ x b q k. search (rules, tests)))
    c.loop-part.yielded c.loop-part.part-iterator c.loop-part.yielded_by c.next.result c.next.new.self c.in-None.is c.next.ensures.steps in
    let n : length c.loop-part.yielded ≡ length (parts_of 44 c.args.word.now) = done.1 in
    all_read c.loop-part.numbers.items (parts_of 44 c.args.word.now) (length c.loop-part.yielded) c.loop-part.invariant.same c.loop-part.invariant.few (omega arith)
