use Rattle.std.proofs.Common.{◌≡◌, [], ◌∷◌, length, sym, ◌∙◌, arith, eqb-true}
use Rattle.std.proofs.lemmas.List.{take-append-le, take_all}
use Rattle.texts.proofs.places.keep.Goals as goal

pub returns-else-not-is_full : goal.returns-else-not-is_full
returns-else-not-is_full c =
    let xs = c.args.numbers.now.items in
    let e : length xs ≡ 8 = eqb-true _ 8 (sym c.if-not-is_full.ensures.value) in
    sym (take-append-le 8 xs (c.args.number ∷ []) (omega arith) ∙ take_all 8 xs (omega arith))
