use Rattle.std.proofs.Common.{◌≡◌, List, ℕ, [], Option, Some, None, Bor, ap, ◌∙◌}
use Rattle.std.specs.Option.{option_map, unwrap_or, UnwrapsOrElse}
use Rattle.std.proofs.lemmas.Option.{unwrap_or-slice_get}
use Rattle.std.proofs.lemmas.Iterator.Consumers.{nth_from_yields_List, YieldsList-from_first}
use Rattle.texts.specs.Words.{words_of}
use Rattle.texts.specs.WordsLeft.{words_left}
use Rattle.texts.proofs.words.word_at.Goals as goal

or_none : (o : Option (Bor (List ℕ))) (r : Bor (List ℕ)) → UnwrapsOrElse o (λ s. s.now ≡ []) r → r.now ≡ unwrap_or (option_map (λ x. x.now) o) []
or_none None r h = h
or_none (Some x) r h = ap (λ (s : Bor (List ℕ)). s.now) h

pub returns : goal.returns
returns c =
    let e = nth_from_yields_List c.nth.result c.nth.new.self c.args.place c.nth.ensures.ran (YieldsList-from_first (λ x. x.now) words_left (words_of c.args.text.now) c.of.ensures) in
    or_none c.nth.result c.unwrap_or_default.result c.unwrap_or_default.ensures
    ∙ ap (λ (o : Option (List ℕ)). unwrap_or o []) e
    ∙ unwrap_or-slice_get (words_of c.args.text.now) c.args.place []
