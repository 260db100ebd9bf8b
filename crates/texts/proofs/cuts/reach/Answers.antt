use Rattle.std.proofs.Common.{◌≡◌, ◌≤◌, ℕ, Bool, true, false, not, cond, length, ltb, ltb-false, Some, None, Option, ap, ◌∙◌, refl, rules, arith}
use Rattle.std.specs.List.{position_or_len}
use Rattle.std.specs.Option.{unwrap_or}
use Rattle.std.proofs.lemmas.Iterator.{YieldsList-from_slice}
use Rattle.std.proofs.lemmas.Iterator.Search.{position_from_yields_List}
use Rattle.std.proofs.lemmas.List.Sums.{prefix_len-le-length}
use Rattle.texts.specs.Cuts.{stops_at}
use Rattle.texts.proofs.cuts.reach.Goals as goal

-- the place that was found, or else the length
or_length : (o : Option ℕ) (r n m : ℕ) → r ≡ unwrap_or o m → o ≡ cond (ltb n m) (Some n) None → n ≤ m → r ≡ n
or_length o r n m h e le = h ∙ ap (λ (p : Option ℕ). unwrap_or p m) e ∙ go (ltb n m) refl
  where
    go : (t : Bool) → ltb n m ≡ t → unwrap_or (cond t (Some n) None) m ≡ n
    go true e = refl
    go false e = let k = ltb-false n m e in omega arith

pub returns-clause-value : goal.returns-clause-value
returns-clause-value c =
    let p = stops_at c.args.until in
    let xs = c.args.text.now in
    or_length c.position.result c.unwrap_or.result (position_or_len p xs) (length xs) c.unwrap_or.ensures
    (position_from_yields_List p _ _ c.position.result c.position.ensures.ran (YieldsList-from_slice xs c.iter.ensures.rest)
    (λ x b q k. search rules))
    (prefix_len-le-length (λ x. not (p x)) xs)
