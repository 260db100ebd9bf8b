-- The children of a Compound are kept in their order. Assumes nothing.
use Rattle.std.proofs.Common.{◌≡◌, ℕ, zero, suc, ◌+◌, ◌<◌, ◌≤◌, Bool, true, false, cond, ltb, List, [], ◌∷◌, length, get_or, set, replicate, Ok, Err, Result, sym, refl, ap, ◌∙◌, arith, length-set, ltb-true}
use Rattle.std.proofs.lemmas.List.{get_or-set_same, get_or-set_other}
use Rattle.hosts.specs.declared.questions.Child.{Child}
use Rattle.texts.specs.declared.trouble.Trouble.{Trouble}
use Rattle.texts.specs.declared.trouble.Trouble.TheVariants.{MissingWord, TooManyChildren}
use Rattle.texts.specs.Places.{and_then}
use Rattle.script.specs.declared.command.Children.{Children}
use Rattle.script.specs.Parts.{child_of, blank, no_children, children_of}
use Rattle.script.specs.Lines.{compound_from}
use Rattle.script.specs.Laws.{Gathered}

-- what is gathered from the children cs on
record After (ws : List (List ℕ)) (cs ds : Children) : Type 0 where
  few : cs.count + length ws ≤ 16
  count : ds.count ≡ cs.count + length ws
  low : (i : ℕ) → i < cs.count → get_or ds.list i blank ≡ get_or cs.list i blank
  each : (i : ℕ) → i < length ws → child_of (get_or ws i []) ≡ Ok (get_or ds.list (cs.count + i) blank)
  high : (i : ℕ) → cs.count + length ws ≤ i → get_or ds.list i blank ≡ get_or cs.list i blank

abbrev next : Children → Child → Children
next cs c = record { list = set cs.list cs.count c; count = cs.count + 1 }

same : (cs ds : Children) → ◌≡◌ {A = Result Children Trouble} (Ok cs) (Ok ds) → ds ≡ cs
same cs ds h = cc

never : (e : Trouble) (ds : Children) → Err e ≡ Ok ds → ⊥
never e ds h = let z : ◌≡◌ {A = ℕ} 0 1 = cc in omega arith

-- one more child, and then the others
more : (w : List ℕ) (ws : List (List ℕ)) (cs ds : Children) (c : Child) → length cs.list ≡ 16 → cs.count < 16 → child_of w ≡ Ok c
    → After ws (next cs c) ds → After (w ∷ ws) cs ds
more w ws cs ds c long room first rest = record {
  few = omega (arith, rest.few);
  count = omega (arith, rest.count);
  low = λ i h. rest.low i (omega arith) ∙ get_or-set_other cs.list cs.count i c blank (λ (e : i ≡ cs.count). omega arith);
  each = each;
  high = λ i h. rest.high i (omega arith) ∙ get_or-set_other cs.list cs.count i c blank (λ (e : i ≡ cs.count). omega arith);
}
  where
    each : (i : ℕ) → i < suc (length ws) → child_of (get_or (w ∷ ws) i []) ≡ Ok (get_or ds.list (cs.count + i) blank)
    each zero h =
        let e : cs.count + 0 ≡ cs.count = omega arith in
        first
        ∙ ap Ok (sym (rest.low cs.count (omega arith) ∙ get_or-set_same cs.list cs.count c blank (omega arith)) ∙ ap (λ (n : ℕ). get_or ds.list n blank) (sym e))
    each (suc i) h =
        let e : cs.count + 1 + i ≡ cs.count + suc i = omega arith in
        rest.each i (omega arith) ∙ ap (λ (n : ℕ). Ok (get_or ds.list n blank)) e

after : (ws : List (List ℕ)) (cs ds : Children) → length cs.list ≡ 16 → cs.count ≤ 16 → children_of cs ws ≡ Ok ds → After ws cs ds
after [] cs ds long room h =
    let e = same cs ds h in
    record {
      few = omega arith;
      count = let f = ap (λ (x : Children). x.count) e in omega arith;
      low = λ i k. ap (λ (x : Children). get_or x.list i blank) e;
      each = λ i k. absurd (omega arith);
      high = λ i k. ap (λ (x : Children). get_or x.list i blank) e;
    }
after (w ∷ ws) cs ds long room h =
    go (λ c. after ws (next cs c) ds (length-set cs.list cs.count c ∙ long)) (ltb cs.count 16) refl (child_of w) refl h
  where
    go : ((c : Child) → cs.count + 1 ≤ 16 → children_of (next cs c) ws ≡ Ok ds → After ws (next cs c) ds)
        → (t : Bool) → ltb cs.count 16 ≡ t → (r : Result Child Trouble) → child_of w ≡ r
        → and_then (cond t (and_then r (λ c. Ok (next cs c))) (Err TooManyChildren)) (λ es. children_of es ws) ≡ Ok ds
        → After (w ∷ ws) cs ds
    go k true e (Ok c) f g =
        let below = ltb-true cs.count 16 e in
        more w ws cs ds c long below f (k c (omega arith) g)
    go k true e (Err x) f g = absurd (never x ds g)
    go k false e r f g = absurd (never TooManyChildren ds g)

blanks : (n i : ℕ) → get_or (replicate n blank) i blank ≡ blank
blanks zero i = refl
blanks (suc n) zero = refl
blanks (suc n) (suc i) = blanks n i

pub gathered : Gathered
gathered ws cs h =
    let all = after ws no_children cs refl (omega arith) h in
    record {
      few = omega (arith, all.few);
      count = omega (arith, all.count);
      each = λ i k. all.each i k ∙ ap (λ (n : ℕ). Ok (get_or cs.list n blank)) (let e : 0 + i ≡ i = omega arith in e);
      past = λ i k. all.high i (omega arith) ∙ blanks 16 i;
    }

-- where no child was made there was no word
pub none_made : (ws : List (List ℕ)) (cs : Children) → children_of no_children ws ≡ Ok cs → cs.count ≡ 0 → Err MissingWord ≡ compound_from ws
none_made [] cs h e = refl
none_made (w ∷ ws) cs h e = let all = gathered (w ∷ ws) cs h in absurd (omega (arith, all.count))
