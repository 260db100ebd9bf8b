-- The hits that a sweep notes before its fraction are the pseudo impacts before it. Assumes nothing.
use Rattle.std.proofs.Common.{◌≡◌, ℕ, ◌+◌, ◌-◌, ◌<◌, ◌≤◌, Bool, true, false, cond, ◌&&◌, T, leb, List, [], ◌∷◌, ◌++◌, length, take, drop, Some, None, Option, sym, refl, ap, ◌∙◌, subst, arith, T_not, slice_set}
use lib.Ieee.{Float, lt, le}
use Rattle.std.specs.List.{ContainsAt as Has, AllByRecursion, flat_map}
use Rattle.std.specs.Bool.{passes, fails}
use Rattle.std.proofs.ByRecursion.{All-append, all-has}
use Rattle.std.proofs.lemmas.List.{append-nil, append_assoc, length-append, length-set, length-take-le, take-take, take_at, take_more_set, drop_at, drop-take}
use Rattle.std.proofs.lemmas.List.Elements.{filter-append}
use Rattle.std.proofs.lemmas.Grind.{flat_map-append}
use Rattle.std.proofs.lemmas.Bool.{le-leb, cond-true, cond-false, cond_both}
use Rattle.numbers.specs.Constants.{one_f}
use Rattle.geometry.specs.declared.handle.RigidBodyHandle.{RigidBodyHandle}
use Rattle.outcomes.proofs.Caps.{off}
use Rattle.spaces.specs.Spaces.{Written, with}
use Rattle.records.specs.declared.rigid_body.RigidBody.{RigidBody}
use Rattle.search.specs.Searches.{accepted}
use Rattle.sweeps.specs.declared.hall.PseudoHit.{PseudoHit}
use Rattle.sweeps.specs.declared.hall.PseudoHitMode.TheVariants.{Record}
use Rattle.sweeps.specs.Env.{Env}
use Rattle.sweeps.specs.Sweeps.{Swept}
use Rattle.sweep_laws.specs.Fractions.{fractions, is_fraction, one_is_a_fraction}
use Rattle.sweep_laws.specs.Situations.{situation}
use Rattle.sweep_laws.specs.Pairs.{Pair, pseudo, impact_of}
use Rattle.sweep_laws.specs.Served.{Found}
use Rattle.sweep_laws.specs.SweepLaws.{admitted_pairs, swept_to, hit_before, before, new_hits, HitsNoted}
use Rattle.sweep_laws.proofs.PairFacts.{PairFacts, test_for}
use Rattle.sweep_laws.proofs.Folds.{hit_at, taken, pair_met, pairs_met, swept_met}

-- the hits of the pseudo pairs of a list with impacts before a fraction
abbrev crossed : (Pair → Option Float) → ℕ → Float → List Pair → List PseudoHit
crossed impact n f xs = flat_map (λ x. hit_before n f x (impact x)) xs

-- of one pair, without an impact and with one
crossed_none : (impact : Pair → Option Float) (n : ℕ) (f : Float) (x : Pair) → impact x ≡ None → crossed impact n f (x ∷ []) ≡ []
crossed_none impact n f x i = append-nil (hit_before n f x (impact x)) ∙ ap (hit_before n f x) i

crossed_some : (impact : Pair → Option Float) (n : ℕ) (f : Float) (x : Pair) (t : Float) (p : Bool) → pseudo x ≡ p → impact x ≡ Some t
    → crossed impact n f (x ∷ []) ≡ cond (p && lt t f) (hit_at n x t ∷ []) []
crossed_some impact n f x t p q i =
    append-nil (hit_before n f x (impact x)) ∙ ap (hit_before n f x) i ∙ ap (λ (z : Bool). cond (z && lt t f) (hit_at n x t ∷ []) []) q

-- What going through a list of pairs adds: the hits news, after those that were there; of them those before any fraction that
-- does not lie above the last are the pseudo impacts before it.
record Adds (impact : Pair → Option Float) (n : ℕ) (s : Swept) (xs : List Pair) (z : Swept) : Type 0 where
  news : List PseudoHit
  front : take z.0.count z.0.all ≡ take s.0.count s.0.all ++ news
  count : z.0.count ≡ s.0.count + length news
  few : length news ≤ length xs
  long : length z.0.all ≡ length s.0.all
  numbered : AllByRecursion (λ x. x.result ≡ n) news
  mark : T (is_fraction z.1)
  low : T (le z.1 s.1)
  noted_before : (f : Float) → T (is_fraction f) → T (le f z.1) → before f news ≡ crossed impact n f xs

-- where there is room, one hit more is written
with_room : (w : Written PseudoHit) (x : PseudoHit) → w.count < length w.all → with w x ≡ record { all = slice_set w.all w.count x; count = w.count + 1 }
with_room w x r = cond-true (leb 1 (length w.all - w.count)) _ w (le-leb 1 (length w.all - w.count) (omega arith))

module _ (impact : Pair → Option Float) (marks : (x : Pair) (t : Float) → impact x ≡ Some t → T (is_fraction t)) (n : ℕ) where
  -- nothing is added
  adds_none : (s : Swept) (c : Float) (xs : List Pair) → T (is_fraction c) → T (le c s.1)
      → ((f : Float) → T (is_fraction f) → T (le f c) → [] ≡ crossed impact n f xs) → Adds impact n s xs (s.0, c)
  adds_none s c xs k l g = record {
    news = [];
    front = sym (append-nil (take s.0.count s.0.all));
    count = omega arith;
    few = omega arith;
    long = refl;
    numbered = tt;
    mark = k;
    low = l;
    noted_before = g;
  }

  -- one hit is added
  adds_hit : (s : Swept) (x : Pair) (t : Float) → T (is_fraction s.1) → s.0.count < length s.0.all → impact x ≡ Some t → pseudo x ≡ true
      → Adds impact n s (x ∷ []) (with s.0 (hit_at n x t), s.1)
  adds_hit s x t k r i p =
      subst (λ (v : Written PseudoHit). Adds impact n s (x ∷ []) (v, s.1)) (sym (with_room s.0 (hit_at n x t) r))
      (record {
        news = hit_at n x t ∷ [];
        front = take_more_set s.0.all s.0.count (hit_at n x t) r;
        count = omega arith;
        few = omega arith;
        long = length-set s.0.all s.0.count (hit_at n x t);
        numbered = (refl, tt);
        mark = k;
        low = fractions.reflexive s.1 k;
        noted_before = λ f m l. sym (crossed_some impact n f x t true p i);
      })

  -- one pair adds a hit or nothing
  adds_one : (s : Swept) (x : Pair) → T (is_fraction s.1) → s.0.count < length s.0.all → Adds impact n s (x ∷ []) (pair_met impact (Record n) s x)
  adds_one s x k r = by (pseudo x) refl (impact x) refl
    where
      -- what is not at most the fraction lies before none that is
      late : (t f : Float) → T (is_fraction t) → T (is_fraction f) → T (le f s.1) → le t s.1 ≡ false → lt t f ≡ false
      late t f a b l e = off (lt t f) (λ h. T_not (le t s.1) (fails (le t s.1) e)
          (fractions.transitive t f s.1 a b k (fractions.weaker t f a b h) l))

      by : (p : Bool) → pseudo x ≡ p → (o : Option Float) → impact x ≡ o → Adds impact n s (x ∷ []) (taken (Record n) x p (accepted (test_for p) o s.1) s)
      by p q None i = adds_none s s.1 (x ∷ []) k (fractions.reflexive s.1 k) (λ f m l. sym (crossed_none impact n f x i))
      by true q (Some t) i =
          cond_both (le t s.1) (Some t) None (λ (o : Option Float). Adds impact n s (x ∷ []) (taken (Record n) x true o s))
          (λ e. adds_hit s x t k r i q)
          (λ e. adds_none s s.1 (x ∷ []) k (fractions.reflexive s.1 k)
          (λ f m l. sym (crossed_some impact n f x t true q i ∙ cond-false (lt t f) (hit_at n x t ∷ []) [] (late t f (marks x t i) m l e))))
      by false q (Some t) i =
          cond_both (lt t s.1) (Some t) None (λ (o : Option Float). Adds impact n s (x ∷ []) (taken (Record n) x false o s))
          (λ e. adds_none s t (x ∷ []) (marks x t i) (fractions.weaker t s.1 (marks x t i) k (passes (lt t s.1) e))
          (λ f m l. sym (crossed_some impact n f x t false q i)))
          (λ e. adds_none s s.1 (x ∷ []) k (fractions.reflexive s.1 k) (λ f m l. sym (crossed_some impact n f x t false q i)))

  -- what two lists add, one after the other
  adds_append : (s y z : Swept) (xs ys : List Pair) → T (is_fraction s.1) → Adds impact n s xs y → Adds impact n y ys z → Adds impact n s (xs ++ ys) z
  adds_append s y z xs ys k a b = record {
    news = a.news ++ b.news;
    front = b.front ∙ ap (λ (l : List PseudoHit). l ++ b.news) a.front ∙ append_assoc (take s.0.count s.0.all) a.news b.news;
    count = simp length-append (omega arith);
    few = simp length-append (omega arith);
    long = b.long ∙ a.long;
    numbered = All-append (λ x. x.result ≡ n) a.news b.news a.numbered b.numbered;
    mark = b.mark;
    low = fractions.transitive z.1 y.1 s.1 b.mark a.mark k b.low a.low;
    noted_before = λ f m l.
        filter-append (λ x. lt x.fraction f) a.news b.news
        ∙ ap (λ (u : List PseudoHit). u ++ before f b.news)
        (a.noted_before f m (fractions.transitive f z.1 y.1 m b.mark a.mark l b.low))
        ∙ ap (λ (u : List PseudoHit). crossed impact n f xs ++ u) (b.noted_before f m l)
        ∙ sym (flat_map-append (λ x. hit_before n f x (impact x)) xs ys);
  }

  -- where there is room for a hit of each pair, the whole list adds so
  adds_all : (s : Swept) (xs : List Pair) → T (is_fraction s.1) → s.0.count + length xs ≤ length s.0.all
      → Adds impact n s xs (pairs_met impact (Record n) s xs)
  adds_all s [] k r = adds_none s s.1 [] k (fractions.reflexive s.1 k) (λ f m l. refl)
  adds_all s (x ∷ xs) k r =
      let y = pair_met impact (Record n) s x in
      let a = adds_one s x k (omega arith) in
      let room : y.0.count + length xs ≤ length y.0.all =
      let p = a.count in let q = a.few in let l = a.long in omega arith in
      adds_append s y (pairs_met impact (Record n) y xs) (x ∷ []) xs k a (adds_all y xs a.mark room)

-- ---- what is there at the end

module _ (impact : Pair → Option Float) (n : ℕ) (w : Written PseudoHit) (xs : List Pair) (z : Swept)
    (a : Adds impact n (w, one_f) xs z) (fits : w.count ≤ length w.all) where
  -- the new hits are those that were added
  news_there : new_hits w.count z.0 ≡ a.news
  news_there =
      let p = a.count in
      let more : z.0.count - w.count ≡ length a.news = omega arith in
      ap (λ (i : ℕ). take i (drop w.count z.0.all)) more
      ∙ sym (drop-take w.count (length a.news) z.0.all)
      ∙ ap (λ (i : ℕ). drop w.count (take i z.0.all)) (sym p)
      ∙ ap (drop w.count) a.front
      ∙ drop_at (take w.count w.all) a.news w.count (length-take-le w.count w.all fits)

  -- the earlier ones stay
  earlier_there : take w.count z.0.all ≡ take w.count w.all
  earlier_there =
      let p = a.count in
      let l : w.count ≤ z.0.count = omega arith in
      sym (take-take w.count z.0.count z.0.all l) ∙ ap (take w.count) a.front ∙ take_at (take w.count w.all) a.news w.count (length-take-le w.count w.all fits)

-- of what a sweep notes, the hits before its fraction are the pseudo impacts before it, and the earlier hits stay
pub hits_noted : (e : Env) (room n : ℕ) (h : RigidBodyHandle) (b : RigidBody) (w : Written PseudoHit)
    → PairFacts e → Found e b room → w.count + length (admitted_pairs e h b) ≤ length w.all
    → HitsNoted e n h b w (swept_to e room (Record n) h b w)
hits_noted e room n h b w facts fnd fits =
    let i = impact_of (situation e) b in
    let xs = admitted_pairs e h b in
    let s : Swept = (w, one_f) in
    let z = pairs_met i (Record n) s xs in
    let a = adds_all i (facts.marks b) n s xs one_is_a_fraction fits in
    let there = news_there i n w xs z a (omega arith) in
    subst (HitsNoted e n h b w) (sym (swept_met e room (Record n) h b w facts fnd))
    (record {
      earlier = earlier_there i n w xs z a (omega arith);
      grows = let p = a.count in omega arith;
      few = let p = a.count in let q = a.few in omega arith;
      long = a.long;
      noted =
          ap (before z.1) there
          ∙ a.noted_before z.1 a.mark (fractions.reflexive z.1 a.mark);
      numbered = λ x m. all-has (λ y. y.result ≡ n) a.news x a.numbered (subst (λ (l : List PseudoHit). Has l x) there m);
    })
