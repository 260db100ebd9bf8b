-- The capped search finds the least impact of what it asks. Assumes nothing.
use Rattle.std.proofs.Common.{◌≡◌, Bool, true, false, cond, T, List, [], ◌∷◌, map, Some, None, Option, unwrap_or, sym, refl, ap, ◌∙◌, subst, inl, inr}
use Rattle.std.specs.List.{ContainsAt as Has}
use Rattle.std.specs.Bool.{passes}
use Rattle.std.proofs.lemmas.Bool.{cond-true, cond-false, cond_both, both_ways}
use Rattle.search.specs.Marks.{Marks}
use Rattle.search.specs.Searches.{accepted, later, sought, least_of}
use Rattle.search.specs.Laws.{Least, Capped, Accepts, SearchLaws}
use Rattle.search.proofs.Orders.{holds, Keeps, keeps, not_le_lt}
use Rattle.search.proofs.Leasts.{least_falls, least_unique}
use Rattle.search.proofs.Impacts.{first, least_first, least_absent, least_present, least_admitted}

-- ---- how a search goes on

-- after nothing, what comes later is all
later_none : {M : Type 0} (y : Option M) → later None y ≡ y
later_none None = refl
later_none (Some m) = refl

-- what comes later may be joined in either order
later_later : {M : Type 0} (b y z : Option M) → later (later b y) z ≡ later b (later y z)
later_later b y None = refl
later_later b y (Some m) = refl

-- the cap after one more answer
later_value : {M : Type 0} (b y : Option M) (c : M) → unwrap_or (later b y) c ≡ unwrap_or y (unwrap_or b c)
later_value b None c = refl
later_value b (Some m) c = refl

module _ {Q M : Type 0} (ask : Q → M → Option M) where
  -- a search that goes on accepts what a search from the cap reached accepts
  pub sought_on : (c : M) (best : Option M) (qs : List Q) → sought ask c best qs ≡ later best (sought ask (unwrap_or best c) None qs)
  sought_on c best [] = refl
  sought_on c best (q ∷ qs) =
      let d = unwrap_or best c in
      let y = ask q d in
      sought_on c (later best y) qs
      ∙ later_later best y (sought ask (unwrap_or (later best y) c) None qs)
      ∙ ap (λ (e : M). later best (later y (sought ask e None qs))) (later_value best y c)
      ∙ sym (ap (λ (z : Option M). later best (later z (sought ask (unwrap_or z d) None qs))) (later_none y))
      ∙ sym (ap (later best) (sought_on d (later None y) qs))

  -- so it ends at the same cap
  pub sought_from : (c : M) (best : Option M) (qs : List Q)
      → unwrap_or (sought ask c best qs) c ≡ unwrap_or (sought ask (unwrap_or best c) None qs) (unwrap_or best c)
  sought_from c best qs =
      ap (λ (z : Option M). unwrap_or z c) (sought_on c best qs) ∙ later_value best (sought ask (unwrap_or best c) None qs) c

-- ---- a whole search keeps the cap law

module _ {M : Type 0} (o : Marks M) (test : M → M → Bool) (k : Keeps o test) where
  -- two impacts one after the other: the lesser is what is left
  accepted_both : (m n c : M) → T (o.admitted m) → T (o.admitted n) → T (o.admitted c) → (s t : Bool) → test m c ≡ s → o.le m n ≡ t
      → later (cond s (Some m) None) (accepted test (Some n) (unwrap_or (cond s (Some m) None) c)) ≡ accepted test (Some (cond t m n)) c
  accepted_both m n c a b d true true e f =
      cond_both (test n m) (Some n) None (λ z. later (Some m) z ≡ Some m)
      (λ h. ap Some (o.antisymmetric n m b a (k.low n m b a (passes (test n m) h)) (passes (o.le m n) f))) (λ h. refl)
      ∙ sym (cond-true (test m c) (Some m) None e)
  accepted_both m n c a b d true false e f =
      let l = not_le_lt o n m b a f in
      ap (later (Some m)) (cond-true (test n m) (Some n) None (holds (test n m) (k.below n m b a l)))
      ∙ sym (cond-true (test n c) (Some n) None (holds (test n c) (k.less n m c b a d (o.weaker n m b a l) (passes (test m c) e))))
  accepted_both m n c a b d false true e f =
      cond_both (test n c) (Some n) None (λ z. later None z ≡ None)
      (λ h. absurd (both_ways (test m c) e (holds (test m c) (k.less m n c a b d (passes (o.le m n) f) (passes (test n c) h))))) (λ h. refl)
      ∙ sym (cond-false (test m c) (Some m) None e)
  accepted_both m n c a b d false false e f = later_none (accepted test (Some n) c)

  -- what is there is admitted
  abbrev Admitted : Option M → Type 0
  Admitted x = (m : M) → x ≡ Some m → T (o.admitted m)

  -- an impact, then the least of the rest under the cap that it leaves, is the least of all under the first cap
  accepted_first : (x l : Option M) (c : M) → Admitted x → Admitted l → T (o.admitted c)
      → later (accepted test x c) (accepted test l (unwrap_or (accepted test x c) c)) ≡ accepted test (first o.le x l) c
  accepted_first None l c a b d = later_none (accepted test l c)
  accepted_first (Some m) None c a b d = refl
  accepted_first (Some m) (Some n) c a b d = accepted_both m n c (a m refl) (b n refl) d (test m c) (o.le m n) refl refl

  -- what is left of an impact under a cap is a cap again, and no larger
  accepted_cap : (x : Option M) (c : M) → Admitted x → T (o.admitted c)
      → T (o.admitted (unwrap_or (accepted test x c) c)) × T (o.le (unwrap_or (accepted test x c) c) c)
  accepted_cap None c a d = (d, o.reflexive c d)
  accepted_cap (Some m) c a d =
      cond_both (test m c) (Some m) None (λ z. T (o.admitted (unwrap_or z c)) × T (o.le (unwrap_or z c) c))
      (λ h. (a m refl, k.low m c (a m refl) d (passes (test m c) h))) (λ h. (d, o.reflexive c d))

module _ {M Q : Type 0} (o : Marks M) (test : M → M → Bool) (ask : Q → M → Option M) (impact : Q → Option M) (t : Accepts o test)
    (law : Capped o test ask impact) where
  -- a whole search keeps the cap law again: it has the least impact of its questions
  pub composed : (qs : List Q) (c : M) → T (o.admitted c) → sought ask c None qs ≡ accepted test (least_of o.le (map impact qs)) c
  composed [] c d = refl
  composed (q ∷ qs) c d =
      let k = keeps o test t in
      let y = accepted test (impact q) c in
      let l = least_of o.le (map impact qs) in
      ap (λ (z : Option M). sought ask c z qs) (later_none (ask q c) ∙ law.capped q c d)
      ∙ sought_on ask c y qs
      ∙ ap (later y) (composed qs (unwrap_or y c) (accepted_cap o test k (impact q) c (law.marks q) d).0)
      ∙ accepted_first o test k (impact q) l c (law.marks q) (least_admitted o impact law.marks qs) d
      ∙ sym (ap (λ (z : Option M). accepted test z c) (least_first o.le (impact q) (map impact qs)))

  -- the cap that a search ends at is admitted, and no larger than the one that it began with
  ends : (qs : List Q) (c : M) → T (o.admitted c)
      → T (o.admitted (unwrap_or (sought ask c None qs) c)) × T (o.le (unwrap_or (sought ask c None qs) c) c)
  ends qs c d =
      subst (λ (z : Option M). T (o.admitted (unwrap_or z c)) × T (o.le (unwrap_or z c) c)) (sym (composed qs c d))
      (accepted_cap o test (keeps o test t) (least_of o.le (map impact qs)) c (least_admitted o impact law.marks qs) d)

-- ---- what a search finds

module _ {M Q : Type 0} (o : Marks M) (ask : Q → M → Option M) (impact : Q → Option M) (law : Capped o o.lt ask impact) where
  -- what a search finds under an admitted cap is admitted
  pub found_admitted : (qs : List Q) (c : M) → T (o.admitted c) → T (o.admitted (unwrap_or (sought ask c None qs) c))
  found_admitted qs c d = (ends o o.lt ask impact (inl refl) law qs c d).0

  -- and it is at most the cap
  pub found_below : (qs : List Q) (c : M) → T (o.admitted c) → T (o.le (unwrap_or (sought ask c None qs) c) c)
  found_below qs c d = (ends o o.lt ask impact (inl refl) law qs c d).1

  -- from the cap one, with impacts below one, the search finds the least impact, or one
  pub found : ((q : Q) (m : M) → impact q ≡ Some m → T (o.lt m o.one)) → (qs : List Q) → Least o (Has qs) impact (unwrap_or (sought ask o.one None qs) o.one)
  found below qs =
      subst (λ (z : Option M). Least o (Has qs) impact (unwrap_or z o.one)) (sym (composed o o.lt ask impact (inl refl) law qs o.one o.one_admitted))
      (by (least_of o.le (map impact qs)) refl)
    where
      by : (l : Option M) → least_of o.le (map impact qs) ≡ l → Least o (Has qs) impact (unwrap_or (accepted o.lt l o.one) o.one)
      by None e =
          let none = least_absent o.le impact qs e in
          record { attained = inr (refl, none); lowest = λ q m h i. cc (none q h) }
      by (Some m) e =
          let g = least_present o impact law.marks qs m e in
          subst (λ (z : Option M). Least o (Has qs) impact (unwrap_or z o.one))
          (sym (cond-true (o.lt m o.one) (Some m) None (holds (o.lt m o.one) (below g.0.0 m g.0.2))))
          (record { attained = inl g.0; lowest = g.1 })

-- ---- all of it

pub search_laws : (M Q : Type 0) → SearchLaws M Q
search_laws M Q = record {
  composed = composed;
  least_present = λ o impact qs m marks e. least_present o impact marks qs m e;
  least_absent = λ o. least_absent o.le;
  found = found;
  falls = λ o impact xs ys. least_falls o impact (Has xs) (Has ys);
  unique = λ o impact xs ys. least_unique o impact (Has xs) (Has ys);
}
