-- The least of a list of impacts is one of them, no impact lies below it, and it turns on the members of the list alone. Assumes nothing.
use Rattle.std.proofs.Common.{◌≡◌, Bool, T, List, [], ◌∷◌, map, Some, None, Option, sym, refl, ap, ◌∙◌, subst}
use Rattle.std.specs.List.{ContainsAt as Has}
use Rattle.std.specs.Bool.{passes}
use Rattle.std.proofs.lemmas.Bool.{cond_both}
use Rattle.search.specs.Marks.{Marks}
use Rattle.search.specs.Searches.{lesser, least_of}
use Rattle.search.proofs.Members.{has_first, has_rest, has_none, has_cases}
use Rattle.search.proofs.Orders.{not_le_lt}

-- the lesser of an impact and the least of the rest, of those that are there
abbrev pub first : {M : Type 0} → (M → M → Bool) → Option M → Option M → Option M
first le None l = l
first le (Some m) l = Some (lesser le m l)

-- the least of a list is the lesser of its first and the least of its rest
pub least_first : {M : Type 0} (le : M → M → Bool) (x : Option M) (is : List (Option M)) → least_of le (x ∷ is) ≡ first le x (least_of le is)
least_first le None is = refl
least_first le (Some m) is = refl

-- ---- where none is there

-- a question more that has no impact
absent_more : {M Q : Type 0} (impact : Q → Option M) (x : Q) (qs : List Q) → impact x ≡ None → ((q : Q) → Has qs q → impact q ≡ None)
    → (q : Q) → Has (x ∷ qs) q → impact q ≡ None
absent_more impact x qs i rest q h = has_cases (impact q ≡ None) x q qs (λ w. ap impact (sym w) ∙ i) (rest q) h

-- where a list of impacts has no least, none of them is there
pub least_absent : {M Q : Type 0} (le : M → M → Bool) (impact : Q → Option M) (qs : List Q)
    → least_of le (map impact qs) ≡ None → (q : Q) → Has qs q → impact q ≡ None
least_absent le impact [] e q h = absurd (has_none q h)
least_absent {M} {Q} le impact (x ∷ qs) e q h =
    by (impact x) refl (sym (least_first le (impact x) (map impact qs)) ∙ e) (λ k p r. least_absent le impact qs k p r)
  where
    by : (y : Option M) → impact x ≡ y → first le y (least_of le (map impact qs)) ≡ None
        → (least_of le (map impact qs) ≡ None → (p : Q) → Has qs p → impact p ≡ None) → impact q ≡ None
    by None i k rest = absent_more impact x qs i (rest k) q h
    by (Some m) i k rest = cc

-- ---- where one is there

module _ {M Q : Type 0} (o : Marks M) (impact : Q → Option M) (marks : (q : Q) (n : M) → impact q ≡ Some n → T (o.admitted n)) where
  -- one of the questions has the impact m, and no impact of theirs lies below it
  abbrev Lowest : List Q → M → Type 0
  Lowest qs m = ((q : Q) × Has qs q × (impact q ≡ Some m)) × ((q : Q) (n : M) → Has qs q → impact q ≡ Some n → T (o.le m n))

  -- what is known of the least of a list of questions, where it is there and where it is not
  abbrev Given : List Q → Option M → Type 0
  Given qs None = (q : Q) → Has qs q → impact q ≡ None
  Given qs (Some m) = Lowest qs m

  -- a question before the others whose impact is the least of all
  lowest_first : (x : Q) (qs : List Q) (m : M) → impact x ≡ Some m → ((q : Q) (n : M) → Has qs q → impact q ≡ Some n → T (o.le m n)) → Lowest (x ∷ qs) m
  lowest_first x qs m i low =
      ((x, has_first x qs, i), λ q n h e. has_cases (T (o.le m n)) x q qs (λ w. same n (sym i ∙ ap impact w ∙ e)) (λ r. low q n r e) h)
    where
      same : (n : M) → Some m ≡ Some n → T (o.le m n)
      same n e = let z : m ≡ n = cc in subst (λ s. T (o.le m s)) z (o.reflexive m (marks x m i))

  -- a question before the others whose impact does not lie below their least
  lowest_rest : (x : Q) (qs : List Q) (m : M) → ((n : M) → impact x ≡ Some n → T (o.le m n)) → Lowest qs m → Lowest (x ∷ qs) m
  lowest_rest x qs m low g = (
    (g.0.0, has_rest x g.0.0 qs g.0.1, g.0.2),
    λ q n h e. has_cases (T (o.le m n)) x q qs (λ w. low n (ap impact w ∙ e)) (λ r. g.1 q n r e) h,
  )

  -- one question more
  given_more : (x : Q) (qs : List Q) (y l : Option M) → impact x ≡ y → Given qs l → Given (x ∷ qs) (first o.le y l)
  given_more x qs None None i g = absent_more impact x qs i g
  given_more x qs None (Some n) i g = lowest_rest x qs n (λ k e. cc) g
  given_more x qs (Some m) None i g = lowest_first x qs m i (λ q k h e. cc (g q h))
  given_more x qs (Some m) (Some n) i g =
      let a = marks x m i in
      let b = marks g.0.0 n g.0.2 in
      cond_both (o.le m n) m n (Lowest (x ∷ qs))
      (λ t. lowest_first x qs m i (λ q k h e. o.transitive m n k a b (marks q k e) (passes (o.le m n) t) (g.1 q k h e)))
      (λ t. lowest_rest x qs n
      (λ k e. let z : m ≡ k = let s : Some m ≡ Some k = sym i ∙ e in cc in subst (λ s. T (o.le n s)) z (o.weaker n m b a (not_le_lt o n m b a t)))
      g)

  -- the least of the impacts of any list is so
  given : (qs : List Q) → Given qs (least_of o.le (map impact qs))
  given [] = λ q h. absurd (has_none q h)
  given (q ∷ qs) =
      subst (Given (q ∷ qs)) (sym (least_first o.le (impact q) (map impact qs)))
      (given_more q qs (impact q) (least_of o.le (map impact qs)) refl (given qs))

  -- the least of impacts is one of them, and no impact lies below it
  pub least_present : (qs : List Q) (m : M) → least_of o.le (map impact qs) ≡ Some m
      → ((q : Q) × Has qs q × (impact q ≡ Some m)) × ((q : Q) (n : M) → Has qs q → impact q ≡ Some n → T (o.le m n))
  least_present qs m e = subst (Given qs) e (given qs)

  -- the least of impacts is admitted
  pub least_admitted : (qs : List Q) (m : M) → least_of o.le (map impact qs) ≡ Some m → T (o.admitted m)
  least_admitted qs m e = let g = (least_present qs m e).0 in marks g.0 m g.2

  -- lists with the same members have the same least impact
  pub least_members : (xs ys : List Q) → ((q : Q) → Has xs q → Has ys q) → ((q : Q) → Has ys q → Has xs q)
      → least_of o.le (map impact xs) ≡ least_of o.le (map impact ys)
  least_members xs ys sub sup = by (least_of o.le (map impact xs)) (least_of o.le (map impact ys)) (given xs) (given ys)
    where
      by : (l k : Option M) → Given xs l → Given ys k → l ≡ k
      by None None g h = refl
      by None (Some n) g h = cc (g h.0.0 (sup h.0.0 h.0.1))
      by (Some m) None g h = cc (h g.0.0 (sub g.0.0 g.0.1))
      by (Some m) (Some n) g h =
          ap Some (o.antisymmetric m n (marks g.0.0 m g.0.2) (marks h.0.0 n h.0.2)
          (g.1 h.0.0 n (sup h.0.0 h.0.1) h.0.2) (h.1 g.0.0 m (sub g.0.0 g.0.1) g.0.2))
