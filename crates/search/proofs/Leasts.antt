-- The least impact of the questions of which a predicate holds. Assumes nothing.
use Rattle.std.proofs.Common.{◌≡◌, T, Option, sym, refl, ap, ◌∙◌, subst, inl, inr}
use Rattle.search.specs.Marks.{Marks}
use Rattle.search.specs.Laws.{Least}

-- ---- more questions, and the same ones

-- among more questions the least impact is no larger
pub least_falls : {M Q : Type 0} (o : Marks M) (impact : Q → Option M) (P R : Q → Type 0) (r s : M) → T (o.admitted r) → T (o.admitted s)
    → ((q : Q) → P q → R q) → Least o P impact r → Least o R impact s → T (o.le s r)
least_falls o impact P R r s p q sub l m =
    elim l.attained [
      | inl h ↦ m.lowest h.0 r (sub h.0 h.1) h.2
      | inr h ↦ subst (λ x. T (o.le s x)) (sym h.0) (o.to_one s q)
    ]

-- the same questions have one least impact
pub least_unique : {M Q : Type 0} (o : Marks M) (impact : Q → Option M) (P R : Q → Type 0) (r s : M) → T (o.admitted r) → T (o.admitted s)
    → ((q : Q) → P q → R q) → ((q : Q) → R q → P q) → Least o P impact r → Least o R impact s → r ≡ s
least_unique o impact P R r s p q sub sup l m =
    o.antisymmetric r s p q (least_falls o impact R P s r q p sup m l) (least_falls o impact P R r s p q sub l m)

-- ---- other names for the questions

-- The questions of P go by other names, those of P', and f says what each name means: the least impact is the same.
module _ {M Q Q' : Type 0} (o : Marks M) (impact : Q → Option M) (f : Q' → Q) (P : Q → Type 0) (P' : Q' → Type 0) (r : M)
    (named : (q : Q) → P q → (q' : Q') × P' q' × (f q' ≡ q)) (meant : (q' : Q') → P' q' → P (f q')) where
  pub least_map : Least o P impact r → Least o P' (λ q'. impact (f q')) r
  least_map l = record {
    attained = elim l.attained [
      | inl h ↦ let n = named h.0 h.1 in inl (n.0, n.1, ap impact n.2 ∙ h.2)
      | inr h ↦ inr (h.0, λ q' p. h.1 (f q') (meant q' p))
    ];
    lowest = λ q' m p e. l.lowest (f q') m (meant q' p) e;
  }

  pub least_unmap : Least o P' (λ q'. impact (f q')) r → Least o P impact r
  least_unmap l = record {
    attained = elim l.attained [
      | inl h ↦ inl (f h.0, meant h.0 h.1, h.2)
      | inr h ↦ inr (h.0, λ q p. let n = named q p in ap impact (sym n.2) ∙ h.1 n.0 n.1)
    ];
    lowest = λ q m p e. let n = named q p in l.lowest n.0 m n.1 (ap impact n.2 ∙ e);
  }

-- predicates that hold of the same questions have the same least impact
pub least_swap : {M Q : Type 0} (o : Marks M) (impact : Q → Option M) (P R : Q → Type 0) (r : M)
    → ((q : Q) → P q → R q) → ((q : Q) → R q → P q) → Least o P impact r → Least o R impact r
least_swap o impact P R r sub sup l = least_map o impact (λ q. q) P R r (λ q p. (q, sub q p, refl)) sup l
