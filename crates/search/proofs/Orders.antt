-- What follows of the order of admitted marks, and of the tests that accept. Assumes nothing.
use Rattle.std.proofs.Common.{◌≡◌, Bool, true, false, not, T, ◌⊎◌, sym, refl, subst, inl, inr, T_not}
use lib.Dec.{not_T}
use Rattle.std.specs.Bool.{fails}
use Rattle.search.specs.Marks.{Marks}
use Rattle.search.specs.Laws.{Accepts}

-- a test that holds says so
pub holds : (b : Bool) → T b → b ≡ true
holds true t = refl
holds false t = absurd t

-- ---- two marks

module _ {M : Type 0} (o : Marks M) (a b : M) (p : T (o.admitted a)) (q : T (o.admitted b)) where
  -- of two marks the first lies below, or the second is at most at it
  pub lt_or_le : T (o.lt a b) ⊎ T (o.le b a)
  lt_or_le = by (o.le b a) (o.strict a b p q)
    where
      by : (t : Bool) → o.lt a b ≡ not t → T (o.lt a b) ⊎ T t
      by true e = inr tt
      by false e = inl (subst T (sym e) tt)

  -- any two marks lie in one order or the other
  pub total : T (o.le a b) ⊎ T (o.le b a)
  total = elim lt_or_le [ inl h ↦ inl (o.weaker a b p q h) | inr h ↦ inr h ]

  -- a mark is never at most at one that it lies below
  pub lt_not_le : T (o.lt a b) → T (o.le b a) → ⊥
  lt_not_le h k = T_not (o.le b a) (subst T (o.strict a b p q) h) k

  -- what does not lie below is no less
  pub not_lt_le : o.lt a b ≡ false → T (o.le b a)
  not_lt_le e = elim lt_or_le [ inl h ↦ absurd (T_not (o.lt a b) (fails (o.lt a b) e) h) | inr h ↦ h ]

  -- what is not at most at a mark lies above it
  pub not_le_lt : o.le b a ≡ false → T (o.lt a b)
  not_le_lt e = elim lt_or_le [ inl h ↦ h | inr h ↦ absurd (T_not (o.le b a) (fails (o.le b a) e) h) ]

-- ---- three marks

module _ {M : Type 0} (o : Marks M) (a b c : M) (p : T (o.admitted a)) (q : T (o.admitted b)) (r : T (o.admitted c)) where
  -- below, then at most: below
  pub lt_le_lt : T (o.lt a b) → T (o.le b c) → T (o.lt a c)
  lt_le_lt h k = subst T (sym (o.strict a c p r)) (not_T (o.le c a) (λ l. lt_not_le o a b p q h (o.transitive b c a q r p k l)))

  -- at most, then below: below
  pub le_lt_lt : T (o.le a b) → T (o.lt b c) → T (o.lt a c)
  le_lt_lt h k = subst T (sym (o.strict a c p r)) (not_T (o.le c a) (λ l. lt_not_le o b c q r k (o.transitive c a b r p q l h)))

-- ---- the tests that accept

-- What the search uses of a test: it takes nothing above the cap and all that lies below it, and with a mark all that is less.
pub record Keeps {M : Type 0} (o : Marks M) (test : M → M → Bool) : Type 0 where
  pub low : (a c : M) → T (o.admitted a) → T (o.admitted c) → T (test a c) → T (o.le a c)
  pub below : (a c : M) → T (o.admitted a) → T (o.admitted c) → T (o.lt a c) → T (test a c)
  pub less : (a b c : M) → T (o.admitted a) → T (o.admitted b) → T (o.admitted c) → T (o.le a b) → T (test b c) → T (test a c)

-- both tests that accept are such tests
pub keeps : {M : Type 0} (o : Marks M) (test : M → M → Bool) → Accepts o test → Keeps o test
keeps o test (inl e) = subst (Keeps o) (sym e) (record { low = o.weaker; below = λ a c p q h. h; less = le_lt_lt o })
keeps o test (inr e) = subst (Keeps o) (sym e) (record { low = λ a c p q h. h; below = o.weaker; less = o.transitive })
