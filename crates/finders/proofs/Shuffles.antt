-- Two lists without repetition that have the same members are in some order the same. Assumes nothing.
use Rattle.std.proofs.Common.{◌≡◌, List, [], ◌∷◌, ◌++◌, sym, refl, subst, inl, inr}
use Rattle.std.specs.List.Sorted.{IsPermutation}
use Rattle.std.proofs.lemmas.List.Sorted.{IsPermutation-refl, IsPermutation-cons, IsPermutation-sym, IsPermutation-middle, IsPermutation-trans}
use Rattle.finders.specs.Members.{In, Distinct}
use Rattle.finders.specs.TableLaws.{in_left, in_right, in_cases}

record Split {X : Type 0} (x : X) (ys : List X) : Type 0 where
  before : List X
  after : List X
  is : ys ≡ before ++ x ∷ after

split : {X : Type 0} (x : X) (ys : List X) → In x ys → Split x ys
split x [] i = absurd i
split x (y ∷ ys) (inl e) = record { before = []; after = ys; is = subst (λ z. y ∷ ys ≡ z ∷ ys) (sym e) refl }
split x (y ∷ ys) (inr i) =
    let s = split x ys i in
    record { before = y ∷ s.before; after = s.after; is = subst (λ zs. y ∷ ys ≡ y ∷ zs) s.is refl }

module _ {X : Type 0} (x : X) (r : List X) where
  one_more : (y : X) (l : List X) → In y (l ++ r) → In y (l ++ x ∷ r)
  one_more y l i = elim (in_cases y l r i) [ inl j ↦ in_left y l (x ∷ r) j | inr j ↦ in_right y l (x ∷ r) (inr j) ]

  one_less : (y : X) (l : List X) → (y ≡ x → ⊥) → In y (l ++ x ∷ r) → In y (l ++ r)
  one_less y l n i =
      elim (in_cases y l (x ∷ r) i) [
        | inl j ↦ in_left y l r j
        | inr j ↦ elim j [ inl e ↦ absurd (n e) | inr k ↦ in_right y l r k ]
      ]

  rest_distinct : (l : List X) → Distinct (l ++ x ∷ r) → Distinct (l ++ r)
  rest_distinct [] d = d.1
  rest_distinct (y ∷ l) d = (λ i. d.0 (one_more y l i), rest_distinct l d.1)

  not_again : (l : List X) → Distinct (l ++ x ∷ r) → In x (l ++ r) → ⊥
  not_again [] d i = d.0 i
  not_again (y ∷ l) d (inl e) = d.0 (in_right y l (x ∷ r) (inl (sym e)))
  not_again (y ∷ l) d (inr i) = not_again l d.1 i

pub shuffled_members : {X : Type 0} (xs ys : List X) → Distinct xs → Distinct ys → ((x : X) → In x xs → In x ys) → ((x : X) → In x ys → In x xs) → IsPermutation xs ys
shuffled_members [] [] d e f g = IsPermutation-refl []
shuffled_members [] (y ∷ ys) d e f g = absurd (g y (inl refl))
shuffled_members {X} (x ∷ xs) ys d e f g =
    let s = split x ys (f x (inl refl)) in
    let l = s.before in
    let r = s.after in
    let e' : Distinct (l ++ x ∷ r) = subst Distinct s.is e in
    let there : (y : X) → In y xs → In y (l ++ r) = λ y i. one_less x r y l (λ k. d.0 (subst (λ z. In z xs) k i)) (subst (In y) s.is (f y (inr i))) in
    let back : (y : X) → In y (l ++ r) → In y xs =
    λ y i. elim (g y (subst (In y) (sym s.is) (one_more x r y l i))) [ inl k ↦ absurd (not_again x r l e' (subst (λ z. In z (l ++ r)) k i)) | inr j ↦ j ] in
    subst (IsPermutation (x ∷ xs)) (sym s.is)
    (IsPermutation-trans (x ∷ xs) (x ∷ (l ++ r)) (l ++ x ∷ r) (IsPermutation-cons x xs (l ++ r) (shuffled_members xs (l ++ r) d.1 (rest_distinct x r l e') there back)) (IsPermutation-sym (l ++ x ∷ r) (x ∷ (l ++ r)) (IsPermutation-middle l x r)))
