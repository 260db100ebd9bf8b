-- What lists have that are put together from others. Assumes nothing.
use Rattle.std.proofs.Common.{◌≡◌, ◌⊎◌, List, [], ◌∷◌, ◌++◌, sym, subst, inl, inr}
use Rattle.std.specs.List.{flat_map, ContainsAt as Has}
use Rattle.std.proofs.ByRecursion.{has_append_left, has_append_right}
use Rattle.search.proofs.Members.{has_first, has_rest, has_none, has_cases}
use Rattle.finders.specs.Members.{In}

-- ---- the two words for a member say the same

pub in_has : {X : Type 0} (x : X) (xs : List X) → In x xs → Has xs x
in_has x [] i = absurd i
in_has x (y ∷ ys) (inl e) = subst (λ z. Has (y ∷ ys) z) (sym e) (has_first y ys)
in_has x (y ∷ ys) (inr i) = has_rest y x ys (in_has x ys i)

pub has_in : {X : Type 0} (x : X) (xs : List X) → Has xs x → In x xs
has_in x [] h = absurd (has_none x h)
has_in x (y ∷ ys) h = has_cases (In x (y ∷ ys)) y x ys (λ e. inl (sym e)) (λ r. inr (has_in x ys r)) h

-- ---- one element, two lists, and a list for each of a list

-- a list of one has nothing else
pub has_one : {X : Type 0} (x y : X) → Has (y ∷ []) x → y ≡ x
has_one x y h = has_cases (y ≡ x) y x [] (λ e. e) (λ r. absurd (has_none x r)) h

-- what two lists have together, the first has or the second
pub has_split : {X : Type 0} (x : X) (xs ys : List X) → Has (xs ++ ys) x → Has xs x ⊎ Has ys x
has_split x [] ys h = inr h
has_split x (y ∷ xs) ys h =
    has_cases (Has (y ∷ xs) x ⊎ Has ys x) y x (xs ++ ys) (λ e. inl (subst (λ z. Has (y ∷ xs) z) e (has_first y xs)))
    (λ r. elim (has_split x xs ys r) [ inl i ↦ inl (has_rest y x xs i) | inr i ↦ inr i ])
    h

module _ {X Y : Type 0} (f : X → List Y) (y : Y) where
  -- what the lists of all of a list have, the list of one of them has
  pub has_joined : (xs : List X) → Has (flat_map f xs) y → (x : X) × Has xs x × Has (f x) y
  has_joined [] h = absurd (has_none y h)
  has_joined (x ∷ xs) h =
      elim (has_split y (f x) (flat_map f xs) h) [
        | inl i ↦ (x, has_first x xs, i)
        | inr i ↦ let r = has_joined xs i in (r.0, has_rest x r.0 xs r.1, r.2)
      ]

  -- and what the list of one has, they have
  pub joined_has : (x : X) (xs : List X) → Has xs x → Has (f x) y → Has (flat_map f xs) y
  joined_has x [] h k = absurd (has_none x h)
  joined_has x (z ∷ xs) h k =
      has_cases (Has (flat_map f (z ∷ xs)) y) z x xs
      (λ e. has_append_left (f z) (flat_map f xs) y (subst (λ w. Has (f w) y) (sym e) k))
      (λ r. has_append_right (f z) (flat_map f xs) y (joined_has x xs r k))
      h
