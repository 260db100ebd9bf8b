-- What a list has, by its first element and its rest. Assumes nothing.
use Rattle.std.proofs.Common.{◌≡◌, zero, suc, List, [], ◌∷◌, refl, arith}
use Rattle.std.specs.List.{ContainsAt as Has}
use Rattle.std.proofs.ByRecursion.{has_append_right}

-- a list has its first element
pub has_first : {X : Type 0} (x : X) (xs : List X) → Has (x ∷ xs) x
has_first x xs = (0, omega arith, λ d. refl)

-- and what its rest has
pub has_rest : {X : Type 0} (x y : X) (xs : List X) → Has xs y → Has (x ∷ xs) y
has_rest x y xs h = has_append_right (x ∷ []) xs y h

-- an empty list has nothing
pub has_none : {X : Type 0} (y : X) → Has [] y → ⊥
has_none y h = let l = h.1 in omega arith

-- what a list has is its first element, or in the rest
pub has_cases : {X : Type 0} (P : Type 0) (x y : X) (xs : List X) → (x ≡ y → P) → (Has xs y → P) → Has (x ∷ xs) y → P
has_cases P x y xs f g (zero, l, e) = f (e x)
has_cases P x y xs f g (suc k, l, e) = g (k, omega arith, e)
