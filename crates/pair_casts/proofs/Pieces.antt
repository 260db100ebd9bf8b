-- The first n pieces among the children so far, child by child. Assumes nothing.
use Rattle.std.specs.Prelude.{◌≡◌, ◌≢◌, ℕ, ◌+◌, ◌<◌, Bool, true, false, List, [], ◌∷◌, ◌++◌, length, take, drop, map, filter}
use Rattle.std.proofs.Common.{arith, get_or, sym, ap, ◌∙◌, length-append, length-take}
use Rattle.std.proofs.lemmas.List.{map-append, take-append-le, take-append-drop, take-take, take_all, append-nil, take_more}
use Rattle.std.proofs.lemmas.List.Elements.{filter-append}

-- none comes once there are n
none_more : {X Y : Type 0} (n : ℕ) (f : X → Y) (p : X → Bool) (xs ys : List X)
    → length (take n (map f (filter p xs))) ≡ n → take n (map f (filter p (xs ++ ys))) ≡ take n (map f (filter p xs))
none_more n f p xs ys full = grind (arith, filter-append, map-append, take-append-le, length-take)

pub next_full : {X Y : Type 0} (n : ℕ) (f : X → Y) (p : X → Bool) (xs : List X) (i : ℕ) (ys : List Y)
    → ys ≡ take n (map f (filter p (take i xs))) → length ys ≡ n → ys ≡ take n (map f (filter p (take (i + 1) xs)))
next_full n f p xs i ys so full =
    let more = take (i + 1) xs in
    let front : take i xs ++ drop i more ≡ more = ap (λ zs. zs ++ drop i more) (sym (take-take i (i + 1) xs (omega arith))) ∙ take-append-drop i more in
    so ∙ sym (none_more n f p (take i xs) (drop i more) (ap length (sym so) ∙ full)) ∙ ap (λ zs. take n (map f (filter p zs))) front

-- nor one that is no piece
pub next_other : {X Y : Type 0} (n : ℕ) (f : X → Y) (p : X → Bool) (xs : List X) (i : ℕ) (d : X) (ys : List Y) → i < length xs
    → ys ≡ take n (map f (filter p (take i xs))) → p (get_or xs i d) ≡ false → ys ≡ take n (map f (filter p (take (i + 1) xs)))
next_other n f p xs i d ys h so other = simp (take_more xs i d h, filter-append, other, append-nil, so)

one_more : {Y : Type 0} (n : ℕ) (ys : List Y) (y : Y) → length (take n ys) ≢ n → take n (ys ++ y ∷ []) ≡ take n ys ++ y ∷ []
one_more n ys y room = grind (arith, take_all, length-take, length-append)

pub next_piece : {X Y : Type 0} (n : ℕ) (f : X → Y) (p : X → Bool) (xs : List X) (i : ℕ) (d : X) (ys : List Y) → i < length xs
    → ys ≡ take n (map f (filter p (take i xs))) → p (get_or xs i d) ≡ true → length ys ≢ n
    → ys ++ f (get_or xs i d) ∷ [] ≡ take n (map f (filter p (take (i + 1) xs)))
next_piece n f p xs i d ys h so one room =
    simp (take_more xs i d h, filter-append, one, map-append, so) (sym (one_more n (map f (filter p (take i xs))) (f (get_or xs i d)) (λ e. room (ap length so ∙ e))))
