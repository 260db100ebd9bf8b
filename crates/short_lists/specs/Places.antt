-- The places of a short list, told again from its values: a proof that stands here, since the type itself cites it.
use Rattle.std.specs.Prelude.{◌≡◌, ℕ, ◌-◌, ◌≤◌, ◌++◌, List, length, take, drop, replicate}
use Rattle.std.proofs.Common.{arith, ap, sym, ◌∙◌, take-append-drop, length-take-le}

pub given_back : {X : Type 0} → (xs : List X) (n m : ℕ) (b : X) → n ≤ m → length xs ≡ m → drop n xs ≡ replicate (m - n) b →
    (take n xs ++ replicate (m - length (take n xs)) b ≡ xs) × (length (take n xs) ≡ n)
given_back xs n m b h l d =
    let k : length (take n xs) ≡ n = length-take-le n xs (omega (arith, h, l)) in
    let e : take n xs ++ replicate (m - length (take n xs)) b ≡ take n xs ++ drop n xs = ap (λ j. take n xs ++ replicate (m - j) b) k ∙ ap (λ ys. take n xs ++ ys) (sym d) in
    (e ∙ take-append-drop n xs, k)
