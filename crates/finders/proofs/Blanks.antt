-- A list's front. Assumes nothing.
use Rattle.std.proofs.Common.{◌≡◌, ℕ, min, List, length, take, sym, ap, ◌∙◌, inl, inr, arith}
use Rattle.std.proofs.lemmas.List.{take_all}
use Rattle.std.proofs.lemmas.Bool.{cases_lt}

pub take_min : {X : Type 0} (n : ℕ) (xs : List X) → take (min (length xs) n) xs ≡ take n xs
take_min n xs =
    elim (cases_lt n (length xs)) [
      | inl l ↦ ap (λ (k : ℕ). take k xs) (omega arith)
      | inr l ↦ take_all (min (length xs) n) xs (omega arith) ∙ sym (take_all n xs l)
    ]
