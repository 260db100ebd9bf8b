-- The numbers of a word, one part after another. Assumes nothing.
use Rattle.std.proofs.Common.{◌≡◌, ℕ, zero, suc, ◌+◌, ◌<◌, ◌≤◌, List, [], ◌∷◌, ◌++◌, length, get_or, take, drop, Ok, Err, Result, sym, refl, ap, ◌∙◌, append_assoc, append-nil, length-append, arith}
use lib.Ieee.{Float}
use Rattle.arrayvec.specs.ArrayVec.{ArrayVec}
use Rattle.std.proofs.lemmas.List.{at_drop_more, at_drop_all, take_all}
use Rattle.texts.specs.declared.trouble.Trouble.{Trouble}
use Rattle.texts.specs.Reals.{number_of}
use Rattle.texts.specs.Places.{and_then, numbers_of, kept_of}

-- eight of the numbers that there are, and of those that follow
abbrev pub kept_with : List Float → List Float → Result (ArrayVec Float) Trouble
kept_with s xs = Ok (record { items = take 8 (s ++ xs) })

abbrev pub kept_after : List Float → List (List ℕ) → Result (ArrayVec Float) Trouble
kept_after s ws = and_then (numbers_of ws) (kept_with s)

take_again : {A : Type 0} (n : ℕ) (xs ys : List A) → take n (take n xs ++ ys) ≡ take n (xs ++ ys)
take_again zero xs ys = refl
take_again (suc n) [] ys = refl
take_again (suc n) (x ∷ xs) ys = ap (λ (l : List _). x ∷ l) (take_again n xs ys)

kept_more : (s : List Float) (x : Float) (ws : List (List ℕ)) (r : Result (List Float) Trouble)
    → and_then r (kept_with (take 8 (s ++ x ∷ []))) ≡ and_then (and_then r (λ xs. Ok (x ∷ xs))) (kept_with s)
kept_more s x ws (Ok xs) =
    ap (λ (l : List Float). Ok (record { items = l })) (take_again 8 (s ++ x ∷ []) xs ∙ ap (take 8) (append_assoc s (x ∷ []) xs))
kept_more s x ws (Err e) = refl

module _ (s : List Float) (all : List (List ℕ)) (n : ℕ) (w : List ℕ) (h : n < length all) (i : w ≡ get_or all n w)
    (inv : kept_after s (drop n all) ≡ kept_of all) where
  -- by what the next part is
  turn : (r : Result Float Trouble) → number_of w ≡ r
      → and_then (and_then r (λ x. and_then (numbers_of (drop (n + 1) all)) (λ xs. Ok (x ∷ xs)))) (kept_with s) ≡ kept_of all
  turn r e =
      sym (ap (λ (q : Result Float Trouble). and_then (and_then q (λ x. and_then (numbers_of (drop (n + 1) all)) (λ xs. Ok (x ∷ xs)))) (kept_with s)) e)
      ∙ ap (λ (v : List ℕ). kept_after s (v ∷ drop (n + 1) all)) i
      ∙ sym (at_drop_more (kept_after s) all n w h)
      ∙ inv

  pub bad_part : (e : Trouble) → number_of w ≡ Err e → Err e ≡ kept_of all
  bad_part e f = turn (Err e) f

  pub next_part : (x : Float) → number_of w ≡ Ok x → kept_after (take 8 (s ++ x ∷ [])) (drop (n + 1) all) ≡ kept_of all
  next_part x f = kept_more s x (drop (n + 1) all) (numbers_of (drop (n + 1) all)) ∙ turn (Ok x) f

module _ (s : List Float) (all : List (List ℕ)) (n : ℕ) (inv : kept_after s (drop n all) ≡ kept_of all) where
  pub all_read : length s ≤ 8 → length all ≤ n → Ok (record { items = s }) ≡ kept_of all
  all_read few h =
      ap (λ (l : List Float). Ok (record { items = l })) (sym (take_all 8 (s ++ []) (omega (arith, length-append s [])) ∙ append-nil s))
      ∙ sym (at_drop_all (kept_after s) all n h)
      ∙ inv
