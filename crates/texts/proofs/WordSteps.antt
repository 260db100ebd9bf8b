-- The words of a text, one after another. Assumes nothing.
use Rattle.std.proofs.Common.{◌≡◌, ℕ, suc, ◌+◌, Bool, true, false, cond, not, List, [], ◌∷◌, length, take, drop, sym, refl, ap, ◌∙◌, arith}
use Rattle.std.specs.List.{filter, position_or_len, slice_split, onto_first}
use Rattle.texts.specs.Cuts.{is_blank, front_of, past_of}
use Rattle.texts.specs.Words.{has_bytes, words_of}

-- the parts that follow a cut
abbrev following : (ℕ → Bool) → List ℕ → List (List ℕ)
following p [] = []
following p (b ∷ bs) = slice_split p bs

one_more : (n : ℕ) → 1 + n ≡ suc n
one_more n = omega arith

pub parts_step : (p : ℕ → Bool) (bs : List ℕ) → slice_split p bs ≡ front_of p bs ∷ following p (past_of p bs)
parts_step p [] = refl
parts_step p (b ∷ bs) = go (parts_step p bs) (p b)
  where
    go : slice_split p bs ≡ front_of p bs ∷ following p (past_of p bs) → (t : Bool) → cond t ([] ∷ slice_split p bs) (onto_first b (slice_split p bs))
        ≡ take (cond (not t) (1 + position_or_len p bs) 0) (b ∷ bs) ∷ following p (drop (cond (not t) (1 + position_or_len p bs) 0) (b ∷ bs))
    go h true = refl
    go h false =
        ap (onto_first b) h
        ∙ ap (λ (n : ℕ). take n (b ∷ bs) ∷ following p (drop n (b ∷ bs))) (sym (one_more (position_or_len p bs)))

-- what is left begins with a blank, or is empty
left_words : (bs : List ℕ) → filter has_bytes (following is_blank (past_of is_blank bs)) ≡ words_of (past_of is_blank bs)
left_words [] = refl
left_words (b ∷ bs) = go (left_words bs) (is_blank b) refl
  where
    go : filter has_bytes (following is_blank (past_of is_blank bs)) ≡ words_of (past_of is_blank bs) → (t : Bool) → is_blank b ≡ t
        → filter has_bytes (following is_blank (drop (cond (not t) (1 + position_or_len is_blank bs) 0) (b ∷ bs)))
        ≡ words_of (drop (cond (not t) (1 + position_or_len is_blank bs) 0) (b ∷ bs))
    go h true e = sym (ap (λ (t : Bool). filter has_bytes (cond t ([] ∷ slice_split is_blank bs) (onto_first b (slice_split is_blank bs)))) e)
    go h false e =
        let e = one_more (position_or_len is_blank bs) in
        ap (λ (n : ℕ). filter has_bytes (following is_blank (drop n (b ∷ bs)))) e
        ∙ h
        ∙ ap (λ (n : ℕ). words_of (drop n (b ∷ bs))) (sym e)

some_of : (w : List ℕ) (ws : List (List ℕ)) → (length w ≡ 0 → ⊥) → filter has_bytes (w ∷ ws) ≡ w ∷ filter has_bytes ws
some_of [] ws h = absurd (h refl)
some_of (b ∷ bs) ws h = refl

-- a text that begins with a word
begun : (b : ℕ) (bs : List ℕ) → is_blank b ≡ false → words_of (b ∷ bs) ≡ front_of is_blank (b ∷ bs) ∷ words_of (past_of is_blank (b ∷ bs))
begun b bs h =
    ap (filter has_bytes) (parts_step is_blank (b ∷ bs))
    ∙ some_of (front_of is_blank (b ∷ bs)) (following is_blank (past_of is_blank (b ∷ bs))) (longer h)
    ∙ ap (λ (ws : List (List ℕ)). front_of is_blank (b ∷ bs) ∷ ws) (left_words (b ∷ bs))
  where
    longer : is_blank b ≡ false → length (front_of is_blank (b ∷ bs)) ≡ 0 → ⊥
    longer e z =
        let f = ap (λ (t : Bool). length (take (cond (not t) (1 + position_or_len is_blank bs) 0) (b ∷ bs))) e in
        let g = ap (λ (n : ℕ). length (take n (b ∷ bs))) (one_more (position_or_len is_blank bs)) in
        omega arith

abbrev pub past_blanks : List ℕ → List ℕ
past_blanks = past_of (λ b. not (is_blank b))

-- a text of blanks has no word
pub no_words : (bs : List ℕ) → length (past_blanks bs) ≡ 0 → words_of bs ≡ []
no_words [] h = refl
no_words (b ∷ bs) h = go (no_words bs) (is_blank b) refl h
  where
    go : (length (past_blanks bs) ≡ 0 → words_of bs ≡ []) → (t : Bool) → is_blank b ≡ t
        → length (drop (cond (not (not t)) (1 + position_or_len (λ b. not (is_blank b)) bs) 0) (b ∷ bs)) ≡ 0
        → words_of (b ∷ bs) ≡ []
    go k true e h =
        let f = ap (λ (n : ℕ). length (drop n (b ∷ bs))) (one_more (position_or_len (λ b. not (is_blank b)) bs)) in
        ap (λ (t : Bool). filter has_bytes (cond t ([] ∷ slice_split is_blank bs) (onto_first b (slice_split is_blank bs)))) e
        ∙ k (sym f ∙ h)
    go k false e h = absurd (omega arith)

-- any other has a first word, and those of the text past it
pub some_words : (bs : List ℕ) → (length (past_blanks bs) ≡ 0 → ⊥) → words_of bs ≡ front_of is_blank (past_blanks bs) ∷ words_of (past_of is_blank (past_blanks bs))
some_words [] h = absurd (h refl)
some_words (b ∷ bs) h = go (some_words bs) (is_blank b) refl h
  where
    go : ((length (past_blanks bs) ≡ 0 → ⊥) → words_of bs ≡ front_of is_blank (past_blanks bs) ∷ words_of (past_of is_blank (past_blanks bs)))
        → (t : Bool) → is_blank b ≡ t
        → (length (drop (cond (not (not t)) (1 + position_or_len (λ b. not (is_blank b)) bs) 0) (b ∷ bs)) ≡ 0 → ⊥)
        → words_of (b ∷ bs)
        ≡ front_of is_blank (drop (cond (not (not t)) (1 + position_or_len (λ b. not (is_blank b)) bs) 0) (b ∷ bs))
        ∷ words_of (past_of is_blank (drop (cond (not (not t)) (1 + position_or_len (λ b. not (is_blank b)) bs) 0) (b ∷ bs)))
    go k true e h =
        let n = one_more (position_or_len (λ b. not (is_blank b)) bs) in
        let f = ap (λ (n : ℕ). length (drop n (b ∷ bs))) n in
        ap (λ (t : Bool). filter has_bytes (cond t ([] ∷ slice_split is_blank bs) (onto_first b (slice_split is_blank bs)))) e
        ∙ k (λ z. h (f ∙ z))
        ∙ ap (λ (n : ℕ). front_of is_blank (drop n (b ∷ bs)) ∷ words_of (past_of is_blank (drop n (b ∷ bs)))) (sym n)
    go k false e h = begun b bs e
