-- Comments and blanks change nothing. Assumes nothing.
use Rattle.std.proofs.Common.{◌≡◌, ℕ, suc, ◌+◌, Bool, true, false, cond, not, eqb, ◌⊎◌, List, [], ◌∷◌, ◌++◌, take, sym, refl, ap, ◌∙◌, inl, inr, append_assoc, append-nil, arith, eqb-true}
use Rattle.std.specs.List.{AllByRecursion, filter, position_or_len, slice_split, onto_first}
use Rattle.std.proofs.lemmas.Bool.{ne_eqb, or_cases}
use Rattle.texts.specs.Cuts.{is_blank}
use Rattle.texts.specs.Words.{has_bytes, words_of, uncommented}
use Rattle.script.specs.Lines.{command_from}
use Rattle.script.specs.Laws.{Ignored}

-- ---- a comment

abbrev before_sign : List ℕ → ℕ
before_sign = position_or_len (λ b. eqb b 35)

take_more : (n b : ℕ) (bs : List ℕ) → take (1 + n) (b ∷ bs) ≡ b ∷ take n bs
take_more n b bs = let e : 1 + n ≡ suc n = omega arith in ap (λ (k : ℕ). take k (b ∷ bs)) e

past_sign : (line text : List ℕ) → uncommented (line ++ 35 ∷ text) ≡ uncommented line
past_sign [] text = refl
past_sign (b ∷ bs) text = go (past_sign bs text) (eqb b 35)
  where
    go : uncommented (bs ++ 35 ∷ text) ≡ uncommented bs → (t : Bool)
        → take (cond (not t) (1 + before_sign (bs ++ 35 ∷ text)) 0) (b ∷ (bs ++ 35 ∷ text)) ≡ take (cond (not t) (1 + before_sign bs) 0) (b ∷ bs)
    go h true = refl
    go h false = take_more (before_sign (bs ++ 35 ∷ text)) b (bs ++ 35 ∷ text) ∙ ap (λ (l : List ℕ). b ∷ l) h ∙ sym (take_more (before_sign bs) b bs)

-- ---- blanks before

-- a blank is no comment sign
not_sign : (b : ℕ) → is_blank b ≡ true → eqb b 35 ≡ false
not_sign b h =
    ne_eqb b 35 (λ (e : b ≡ 35).
    elim (or_cases (eqb b 32) _ h) [
      | inl p ↦ let q = eqb-true b 32 p in omega arith
      | inr r ↦ elim (or_cases (eqb b 9) (eqb b 13) r) [ inl p ↦ let q = eqb-true b 9 p in omega arith | inr p ↦ let q = eqb-true b 13 p in omega arith ]
    ])

kept : (b : ℕ) (bs : List ℕ) → is_blank b ≡ true → uncommented (b ∷ bs) ≡ b ∷ uncommented bs
kept b bs h = ap (λ (t : Bool). take (cond (not t) (1 + before_sign bs) 0) (b ∷ bs)) (not_sign b h) ∙ take_more (before_sign bs) b bs

one_before : (b : ℕ) (bs : List ℕ) → is_blank b ≡ true → words_of (b ∷ bs) ≡ words_of bs
one_before b bs h = ap (λ (t : Bool). filter has_bytes (cond t ([] ∷ slice_split is_blank bs) (onto_first b (slice_split is_blank bs)))) h

all_before : (bs line : List ℕ) → AllByRecursion (λ b. is_blank b ≡ true) bs → words_of (uncommented (bs ++ line)) ≡ words_of (uncommented line)
all_before [] line h = refl
all_before (b ∷ bs) line h = ap words_of (kept b (bs ++ line) h.0) ∙ one_before b (uncommented (bs ++ line)) h.0 ∙ all_before bs line h.1

-- ---- blanks after

-- there is a first part
some_part : (bs : List ℕ) → (f : List ℕ) × ((fs : List (List ℕ)) × (slice_split is_blank bs ≡ f ∷ fs))
some_part [] = ([], ([], refl))
some_part (b ∷ bs) = go (is_blank b) (some_part bs)
  where
    go : (t : Bool) → (f : List ℕ) × ((fs : List (List ℕ)) × (slice_split is_blank bs ≡ f ∷ fs))
        → (f : List ℕ) × ((fs : List (List ℕ)) × (cond t ([] ∷ slice_split is_blank bs) (onto_first b (slice_split is_blank bs)) ≡ f ∷ fs))
    go true s = ([], (slice_split is_blank bs, refl))
    go false s = (b ∷ s.0, (s.1.0, ap (onto_first b) s.1.1))

-- one part more, which is empty
more_parts : (bs : List ℕ) (c : ℕ) → is_blank c ≡ true → slice_split is_blank (bs ++ c ∷ []) ≡ slice_split is_blank bs ++ [] ∷ []
more_parts [] c h = ap (λ (t : Bool). cond t ([] ∷ ([] ∷ [])) (onto_first c ([] ∷ []))) h
more_parts (b ∷ bs) c h = go (more_parts bs c h) (is_blank b)
  where
    longer : (ps : List (List ℕ)) (f : List ℕ) (fs : List (List ℕ)) → ps ≡ f ∷ fs → onto_first b (ps ++ [] ∷ []) ≡ onto_first b ps ++ [] ∷ []
    longer ps f fs e = ap (λ (qs : List (List ℕ)). onto_first b (qs ++ [] ∷ [])) e ∙ sym (ap (λ (qs : List (List ℕ)). onto_first b qs ++ [] ∷ []) e)

    go : slice_split is_blank (bs ++ c ∷ []) ≡ slice_split is_blank bs ++ [] ∷ [] → (t : Bool)
        → cond t ([] ∷ slice_split is_blank (bs ++ c ∷ [])) (onto_first b (slice_split is_blank (bs ++ c ∷ [])))
        ≡ cond t ([] ∷ slice_split is_blank bs) (onto_first b (slice_split is_blank bs)) ++ [] ∷ []
    go e true = ap (λ (ps : List (List ℕ)). [] ∷ ps) e
    go e false = let s = some_part bs in ap (onto_first b) e ∙ longer (slice_split is_blank bs) s.0 s.1.0 s.1.1

no_more : (ps : List (List ℕ)) → filter has_bytes (ps ++ [] ∷ []) ≡ filter has_bytes ps
no_more [] = refl
no_more (p ∷ ps) = ap (λ (ws : List (List ℕ)). cond (has_bytes p) (p ∷ ws) ws) (no_more ps)

one_after : (bs : List ℕ) (c : ℕ) → is_blank c ≡ true → words_of (bs ++ c ∷ []) ≡ words_of bs
one_after bs c h = ap (filter has_bytes) (more_parts bs c h) ∙ no_more (slice_split is_blank bs)

-- a blank at the end stands in a comment, or before it
cut_after : (bs : List ℕ) (c : ℕ) → is_blank c ≡ true → (uncommented (bs ++ c ∷ []) ≡ uncommented bs) ⊎ (uncommented (bs ++ c ∷ []) ≡ uncommented bs ++ c ∷ [])
cut_after [] c h = inr (kept c [] h)
cut_after (b ∷ bs) c h = go (cut_after bs c h) (eqb b 35)
  where
    go : (uncommented (bs ++ c ∷ []) ≡ uncommented bs) ⊎ (uncommented (bs ++ c ∷ []) ≡ uncommented bs ++ c ∷ []) → (t : Bool)
        → (take (cond (not t) (1 + before_sign (bs ++ c ∷ [])) 0) (b ∷ (bs ++ c ∷ [])) ≡ take (cond (not t) (1 + before_sign bs) 0) (b ∷ bs))
        ⊎ (take (cond (not t) (1 + before_sign (bs ++ c ∷ [])) 0) (b ∷ (bs ++ c ∷ [])) ≡ take (cond (not t) (1 + before_sign bs) 0) (b ∷ bs) ++ c ∷ [])
    go e true = inl refl
    go (inl e) false = inl (take_more _ b (bs ++ c ∷ []) ∙ ap (λ (l : List ℕ). b ∷ l) e ∙ sym (take_more _ b bs))
    go (inr e) false = inr (take_more _ b (bs ++ c ∷ []) ∙ ap (λ (l : List ℕ). b ∷ l) e ∙ sym (ap (λ (l : List ℕ). l ++ c ∷ []) (take_more _ b bs)))

words_after : (bs : List ℕ) (c : ℕ) → is_blank c ≡ true → words_of (uncommented (bs ++ c ∷ [])) ≡ words_of (uncommented bs)
words_after bs c h =
    elim (cut_after bs c h) [
      | inl e ↦ ap words_of e
      | inr e ↦ ap words_of e ∙ one_after (uncommented bs) c h
    ]

all_after : (line bs : List ℕ) → AllByRecursion (λ b. is_blank b ≡ true) bs → words_of (uncommented (line ++ bs)) ≡ words_of (uncommented line)
all_after line [] h = ap (λ (l : List ℕ). words_of (uncommented l)) (append-nil line)
all_after line (b ∷ bs) h =
    ap (λ (l : List ℕ). words_of (uncommented l)) (sym (append_assoc line (b ∷ []) bs))
    ∙ all_after (line ++ b ∷ []) bs h.1
    ∙ words_after line b h.0

pub ignored : Ignored
ignored = record {
  comment = λ line text. ap (λ (l : List ℕ). command_from (words_of l)) (past_sign line text);
  blanks_before = λ bs line h. ap command_from (all_before bs line h);
  blanks_after = λ line bs h. ap command_from (all_after line bs h);
}
