-- Words and parts that are joined come apart again. Assumes nothing.
use Rattle.std.proofs.Common.{◌≡◌, ℕ, Bool, true, false, cond, ◌<◌, eqb, List, [], ◌∷◌, ◌++◌, length, Ok, Result, refl, ap, ◌∙◌, arith}
use lib.Ieee.{Float}
use Rattle.std.specs.List.{AllByRecursion, filter, slice_split, onto_first}
use Rattle.std.proofs.lemmas.Bool.{eq-eqb}
use Rattle.geometry.specs.Vectors.{vector}
use Rattle.texts.specs.declared.trouble.Trouble.{Trouble}
use Rattle.texts.specs.Cuts.{is_blank, parts_of}
use Rattle.texts.specs.Words.{has_bytes, words_of}
use Rattle.texts.specs.Places.{and_then, numbers_of, place_from, pose_from, pose_of}
use Rattle.texts.specs.Laws.{joined_from, joined_by, IsWord, Lacks, Says, Joins}

-- ---- parts

module _ (p : ℕ → Bool) where
  last : (w : List ℕ) → AllByRecursion (λ b. p b ≡ false) w → slice_split p w ≡ w ∷ []
  last [] h = refl
  last (b ∷ bs) h =
      ap (λ (t : Bool). cond t ([] ∷ slice_split p bs) (onto_first b (slice_split p bs))) h.0 ∙ ap (onto_first b) (last bs h.1)

  first : (w : List ℕ) (m : ℕ) (rest : List ℕ) → p m ≡ true → AllByRecursion (λ b. p b ≡ false) w → slice_split p (w ++ m ∷ rest) ≡ w ∷ slice_split p rest
  first [] m rest e h = ap (λ (t : Bool). cond t ([] ∷ slice_split p rest) (onto_first m (slice_split p rest))) e
  first (b ∷ bs) m rest e h =
      ap (λ (t : Bool). cond t ([] ∷ slice_split p (bs ++ m ∷ rest)) (onto_first b (slice_split p (bs ++ m ∷ rest)))) h.0
      ∙ ap (onto_first b) (first bs m rest e h.1)

parts : (m : ℕ) (p : List ℕ) (ps : List (List ℕ)) → AllByRecursion (Lacks m) (p ∷ ps) → parts_of m (joined_by m (p ∷ ps)) ≡ p ∷ ps
parts m p [] h = last (λ b. eqb b m) p h.0
parts m p (q ∷ qs) h = first (λ b. eqb b m) p m (joined_from m q qs) (eq-eqb m m refl) h.0 ∙ ap (λ (l : List (List ℕ)). p ∷ l) (parts m q qs h.1)

-- ---- words

kept : (w : List ℕ) (ws : List (List ℕ)) → 0 < length w → filter has_bytes (w ∷ ws) ≡ w ∷ filter has_bytes ws
kept [] ws h = absurd (omega arith)
kept (b ∷ bs) ws h = refl

words_from : (w : List ℕ) (ws : List (List ℕ)) → AllByRecursion IsWord (w ∷ ws) → words_of (joined_from 32 w ws) ≡ w ∷ ws
words_from w [] h = ap (filter has_bytes) (last is_blank w h.0.1) ∙ kept w [] h.0.0
words_from w (v ∷ vs) h =
    ap (filter has_bytes) (first is_blank w 32 (joined_from 32 v vs) refl h.0.1)
    ∙ kept w (slice_split is_blank (joined_from 32 v vs)) h.0.0
    ∙ ap (λ (l : List (List ℕ)). w ∷ l) (words_from v vs h.1)

words : (ws : List (List ℕ)) → AllByRecursion IsWord ws → words_of (joined_by 32 ws) ≡ ws
words [] h = refl
words (w ∷ ws) h = words_from w ws h

-- ---- places and poses

one : (a : List ℕ) (ps : List (List ℕ)) (x : Float) (xs : List Float) → Says a x → numbers_of ps ≡ Ok xs → numbers_of (a ∷ ps) ≡ Ok (x ∷ xs)
one a ps x xs h k =
    ap (λ (r : Result Float Trouble). and_then r (λ y. and_then (numbers_of ps) (λ ys. Ok (y ∷ ys)))) h.1
    ∙ ap (λ (r : Result (List Float) Trouble). and_then r (λ ys. Ok (x ∷ ys))) k

three : (a b c : List ℕ) (ps : List (List ℕ)) (x y z : Float) (xs : List Float) → Says a x → Says b y → Says c z → numbers_of ps ≡ Ok xs
    → numbers_of (a ∷ b ∷ c ∷ ps) ≡ Ok (x ∷ (y ∷ (z ∷ xs)))
three a b c ps x y z xs ha hb hc k =
    one a (b ∷ c ∷ ps) x (y ∷ (z ∷ xs)) ha (one b (c ∷ ps) y (z ∷ xs) hb (one c ps z xs hc k))

read_three : {A : Type 0} (k : List Float → Result A Trouble) (a b c : List ℕ) (x y z : Float) → Says a x → Says b y → Says c z
    → and_then (numbers_of (parts_of 44 (joined_by 44 (a ∷ b ∷ c ∷ [])))) k ≡ k (x ∷ (y ∷ (z ∷ [])))
read_three k a b c x y z ha hb hc =
    ap (λ (l : List (List ℕ)). and_then (numbers_of l) k) (parts 44 a (b ∷ c ∷ []) (ha.0, (hb.0, (hc.0, tt))))
    ∙ ap (λ (r : Result (List Float) Trouble). and_then r k) (three a b c [] x y z [] ha hb hc refl)

pose_of_seven : (a b c d e f g : List ℕ) (x y z i j k w : Float) → Says a x → Says b y → Says c z → Says d i → Says e j → Says f k → Says g w
    → pose_of (joined_by 44 (a ∷ b ∷ c ∷ d ∷ e ∷ f ∷ g ∷ [])) ≡ Ok (record { translation = vector x y z; rotation = record { i = i; j = j; k = k; w = w } })
pose_of_seven a b c d e f g x y z i j k w ha hb hc hd he hf hg =
    ap (λ (l : List (List ℕ)). and_then (numbers_of l) pose_from)
    (parts 44 a (b ∷ c ∷ d ∷ e ∷ f ∷ g ∷ []) (ha.0, (hb.0, (hc.0, (hd.0, (he.0, (hf.0, (hg.0, tt))))))))
    ∙ ap (λ (r : Result (List Float) Trouble). and_then r pose_from)
    (three a b c (d ∷ e ∷ f ∷ g ∷ []) x y z (i ∷ (j ∷ (k ∷ (w ∷ [])))) ha hb hc
    (three d e f (g ∷ []) i j k (w ∷ []) hd he hf (one g [] w [] hg refl)))

pub joins : Joins
joins = record {
  words = words;
  parts = parts;
  place = read_three place_from;
  pose_of_three = read_three pose_from;
  pose_of_seven = pose_of_seven;
}
