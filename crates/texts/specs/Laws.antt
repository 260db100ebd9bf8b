-- The laws of texts that are read, each stated once. A function of `src/laws.rt` ensures each. Assumes nothing.
use Rattle.std.specs.Prelude.{◌≡◌, ℕ, ◌^◌, ◌<◌, ◌≤◌, false, List, [], ◌∷◌, ◌++◌, length, pos, Ok, Err, codes, ◌==◌, from_bits, Float}
use Rattle.std.specs.Float.{binary32}
use Rattle.std.specs.Float.Ieee.{of_int, round}
use Rattle.std.specs.Float.Ieee.Exact.{HasValue}
use Rattle.std.specs.List.{AllByRecursion}
use Rattle.geometry.specs.Vectors.{vector}
use Rattle.geometry.specs.Poses.{placed}
use Rattle.texts.specs.declared.trouble.Trouble.TheVariants.{NotANumber, TooManyDigits}
use Rattle.texts.specs.Cuts.{is_blank, parts_of}
use Rattle.texts.specs.Words.{words_of}
use Rattle.texts.specs.Reals.{decimal_of, number_of}
use Rattle.texts.specs.Places.{place_of, pose_of}

-- texts joined by a mark
abbrev pub joined_from : ℕ → List ℕ → List (List ℕ) → List ℕ
joined_from m p [] = p
joined_from m p (q ∷ qs) = p ++ m ∷ joined_from m q qs

abbrev pub joined_by : ℕ → List (List ℕ) → List ℕ
joined_by m [] = []
joined_by m (p ∷ ps) = joined_from m p ps

-- a word has a byte and no blank, and a part has no mark
abbrev pub IsWord : List ℕ → Type 0
IsWord w = (0 < length w) × AllByRecursion (λ b. is_blank b ≡ false) w

abbrev pub Lacks : ℕ → List ℕ → Type 0
Lacks m p = AllByRecursion (λ b. (b == m) ≡ false) p

-- a part that is a number
abbrev pub Says : List ℕ → Float → Type 0
Says p x = Lacks 44 p × (number_of p ≡ Ok x)

-- Words joined by spaces come apart again, and so do parts joined by a mark. A place is three numbers joined by commas, and a pose three or seven.
pub record Joins : Type 0 where
  pub words : (ws : List (List ℕ)) → AllByRecursion IsWord ws → words_of (joined_by 32 ws) ≡ ws
  pub parts : (m : ℕ) (p : List ℕ) (ps : List (List ℕ)) → AllByRecursion (Lacks m) (p ∷ ps) → parts_of m (joined_by m (p ∷ ps)) ≡ p ∷ ps
  pub place : (a b c : List ℕ) (x y z : Float) → Says a x → Says b y → Says c z → place_of (joined_by 44 (a ∷ b ∷ c ∷ [])) ≡ Ok (vector x y z)
  pub pose_of_three : (a b c : List ℕ) (x y z : Float) → Says a x → Says b y → Says c z → pose_of (joined_by 44 (a ∷ b ∷ c ∷ [])) ≡ Ok (placed (vector x y z))
  pub pose_of_seven : (a b c d e f g : List ℕ) (x y z i j k w : Float) → Says a x → Says b y → Says c z → Says d i → Says e j → Says f k → Says g w
      → pose_of (joined_by 44 (a ∷ b ∷ c ∷ d ∷ e ∷ f ∷ g ∷ [])) ≡ Ok (record { translation = vector x y z; rotation = record { i = i; j = j; k = k; w = w } })

-- Up to the limits the digits and the power of ten are exact, so that a decimal is m / 10 ^ k, rounded once.
pub record RoundedOnce : Type 0 where
  pub digits : (m : ℕ) → m ≤ 16777216 → HasValue (of_int binary32 (pos m)) false m 1
  pub power : (k : ℕ) → k ≤ 10 → HasValue (of_int binary32 (pos (10 ^ k))) false (10 ^ k) 1
  pub nearest : (m k : ℕ) → m ≤ 16777216 → k ≤ 10 → decimal_of m k ≡ round binary32 false m (10 ^ k)

-- texts, and the numbers that they are
pub record Numerals : Type 0 where
  pub half_sided : number_of (codes "0.4375") ≡ Ok (from_bits binary32 0x3ee0_0000)
  pub minus_zero : number_of (codes "-0") ≡ Ok (from_bits binary32 0x8000_0000)
  pub one : number_of (codes "1") ≡ Ok (from_bits binary32 0x3f80_0000)
  pub one_by_bits : number_of (codes "0x3f800000") ≡ Ok (from_bits binary32 0x3f80_0000)
  pub four_and_a_half : number_of (codes "4.5") ≡ Ok (from_bits binary32 0x4090_0000)
  pub minus_half : number_of (codes "-0.5") ≡ Ok (from_bits binary32 0xbf00_0000)
  pub million : number_of (codes "1000000") ≡ Ok (from_bits binary32 0x4974_2400)
  pub tenth : number_of (codes "0.1") ≡ Ok (from_bits binary32 0x3dcc_cccd)
  pub largest_digits : number_of (codes "0016777216") ≡ Ok (from_bits binary32 0x4b80_0000)
  pub smallest : number_of (codes "0x1") ≡ Ok (from_bits binary32 1)
  pub either_case : number_of (codes "0x3DCCcccd") ≡ Ok (from_bits binary32 0x3dcc_cccd)
  pub infinity : number_of (codes "0x7f800000") ≡ Ok (from_bits binary32 0x7f80_0000)
  pub no_nan : number_of (codes "0x7f800001") ≡ Err NotANumber
  pub no_nine_hex_digits : number_of (codes "0x03f800000") ≡ Err NotANumber
  pub no_larger_digits : number_of (codes "16777217") ≡ Err TooManyDigits
  pub no_eleven_places : number_of (codes "0.00000000001") ≡ Err TooManyDigits
  pub no_exponent : number_of (codes "1e3") ≡ Err NotANumber
  pub no_plus : number_of (codes "+1") ≡ Err NotANumber
  pub no_bare_point : number_of (codes "1.") ≡ Err NotANumber
  pub no_bare_fraction : number_of (codes ".5") ≡ Err NotANumber
  pub no_bare_minus : number_of (codes "-") ≡ Err NotANumber
  pub nothing : number_of (codes "") ≡ Err NotANumber
