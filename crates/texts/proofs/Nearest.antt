-- A decimal is rounded once. Assumes nothing.
use Rattle.std.proofs.Common.{◌≡◌, ℕ, zero, suc, ◌*◌, ◌^◌, ◌<◌, ◌≤◌, Bool, false, cond, eqb, ℤ, pos, sym, refl, ap, ◌∙◌, zero-lt-suc, mul_assoc, mul_comm, mul-pos, zero-mul, mul-one, arith}
use native.Mathlib.Nat.{one-le-pow}
use lib.Ieee.{Float, nan, inf, fin, binary32, up, down, of_int, round, div, unlike}
use lib.Ieee.Back.{round_whole}
use lib.Ieee.Exact.{HasValue}
use lib.Ieee.Fits.{up_pos, down_pos}
use lib.Ieee.Scale.{round_same}
use Rattle.std.proofs.lemmas.Bool.{ne_eqb}
use Rattle.texts.specs.Laws.{RoundedOnce}

whole : (m : ℕ) → m ≤ 16777216 → HasValue (of_int binary32 (pos m)) false m 1
unfolding of_int
whole m h = round_whole binary32 false m h

power : (k : ℕ) → k ≤ 10 → HasValue (of_int binary32 (pos (10 ^ k))) false (10 ^ k) 1
unfolding of_int
power zero h = (refl, refl)
power (suc zero) h = (refl, refl)
power (suc (suc zero)) h = (refl, refl)
power (suc (suc (suc zero))) h = (refl, refl)
power (suc (suc (suc (suc zero)))) h = (refl, refl)
power (suc (suc (suc (suc (suc zero))))) h = (refl, refl)
power (suc (suc (suc (suc (suc (suc zero)))))) h = (refl, refl)
power (suc (suc (suc (suc (suc (suc (suc zero))))))) h = (refl, refl)
power (suc (suc (suc (suc (suc (suc (suc (suc zero)))))))) h = (refl, refl)
power (suc (suc (suc (suc (suc (suc (suc (suc (suc zero))))))))) h = (refl, refl)
power (suc (suc (suc (suc (suc (suc (suc (suc (suc (suc zero)))))))))) h = (refl, refl)
power (suc (suc (suc (suc (suc (suc (suc (suc (suc (suc (suc k))))))))))) h = absurd (omega arith)

ten_pos : (k : ℕ) → 0 < 10 ^ k
ten_pos k = one-le-pow k 10 (zero-lt-suc 9)

-- a numerator of a whole number that is not 0
not_zero : (b : ℕ) (d : ℤ) (n : ℕ) → 0 < n → b * up d * 1 ≡ n * down d → 0 < b
not_zero zero d n p k = let z = zero-mul (up d) in let q = mul-pos p (down_pos d) in absurd (omega arith)
not_zero (suc b) d n p k = omega arith

cross : (x y m n f g : ℕ) → x * 1 ≡ m * f → y * 1 ≡ n * g → x * g * n ≡ m * (y * f)
cross x y m n f g h k =
    mul_assoc x g n
    ∙ ap (λ (z : ℕ). z * (g * n)) (sym (mul-one x) ∙ h)
    ∙ ap (λ (z : ℕ). m * f * z) (mul_comm g n ∙ sym k ∙ mul-one y)
    ∙ mul_assoc m f y
    ∙ ap (λ (z : ℕ). m * z) (mul_comm f y)

-- the quotient of two whole numbers, by their values
quotient : (x y : Float) (m n : ℕ) → 0 < n → HasValue x false m 1 → HasValue y false n 1 → div binary32 x y ≡ round binary32 false m n
unfolding div
quotient nan y m n p h k = absurd h
quotient (inf s) y m n p h k = absurd h
quotient (fin s a e) nan m n p h k = absurd k
quotient (fin s a e) (inf t) m n p h k = absurd k
quotient (fin s a e) (fin t b d) m n p h k =
    let q = not_zero b d n p k.1 in
    let z : eqb b 0 ≡ false = ne_eqb b 0 (λ (i : b ≡ 0). omega arith) in
    ap (λ (z : Bool). cond z (cond (eqb a 0) nan (inf (unlike s t))) (round binary32 (unlike s t) (a * up e * down d) (b * up d * down e))) z
    ∙ ap (λ (v : Bool). round binary32 (unlike v t) (a * up e * down d) (b * up d * down e)) h.0
    ∙ ap (λ (v : Bool). round binary32 (unlike false v) (a * up e * down d) (b * up d * down e)) k.0
    ∙ round_same binary32 false (a * up e * down d) (b * up d * down e) m n (mul-pos (mul-pos q (up_pos d)) (down_pos e)) p
    (cross (a * up e) (b * up d) m n (down e) (down d) h.1 k.1)

pub rounded_once : RoundedOnce
rounded_once = record {
  digits = whole;
  power = power;
  nearest = λ m k h l. quotient (of_int binary32 (pos m)) (of_int binary32 (pos (10 ^ k))) m (10 ^ k) (ten_pos k) (whole m h) (power k l);
}
