-- The table of the powers of ten. Assumes nothing.
use Rattle.std.proofs.Common.{◌≡◌, ℕ, zero, suc, ◌^◌, ◌≤◌, List, [], ◌∷◌, get_or, pos, refl, arith}
use lib.Ieee.{Float, nan, binary32, of_bits, of_int}

abbrev tens : List Float
tens =
    of_bits binary32 1065353216
    ∷ of_bits binary32 1092616192
    ∷ of_bits binary32 1120403456
    ∷ of_bits binary32 1148846080
    ∷ of_bits binary32 1176256512
    ∷ of_bits binary32 1203982336
    ∷ of_bits binary32 1232348160
    ∷ of_bits binary32 1259902592
    ∷ of_bits binary32 1287568416
    ∷ of_bits binary32 1315859240
    ∷ of_bits binary32 1343554297
    ∷ []

pub tens_are : (k : ℕ) → k ≤ 10 → get_or tens k nan ≡ of_int binary32 (pos (10 ^ k))
unfolding of_bits of_int
tens_are zero h = refl
tens_are (suc zero) h = refl
tens_are (suc (suc zero)) h = refl
tens_are (suc (suc (suc zero))) h = refl
tens_are (suc (suc (suc (suc zero)))) h = refl
tens_are (suc (suc (suc (suc (suc zero))))) h = refl
tens_are (suc (suc (suc (suc (suc (suc zero)))))) h = refl
tens_are (suc (suc (suc (suc (suc (suc (suc zero))))))) h = refl
tens_are (suc (suc (suc (suc (suc (suc (suc (suc zero)))))))) h = refl
tens_are (suc (suc (suc (suc (suc (suc (suc (suc (suc zero))))))))) h = refl
tens_are (suc (suc (suc (suc (suc (suc (suc (suc (suc (suc zero)))))))))) h = refl
tens_are (suc (suc (suc (suc (suc (suc (suc (suc (suc (suc (suc k))))))))))) h = absurd (omega arith)
