-- Whole numbers by their digits. Assumes nothing.
use Rattle.std.specs.Prelude.{ℕ, ◌+◌, ◌*◌, min, Bool, cond, ◌&&◌, List, [], ◌∷◌, length, Some, None, Option, Result, nat_le, nat_lt}
use Rattle.std.specs.Char.{digit_value, is_digit}
use Rattle.std.specs.List.{list_all}
use Rattle.std.specs.Option.{ok_or}
use Rattle.texts.specs.declared.digits.Base.{Base}
use Rattle.texts.specs.declared.digits.Base.TheVariants.{Decimal, Hexadecimal}
use Rattle.texts.specs.declared.trouble.Trouble.{Trouble}
use Rattle.texts.specs.declared.trouble.Trouble.TheVariants.{NotAShape}

abbrev pub radix_of : Base → ℕ
radix_of Decimal = 10
radix_of Hexadecimal = 16

-- the value of a digit, in either case
abbrev pub digit_of : ℕ → ℕ → Option ℕ
digit_of base b = cond (is_digit b base) (Some (digit_value b)) None

abbrev pub all_digits : ℕ → List ℕ → Bool
all_digits base = list_all (λ b. is_digit b base)

-- one or more digits
abbrev pub spelled : ℕ → List ℕ → Bool
spelled base bs = nat_lt 0 (length bs) && all_digits base bs

-- the value of the digits that go on from m
abbrev pub value_of : ℕ → ℕ → List ℕ → ℕ
value_of base m [] = m
value_of base m (b ∷ bs) = value_of base (m * base + digit_value b) bs

-- where the program stops counting
abbrev pub capped : ℕ → ℕ
capped n = min n 4294967296

-- that value, up to the cap, where there are only digits
abbrev pub read_digits : ℕ → ℕ → List ℕ → Option ℕ
read_digits base m bs = cond (all_digits base bs) (Some (capped (value_of base m bs))) None

abbrev pub small_of : ℕ → Option ℕ
small_of n = cond (nat_le n 4294967295) (Some n) None

-- the value of 1 to `most` digits, where it has at most 32 bits
abbrev pub whole_of : ℕ → ℕ → List ℕ → Option ℕ
whole_of base most bs = cond (spelled base bs && nat_le (length bs) most) (small_of (value_of base 0 bs)) None

-- a shape number: 1 to 10 decimal digits
abbrev pub shape_of : List ℕ → Result ℕ Trouble
shape_of bs = ok_or (whole_of 10 10 bs) NotAShape
