-- Where a text is cut. Assumes nothing.
use Rattle.std.specs.Prelude.{ℕ, Bool, not, ◌||◌, List, drop, ◌==◌}
use Rattle.std.specs.List.{position_or_len, before_first, slice_split}
use Rattle.texts.specs.declared.cuts.Until.{Until}
use Rattle.texts.specs.declared.cuts.Until.TheVariants.{Mark, Blank, Nonblank}

-- a space, a tab or a carriage return
abbrev pub is_blank : ℕ → Bool
is_blank b = b == 32 || (b == 9 || b == 13)

-- the byte ends what is read
abbrev pub stops_at : Until → ℕ → Bool
stops_at (Mark m) = λ b. b == m
stops_at Blank = is_blank
stops_at Nonblank = λ b. not (is_blank b)

-- before the first byte that passes the test
abbrev pub front_of : (ℕ → Bool) → List ℕ → List ℕ
front_of = before_first

-- from that byte on
abbrev pub past_of : (ℕ → Bool) → List ℕ → List ℕ
past_of p bs = drop (position_or_len p bs) bs

-- the parts between the marks: always one more than there are marks
abbrev pub parts_of : ℕ → List ℕ → List (List ℕ)
parts_of m = slice_split (λ b. b == m)
