-- The capped search: what is accepted becomes the cap of what is asked next. Assumes nothing.
use Rattle.std.specs.Prelude.{Bool, cond, List, [], ◌∷◌, fold, Some, None, Option}
use Rattle.std.specs.Option.{unwrap_or, option_or}

-- what is left of an impact under a cap, by the test that accepts it: below the cap, or at most at it
abbrev pub accepted : {M : Type 0} → (M → M → Bool) → Option M → M → Option M
accepted test None c = None
accepted test (Some m) c = cond (test m c) (Some m) None

-- what was accepted last
abbrev pub later : {M : Type 0} → Option M → Option M → Option M
later best o = option_or o best

-- Each of a list is asked under the cap that the last accepted answer set, and under c before there is one.
abbrev pub sought : {Q M : Type 0} → (Q → M → Option M) → M → Option M → List Q → Option M
sought ask c best qs = fold (λ b q. later b (ask q (unwrap_or b c))) best qs

abbrev pub lesser : {M : Type 0} → (M → M → Bool) → M → Option M → M
lesser le m None = m
lesser le m (Some n) = cond (le m n) m n

-- the least of the impacts that are there
abbrev pub least_of : {M : Type 0} → (M → M → Bool) → List (Option M) → Option M
least_of le [] = None
least_of le (None ∷ is) = least_of le is
least_of le (Some m ∷ is) = Some (lesser le m (least_of le is))
