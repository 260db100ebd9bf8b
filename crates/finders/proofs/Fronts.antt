-- What was written to a space that is lent stands in front, as far as there was room, and the rest is as it was. Assumes nothing.
use Rattle.std.proofs.Common.{◌≡◌, ℕ, ◌≤◌, min, List, [], ◌∷◌, ◌++◌, length, take, drop, sym, refl, ◌∙◌, subst, append_assoc, append-nil, arith}
use Rattle.std.specs.List.{fold}
use Rattle.std.proofs.lemmas.Grind.{common_steps}
use Rattle.std.proofs.lemmas.List.{take_all}
use Rattle.spaces.specs.Spaces.{Written, with, nothing_in}

module _ {X : Type 0} (old : List X) where
  -- of a space that held `old`, once `cs` were written to it: the three promises of a report, and the length that is kept
  pub record Reported (cs : List X) (w : Written X) : Type 0 where
    pub long : length w.all ≡ length old
    pub count : w.count ≡ min (length cs) (length old)
    pub front : take w.count w.all ≡ take w.count cs
    pub rest : drop w.count w.all ≡ drop w.count old

  one_more : (cs : List X) (w : Written X) (x : X) → Reported cs w → Reported (cs ++ x ∷ []) (with w x)
  one_more cs w x f = grind (arith, common_steps)

  reported_more : (cs ds : List X) (w : Written X) → Reported cs w → Reported (cs ++ ds) (fold with w ds)
  reported_more cs [] w f = subst (λ (xs : List X). Reported xs w) (sym (append-nil cs)) f
  reported_more cs (d ∷ ds) w f =
      subst (λ (xs : List X). Reported xs (fold with w (d ∷ ds))) (append_assoc cs (d ∷ []) ds)
      (reported_more (cs ++ d ∷ []) ds (with w d) (one_more cs w d f))

  pub reported : (cs : List X) → Reported cs (fold with (nothing_in old) cs)
  reported cs = reported_more [] cs (nothing_in old) (record { long = refl; count = omega arith; front = refl; rest = refl })

-- with room for all, the front of the space is the report
pub all_reported : {X : Type 0} (cs out : List X) (room r : ℕ) → length cs ≤ room → r ≡ min (length cs) room → take r out ≡ take r cs → take r out ≡ cs
all_reported cs out room r l e f = f ∙ take_all r cs (omega arith)
