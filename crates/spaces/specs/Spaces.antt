-- A space that is lent, and how much of it is written. Assumes nothing.
use Rattle.std.specs.Prelude.{◌≡◌, ℕ, ◌+◌, ◌-◌, min, Bool, cond, List, length, nat_le, slice_set}
use Rattle.spaces.specs.declared.Space.{Space}

-- all that stands in a space, and how many of its places, from the front, are written
pub record Written (X : Type 0) : Type 0 where
  pub all : List X
  pub count : ℕ

abbrev pub state : {X : Type 0} → Space X → Written X
state s = record { all = s.lent.now; count = s.count }

abbrev pub nothing_in : {X : Type 0} → List X → Written X
nothing_in xs = record { all = xs; count = 0 }

-- the first n places are written; all, where there are fewer
abbrev pub written_before : {X : Type 0} → List X → ℕ → Written X
written_before xs n = record { all = xs; count = min n (length xs) }

-- as many values more find a place
abbrev pub has_room : {X : Type 0} → Written X → ℕ → Bool
has_room w n = nat_le n (length w.all - w.count)

-- one value more after the others; where there is no room, nothing changes
abbrev pub with : {X : Type 0} → Written X → X → Written X
with w x = cond (has_room w 1) (record { all = slice_set w.all w.count x; count = w.count + 1 }) w

-- both stand for one and the same lent space, so that what is written to the one is what its lender finds
abbrev pub SameSpace : {X : Type 0} → Space X → Space X → Type 0
SameSpace old new = new.lent.ghost_name ≡ old.lent.ghost_name
