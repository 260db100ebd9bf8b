-- Proofs: a filter of barred pairs answers alike in either order. A ghost member cites the last of them, so they stand here. Assumes nothing.
use Rattle.std.specs.Prelude.{◌≡◌, Bool, not, List, [], ◌∷◌, take, refl}
use Rattle.std.proofs.Common.{ap, arith}
use Rattle.std.proofs.lemmas.Grind.{common_steps}
use Rattle.geometry.specs.declared.handle.ColliderHandle.{ColliderHandle}
use Rattle.finders.specs.declared.barred_pairs.BarredPair.{BarredPair}
use Rattle.finders.specs.Filters.{bars, barred_in, keeps_of}

-- the same answer in either order
abbrev pub Symmetric : (ColliderHandle → ColliderHandle → Bool) → Type 0
Symmetric keeps = (a b : ColliderHandle) → keeps a b ≡ keeps b a

bars_flip : (x : BarredPair) (a b : ColliderHandle) → bars x a b ≡ bars x b a
bars_flip x a b = grind (arith, common_steps)

barred_flip : (xs : List BarredPair) (a b : ColliderHandle) → barred_in xs a b ≡ barred_in xs b a
barred_flip [] a b = refl
barred_flip (x ∷ xs) a b = cc (bars_flip x a b, barred_flip xs a b)

pub barred_symmetric : (xs : List BarredPair) → Symmetric (keeps_of xs)
barred_symmetric xs a b = ap not (barred_flip (take 64 xs) a b)
