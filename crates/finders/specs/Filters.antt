-- Which pairs of colliders a filter keeps. Assumes nothing.
use Rattle.std.specs.Prelude.{◌≡◌, Bool, false, not, ◌&&◌, ◌||◌, ◌⊎◌, List, take}
use Rattle.std.specs.List.{list_any}
use Rattle.geometry.specs.declared.handle.ColliderHandle.{ColliderHandle}
use Rattle.geometry.specs.Handles.{same}
use Rattle.finders.specs.declared.barred_pairs.BarredPair.{BarredPair}
use Rattle.finders.specs.Members.{In}

abbrev pub same_collider : ColliderHandle → ColliderHandle → Bool
same_collider a b = same a.0 b.0

-- the pair is these two, in either order
abbrev pub bars : BarredPair → ColliderHandle → ColliderHandle → Bool
bars x a b = (same_collider x.first a && same_collider x.second b) || (same_collider x.first b && same_collider x.second a)

abbrev pub barred_in : List BarredPair → ColliderHandle → ColliderHandle → Bool
barred_in xs a b = list_any (λ x. bars x a b) xs

-- only the first 64 pairs count
abbrev pub keeps_of : List BarredPair → ColliderHandle → ColliderHandle → Bool
keeps_of xs a b = not (barred_in (take 64 xs) a b)

-- these two, in one order or the other
abbrev pub IsPair : BarredPair → ColliderHandle → ColliderHandle → Type 0
IsPair x a b = ((x.first ≡ a) × (x.second ≡ b)) ⊎ ((x.first ≡ b) × (x.second ≡ a))

-- what is dropped is one of the first 64 pairs, and each of these is dropped in either order
pub record BarringLaws : Type 0 where
  pub only : (xs : List BarredPair) (a b : ColliderHandle) → keeps_of xs a b ≡ false → (x : BarredPair) × In x (take 64 xs) × IsPair x a b
  pub all : (xs : List BarredPair) (a b : ColliderHandle) (x : BarredPair) → In x (take 64 xs) → IsPair x a b → keeps_of xs a b ≡ false
