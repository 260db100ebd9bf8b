-- Which pairs a filter of barred pairs drops. Assumes nothing.
use Rattle.std.proofs.Common.{◌≡◌, true, List, [], ◌∷◌, take, refl, inl, inr, arith}
use Rattle.std.proofs.lemmas.Grind.{common_steps}
use Rattle.std.proofs.lemmas.Bool.{or_cases, not-false, not_from_true, false≢true}
use Rattle.geometry.specs.declared.handle.ColliderHandle.{ColliderHandle}
use Rattle.finders.specs.declared.barred_pairs.BarredPair.{BarredPair}
use Rattle.finders.specs.Members.{In}
use Rattle.finders.specs.Filters.{bars, barred_in, IsPair, BarringLaws}

bars_only : (x : BarredPair) (a b : ColliderHandle) → bars x a b ≡ true → IsPair x a b
bars_only x a b e = grind (arith, common_steps)

bars_all : (x : BarredPair) (a b : ColliderHandle) → IsPair x a b → bars x a b ≡ true
bars_all x a b k = grind (arith, common_steps)

barred_only : (xs : List BarredPair) (a b : ColliderHandle) → barred_in xs a b ≡ true → (x : BarredPair) × In x xs × IsPair x a b
barred_only [] a b e = absurd (false≢true e)
barred_only (x ∷ xs) a b e =
    elim (or_cases (bars x a b) (barred_in xs a b) e) [
      | inl k ↦ (x, inl refl, bars_only x a b k)
      | inr k ↦ let r = barred_only xs a b k in (r.0, inr r.1, r.2)
    ]

barred_all : (xs : List BarredPair) (a b : ColliderHandle) (x : BarredPair) → In x xs → IsPair x a b → barred_in xs a b ≡ true
barred_all [] a b x i k = absurd i
barred_all (y ∷ xs) a b x i k = grind (arith, common_steps, bars_all x a b, barred_all xs a b x)

pub barring_laws : BarringLaws
barring_laws = record {
  only = λ xs a b e. barred_only (take 64 xs) a b (not-false (barred_in (take 64 xs) a b) e);
  all = λ xs a b x i k. not_from_true (barred_in (take 64 xs) a b) (barred_all (take 64 xs) a b x i k);
}
