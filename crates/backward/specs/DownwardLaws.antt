-- Proofs: a list that is turned round lists the same. A ghost member cites the last of them, so they stand here. Assumes nothing.
use Rattle.std.specs.Prelude.{◌≡◌, List, [], ◌∷◌, ◌++◌, reverse, Float}
use Rattle.std.proofs.Common.{inl, inr, arith}
use Rattle.std.proofs.lemmas.Grind.{common_steps}
use Rattle.std.proofs.lemmas.List.{reverse-append, length-reverse}
use Rattle.geometry.specs.declared.aabb.Aabb.{Aabb}
use Rattle.finders.specs.Members.{In, Distinct}
use Rattle.finders.specs.Finders.{Held}
use Rattle.finders.specs.FinderLaws.{Lists}
use Rattle.finders.specs.Tables.{upward}
use Rattle.finders.specs.TableLaws.{in_left, in_right, in_cases, distinct_append, upward_lists}
use Rattle.backward.specs.Downward.{downward}

reverse-cons : {X : Type 0} (x : X) (xs : List X) → reverse (x ∷ xs) ≡ reverse xs ++ x ∷ []
reverse-cons x xs = reverse-append (x ∷ []) xs

in_reverse : {X : Type 0} (x : X) (xs : List X) → In x xs → In x (reverse xs)
in_reverse x [] i = i
in_reverse x (y ∷ xs) i = rw (reverse-cons y xs) (elim i [ inl e ↦ in_right x (reverse xs) (y ∷ []) (inl e) | inr j ↦ in_left x (reverse xs) (y ∷ []) (in_reverse x xs j) ])

in_reversed : {X : Type 0} (x : X) (xs : List X) → In x (reverse xs) → In x xs
in_reversed x [] i = i
in_reversed x (y ∷ xs) i = elim (in_cases x (reverse xs) (y ∷ []) (rw (reverse-cons y xs) at i)) [ inl j ↦ inr (in_reversed x xs j) | inr j ↦ grind (arith, common_steps) ]

distinct_reverse : {X : Type 0} (xs : List X) → Distinct xs → Distinct (reverse xs)
distinct_reverse [] d = d
distinct_reverse (x ∷ xs) d = rw (reverse-cons x xs) (distinct_append (reverse xs) (x ∷ []) (distinct_reverse xs d.1) (λ i. i, tt) (λ y i j. elim j [ inl e ↦ d.0 (in_reversed x xs (rw e at i)) | inr k ↦ k ]))

pub downward_lists : (h : Held) (q : Aabb) (p : Float) → Lists h q p (downward h q p)
downward_lists h q p =
    let cs = upward 0 h q p in
    let l = upward_lists h q p in
    record {
      apart = distinct_reverse cs l.apart;
      only = λ c i. l.only c (in_reversed c cs i);
      all = λ c t. in_reverse c cs (l.all c t);
      few = rw length-reverse l.few;
    }
