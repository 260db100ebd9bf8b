-- A part of a list of children has at most 16, and what a test lets pass holds of each of them. Assumes nothing.
use Rattle.std.proofs.Common.{◌≡◌, ℕ, ◌-◌, ◌≤◌, Bool, true, false, cond, ◌&&◌, T, leb, List, [], ◌∷◌, length, take, drop, refl, arith, length-take, leb-true}
use Rattle.std.specs.List.{AllByRecursion, list_all}
use Rattle.std.specs.Bool.{passes}
use Rattle.numbers.proofs.Ranges.{first_of, second_of}
use Rattle.outcomes.proofs.Caps.{on}
use Rattle.hosts.specs.declared.questions.Child.{Child}
use Rattle.hosts.specs.Children.{listed, part_of, passing}

in_list : (cs : List Child) (f n : ℕ) → T (listed cs f n) → n ≤ 16
in_list cs f n h =
    let k = second_of (leb 1 n) (leb n 16 && (leb f (length cs) && leb n (length cs - f))) h in
    leb-true n 16 (on (leb n 16) (first_of (leb n 16) (leb f (length cs) && leb n (length cs - f)) k))

taken_short : (l : List Child) (n : ℕ) (b : Bool) → (T b → n ≤ 16) → length (cond b (take n l) []) ≤ 16
taken_short l n true h = let k = h tt in simp length-take (omega arith)
taken_short l n false h = omega arith

pub part_short : (cs : List Child) (f n : ℕ) → length (part_of cs f n) ≤ 16
part_short cs f n = taken_short (drop f cs) n (listed cs f n) (in_list cs f n)

-- ---- children that pass a test

pub short_or_none : (l : List Child) (b : Bool) → length l ≤ 16 → length (cond b l []) ≤ 16
short_or_none l true h = h
short_or_none l false h = omega arith

pub passing_short : (test : Child → Bool) (l : List Child) → length l ≤ 16 → length (passing test l) ≤ 16
passing_short test l h = short_or_none l (list_all test l) h

passing_by : (test : Child → Bool) (l : List Child) (b : Bool) → list_all test l ≡ b → T (list_all test (cond b l []))
passing_by test l true e = passes (list_all test l) e
passing_by test l false e = tt

pub passing_pass : (test : Child → Bool) (l : List Child) → T (list_all test (passing test l))
passing_pass test l = passing_by test l (list_all test l) refl

-- what holds of each child that passes holds of all children
pub each_passes : (test : Child → Bool) (P : Child → Type 0) → ((c : Child) → T (test c) → P c) → (l : List Child) → T (list_all test l) → AllByRecursion P l
each_passes test P k [] h = tt
each_passes test P k (c ∷ l) h = (k c (first_of (test c) (list_all test l) h), each_passes test P k l (second_of (test c) (list_all test l) h))
