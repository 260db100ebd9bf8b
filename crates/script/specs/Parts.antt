-- The children of a Compound. Assumes nothing.
use Rattle.std.specs.Prelude.{ℕ, ◌+◌, cond, List, [], ◌∷◌, replicate, Ok, Err, Result, nat_lt, ◌==◌, slice_set}
use Rattle.geometry.specs.Vectors.{origin}
use Rattle.geometry.specs.Poses.{placed}
use Rattle.hosts.specs.declared.questions.Child.{Child}
use Rattle.texts.specs.declared.trouble.Trouble.{Trouble}
use Rattle.texts.specs.declared.trouble.Trouble.TheVariants.{NotAChild, TooManyChildren}
use Rattle.texts.specs.Cuts.{front_of, past_of}
use Rattle.texts.specs.Digits.{shape_of}
use Rattle.texts.specs.Places.{and_then, pose_of}
use Rattle.script.specs.declared.command.Children.{Children}

-- a shape number, and after the mark a pose: the tail stands from the mark on
abbrev pub child_from : List ℕ → List ℕ → Result Child Trouble
child_from n [] = Err NotAChild
child_from n (at ∷ place) = and_then (shape_of n) (λ s. and_then (pose_of place) (λ p. Ok (record { pose = p; shape = s })))

abbrev pub child_of : List ℕ → Result Child Trouble
child_of w = child_from (front_of (λ b. b == 64) w) (past_of (λ b. b == 64) w)

-- what stands past the count
abbrev pub blank : Child
blank = record { pose = placed origin; shape = 0 }

abbrev pub no_children : Children
no_children = record { list = replicate 16 blank; count = 0 }

-- one more child; the word after the sixteenth is not read
abbrev pub with_child : Children → List ℕ → Result Children Trouble
with_child cs w =
    cond (nat_lt cs.count 16)
    (and_then (child_of w) (λ c. Ok (record { list = slice_set cs.list cs.count c; count = cs.count + 1 })))
    (Err TooManyChildren)

abbrev pub children_of : Children → List (List ℕ) → Result Children Trouble
children_of cs [] = Ok cs
children_of cs (w ∷ ws) = and_then (with_child cs w) (λ ds. children_of ds ws)
