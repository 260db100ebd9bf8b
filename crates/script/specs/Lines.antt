-- The commands, by their words. Assumes nothing.
use Rattle.std.specs.Prelude.{ℕ, List, [], ◌∷◌, Ok, Err, Result}
use Rattle.geometry.specs.Boxes.{box}
use Rattle.outcomes.specs.declared.cast_outcome.CastOutcome.{CastOutcome}
use Rattle.texts.specs.declared.trouble.Trouble.{Trouble}
use Rattle.texts.specs.declared.trouble.Trouble.TheVariants.{MissingWord, ExtraWord}
use Rattle.texts.specs.Words.{words_of, uncommented}
use Rattle.texts.specs.Digits.{shape_of}
use Rattle.texts.specs.Reals.{number_of}
use Rattle.texts.specs.Places.{and_then, place_of, pose_of}
use Rattle.script.specs.declared.command.Command.{Command}
use Rattle.script.specs.declared.command.Command.TheVariants as commands
use Rattle.script.specs.Choices.{host_of, kind_of, status_of, time_of, overlap_of, pair_of}
use Rattle.script.specs.Parts.{no_children, children_of}
use Rattle.script.specs.declared.verbs.Verb.{Verb}
use Rattle.script.specs.declared.verbs.Verb.TheVariants as verbs
use Rattle.script.specs.Verbs.{verb_from}

-- what the first word is read as, where it is not missing, and the words after it
abbrev pub read_word : {A : Type 0} → (List ℕ → Result A Trouble) → List (List ℕ) → Result (A × List (List ℕ)) Trouble
read_word f [] = Err MissingWord
read_word f (w ∷ ws) = and_then (f w) (λ x. Ok (x, ws))

abbrev pub any_word : List ℕ → Result (Unit {0}) Trouble
any_word w = Ok tt

-- no word is left over
abbrev pub ended : List (List ℕ) → Result (Unit {0}) Trouble
ended [] = Ok tt
ended (w ∷ ws) = Err ExtraWord

-- how a cast ended, by the word for it, and the fraction that follows
abbrev pub outcome_from : List ℕ → List (List ℕ) → Result (CastOutcome × List (List ℕ)) Trouble
outcome_from w ws = and_then (status_of w) (λ s. and_then (read_word number_of ws) (λ (x, us). Ok (s x, us)))

abbrev pub read_outcome : List (List ℕ) → Result (CastOutcome × List (List ℕ)) Trouble
read_outcome [] = Err MissingWord
read_outcome (w ∷ ws) = outcome_from w ws

-- ---- the words after the first

-- hall NAME
abbrev pub hall_from : List (List ℕ) → Result Command Trouble
hall_from ws = and_then (read_word any_word ws) (λ (n, us). and_then (ended us) (λ _. Ok commands.Hall))

-- host slide|recorded
abbrev pub host_from : List (List ℕ) → Result Command Trouble
host_from ws = and_then (read_word host_of ws) (λ (h, us). and_then (ended us) (λ _. Ok (commands.Host h)))

-- box HX,HY,HZ
abbrev pub box_from : List (List ℕ) → Result Command Trouble
box_from ws = and_then (read_word place_of ws) (λ (v, us). and_then (ended us) (λ _. Ok (commands.Cuboid v)))

-- compound N@POSE ...
abbrev pub compound_from : List (List ℕ) → Result Command Trouble
compound_from [] = Err MissingWord
compound_from (w ∷ ws) = and_then (children_of no_children (w ∷ ws)) (λ cs. Ok (commands.Compound cs))

-- listed KIND LEAST GREATEST [N@POSE ...]
abbrev pub listed_from : List (List ℕ) → Result Command Trouble
listed_from ws =
    and_then (read_word kind_of ws) (λ (k, us).
    and_then (read_word place_of us) (λ (least, vs).
    and_then (read_word place_of vs) (λ (greatest, rest).
    and_then (children_of no_children rest) (λ cs. Ok (commands.Listed k (box least greatest) cs)))))

-- row FAST TARGET hit|failed|overlapped|separated FRACTION TIME|- yes|no|-
abbrev pub row_from : List (List ℕ) → Result Command Trouble
row_from ws =
    and_then (read_word shape_of ws) (λ (f, after_fast).
    and_then (read_word shape_of after_fast) (λ (t, after_target).
    and_then (read_outcome after_target) (λ (c, after_cast).
    and_then (read_word time_of after_cast) (λ (d, after_time).
    and_then (read_word overlap_of after_time) (λ (o, rest).
    and_then (ended rest) (λ _.
    Ok (commands.Row (record { fast = f; target = t; cast = c; time = d; overlap = o }))))))))

-- cast FAST FROM TO TARGET AT solid|pseudo
abbrev pub cast_from : List (List ℕ) → Result Command Trouble
cast_from ws =
    and_then (read_word shape_of ws) (λ (f, after_fast).
    and_then (read_word pose_of after_fast) (λ (from, after_from).
    and_then (read_word pose_of after_from) (λ (to, after_to).
    and_then (read_word shape_of after_to) (λ (t, after_target).
    and_then (read_word pose_of after_target) (λ (at, after_at).
    and_then (read_word pair_of after_at) (λ (p, rest).
    and_then (ended rest) (λ _.
    Ok (commands.Cast (record { fast = f; start = from; end = to; target = t; pose = at; pair = p })))))))))

-- ---- all words

abbrev pub line_from : Verb → List (List ℕ) → Result Command Trouble
line_from verbs.Hall ws = hall_from ws
line_from verbs.Host ws = host_from ws
line_from verbs.Cuboid ws = box_from ws
line_from verbs.Compound ws = compound_from ws
line_from verbs.Listed ws = listed_from ws
line_from verbs.Row ws = row_from ws
line_from verbs.Cast ws = cast_from ws

abbrev pub command_from : List (List ℕ) → Result Command Trouble
command_from [] = Ok commands.Blank
command_from (w ∷ ws) = and_then (verb_from w) (λ v. line_from v ws)

-- what a line says
abbrev pub command_of : List ℕ → Result Command Trouble
command_of line = command_from (words_of (uncommented line))
