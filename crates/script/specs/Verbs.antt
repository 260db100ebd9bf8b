-- The first words of lines. Assumes nothing.
use Rattle.std.specs.Prelude.{ℕ, Bool, true, false, cond, List, [], ◌∷◌, Some, None, Ok, Err, Option, Result, codes}
use Rattle.std.specs.List.{list_any}
use Rattle.std.specs.Str.{bytes_eq}
use Rattle.texts.specs.declared.trouble.Trouble.{Trouble}
use Rattle.texts.specs.declared.trouble.Trouble.TheVariants.{UnknownCommand, NotThereYet}
use Rattle.script.specs.declared.verbs.Verb.{Verb}
use Rattle.script.specs.declared.verbs.Verb.TheVariants as verbs

abbrev pub verb_of : List ℕ → Option Verb
verb_of w =
    cond (bytes_eq w (codes "hall")) (Some verbs.Hall)
    (cond (bytes_eq w (codes "host")) (Some verbs.Host)
    (cond (bytes_eq w (codes "box")) (Some verbs.Cuboid)
    (cond (bytes_eq w (codes "compound")) (Some verbs.Compound)
    (cond (bytes_eq w (codes "listed")) (Some verbs.Listed)
    (cond (bytes_eq w (codes "row")) (Some verbs.Row)
    (cond (bytes_eq w (codes "cast")) (Some verbs.Cast) None))))))

-- the commands that are known and not read yet
abbrev pub is_known : List ℕ → Bool
is_known w =
    list_any (bytes_eq w)
    (codes "slots"
    ∷ codes "params"
    ∷ codes "bar"
    ∷ codes "place"
    ∷ codes "attach"
    ∷ codes "detach"
    ∷ codes "lift"
    ∷ codes "put"
    ∷ codes "aim"
    ∷ codes "advance"
    ∷ codes "solve"
    ∷ codes "first"
    ∷ [])

abbrev pub verb_or : Option Verb → Bool → Result Verb Trouble
verb_or (Some v) known = Ok v
verb_or None true = Err NotThereYet
verb_or None false = Err UnknownCommand

-- the command that a word is, or else whether it is known
abbrev pub verb_from : List ℕ → Result Verb Trouble
verb_from w = verb_or (verb_of w) (is_known w)
