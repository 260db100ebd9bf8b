-- The laws of lines that are read, each stated once. A function of `src/laws.rt` ensures each. Assumes nothing.
use Rattle.std.specs.Prelude.{◌≡◌, ℕ, ◌<◌, ◌≤◌, true, List, [], ◌∷◌, ◌++◌, length, Some, None, Ok, Err, codes, from_bits, slice_index_or, Float}
use Rattle.std.specs.Float.{binary32}
use Rattle.std.specs.List.{AllByRecursion}
use Rattle.geometry.specs.Vectors.{vector}
use Rattle.geometry.specs.Poses.{placed}
use Rattle.outcomes.specs.declared.cast_outcome.CastOutcome.TheVariants as casts
use Rattle.outcomes.specs.declared.pair_kind.PairKind.TheVariants.{Pseudo}
use Rattle.texts.specs.declared.trouble.Trouble.TheVariants.{UnknownCommand, NotThereYet, MissingWord, ExtraWord, TooManyChildren, NotAShape, NotANumber, NotAPlace, NotAPose, NotAChild, NotAKind}
use Rattle.texts.specs.Cuts.{is_blank}
use Rattle.script.specs.declared.command.HostChoice.TheVariants.{Recorded}
use Rattle.script.specs.declared.command.Command.TheVariants as commands
use Rattle.script.specs.declared.command.Children.{Children}
use Rattle.script.specs.Parts.{child_of, blank, no_children, children_of}
use Rattle.script.specs.Lines.{command_of}

-- What stands after a comment sign does not matter, nor do blanks before a line or after it.
pub record Ignored : Type 0 where
  pub comment : (line text : List ℕ) → command_of (line ++ 35 ∷ text) ≡ command_of line
  pub blanks_before : (bs line : List ℕ) → AllByRecursion (λ b. is_blank b ≡ true) bs → command_of (bs ++ line) ≡ command_of line
  pub blanks_after : (line bs : List ℕ) → AllByRecursion (λ b. is_blank b ≡ true) bs → command_of (line ++ bs) ≡ command_of line

-- The children of a Compound are its words, in their order, 16 at most; what stands past them is blank.
pub record Kept (ws : List (List ℕ)) (cs : Children) : Type 0 where
  pub few : length ws ≤ 16
  pub count : cs.count ≡ length ws
  pub each : (i : ℕ) → i < length ws → child_of (slice_index_or ws i []) ≡ Ok (slice_index_or cs.list i blank)
  pub past : (i : ℕ) → length ws ≤ i → slice_index_or cs.list i blank ≡ blank

abbrev pub Gathered : Type 0
Gathered = (ws : List (List ℕ)) (cs : Children) → children_of no_children ws ≡ Ok cs → Kept ws cs

abbrev one : Float
one = from_bits binary32 0x3f80_0000

abbrev two : Float
two = from_bits binary32 0x4000_0000

abbrev half : Float
half = from_bits binary32 0x3f00_0000

-- lines, and what they say
pub record Sayings : Type 0 where
  pub empty : command_of (codes "") ≡ Ok commands.Blank
  pub comment : command_of (codes "  # box 1,2,1") ≡ Ok commands.Blank
  pub hall : command_of (codes "hall north") ≡ Ok commands.Hall
  pub hall_unnamed : command_of (codes "hall # north") ≡ Err MissingWord
  pub hall_of_two_words : command_of (codes "hall north east") ≡ Err ExtraWord
  pub host : command_of (codes "host recorded") ≡ Ok (commands.Host Recorded)
  pub cuboid : command_of (codes "box 1,2,0.5") ≡ Ok (commands.Cuboid (vector one two half))
  pub two_sides : command_of (codes "box 1,2") ≡ Err NotAPlace
  pub worse_than_two_sides : command_of (codes "box 1,x") ≡ Err NotANumber
  pub no_children_lem : command_of (codes "compound") ≡ Err MissingWord
  pub no_child : command_of (codes "compound 3") ≡ Err NotAChild
  pub no_shape : command_of (codes "compound x@1,2,1") ≡ Err NotAShape
  pub no_pose : command_of (codes "compound 3@1,2") ≡ Err NotAPose
  pub seventeen :
      command_of (codes "compound 0@1,1,1 1@1,1,1 2@1,1,1 3@1,1,1 4@1,1,1 5@1,1,1 6@1,1,1 7@1,1,1 8@1,1,1 9@1,1,1 10@1,1,1 11@1,1,1 12@1,1,1 13@1,1,1 14@1,1,1 15@1,1,1 16@1,1,1")
      ≡ Err TooManyChildren
  pub no_kind : command_of (codes "listed cube") ≡ Err NotAKind
  pub row :
      command_of (codes "row 1 2 hit 0.5 - yes")
      ≡ Ok (commands.Row (record { fast = 1; target = 2; cast = casts.Hit half; time = None; overlap = Some true }))
  pub largest_shape :
      command_of (codes "row 4294967295 0 separated 1 0.5 -")
      ≡ Ok (commands.Row (record { fast = 4294967295; target = 0; cast = casts.Separated one; time = Some half; overlap = None }))
  pub no_larger_shape : command_of (codes "row 4294967296 0") ≡ Err NotAShape
  pub cast :
      command_of (codes "cast 1 1,1,1 2,2,2 3 2,1,2,0.5,1,2,1 pseudo")
      ≡ Ok (commands.Cast (record {
        fast = 1;
        start = placed (vector one one one);
        end = placed (vector two two two);
        target = 3;
        pose = record { translation = vector two one two; rotation = record { i = half; j = one; k = two; w = one } };
        pair = Pseudo;
      }))
  pub not_yet : command_of (codes "advance whatever follows") ≡ Err NotThereYet
  pub unknown : command_of (codes "Box 1,2,1") ≡ Err UnknownCommand
