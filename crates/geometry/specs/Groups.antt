-- Which groups agree. Assumes nothing.
use Rattle.std.specs.Prelude.{◌≡◌, ℕ, Bool, false, cond, not, ◌&&◌, ◌||◌, T, Some, None, Option, ◌==◌, bit_and}
use Rattle.geometry.specs.declared.interaction_groups.InteractionTestMode.{InteractionTestMode}
use Rattle.geometry.specs.declared.interaction_groups.InteractionTestMode.TheVariants.{And, Or}
use Rattle.geometry.specs.declared.interaction_groups.InteractionGroups.{InteractionGroups}

-- the number of a mode, and the mode of a number
abbrev pub mode_number : InteractionTestMode → ℕ
mode_number And = 0
mode_number Or = 1

abbrev pub mode_of : ℕ → Option InteractionTestMode
mode_of n = cond (n == 0) (Some And) (cond (n == 1) (Some Or) None)

abbrev pub groups : ℕ → ℕ → InteractionTestMode → InteractionGroups
groups m f t = record { memberships = m; filter = f; mode = t }

abbrev pub all_groups : InteractionGroups
all_groups = groups 4294967295 4294967295 And

abbrev pub no_groups : InteractionGroups
no_groups = groups 0 0 And

-- a is in a group that b's filter has
abbrev pub wanted : InteractionGroups → InteractionGroups → Bool
wanted a b = not (bit_and a.memberships b.filter == 0)

abbrev pub agree_and : InteractionGroups → InteractionGroups → Bool
agree_and a b = wanted a b && wanted b a

abbrev pub agree_or : InteractionGroups → InteractionGroups → Bool
agree_or a b = wanted a b || wanted b a

abbrev pub by_modes : InteractionTestMode → InteractionTestMode → Bool → Bool → Bool
by_modes And m both one = both
by_modes Or And both one = both
by_modes Or Or both one = one

-- And wins over Or
abbrev pub agree : InteractionGroups → InteractionGroups → Bool
agree a b = by_modes a.mode b.mode (agree_and a b) (agree_or a b)

pub record GroupsAgree : Type 0 where
  pub either_way : (a b : InteractionGroups) → agree a b ≡ agree b a
  pub both_wanted : (a b : InteractionGroups) → T (wanted a b) → T (wanted b a) → T (agree a b)
  pub and_wins : (a b : InteractionGroups) → a.mode ≡ And → agree a b ≡ agree_and a b
  pub one_is_enough : (a b : InteractionGroups) → a.mode ≡ Or → b.mode ≡ Or → T (wanted a b) → T (agree a b)
  pub none_wanted : (a b : InteractionGroups) → wanted a b ≡ false → wanted b a ≡ false → agree a b ≡ false
