-- The measured casts: a carton with half sides 0.5 goes from 0 to 8 on the first axis. Assumes nothing.
use Rattle.std.specs.Prelude.{◌≡◌, ℕ, Bool, true, false, List, [], ◌∷◌, Some, None, Option, from_bits, Float}
use Rattle.std.specs.Float.{binary32}
use Rattle.numbers.specs.Constants.{zero_f, one_f}
use Rattle.geometry.specs.declared.pose.Pose.{Pose}
use Rattle.geometry.specs.declared.shape_kind.ShapeKind as Kinds
use Rattle.geometry.specs.declared.interaction_groups.InteractionTestMode.{InteractionTestMode}
use Rattle.geometry.specs.declared.interaction_groups.InteractionTestMode.TheVariants.{And, Or}
use Rattle.geometry.specs.Vectors.{vector, uniform, origin}
use Rattle.geometry.specs.Poses.{placed}
use Rattle.geometry.specs.Boxes.{box}
use Rattle.geometry.specs.Groups.{groups, agree}
use Rattle.outcomes.specs.declared.cast_outcome.CastOutcome.{CastOutcome}
use Rattle.outcomes.specs.declared.cast_outcome.CastOutcome.TheVariants.{Hit, Overlapped, Separated}
use Rattle.outcomes.specs.Impacts.{solid_impact, pseudo_impact}
use Rattle.hosts.specs.declared.questions.Sweep.{Sweep}
use Rattle.hosts.specs.declared.questions.CastQuery.{CastQuery}
use Rattle.hosts.specs.Hosts.{Answers}
use Rattle.strokes.specs.Strokes.{sooner_of}
use Rattle.slide.specs.declared.shapes.Shape.TheVariants.{Cuboid}
use Rattle.slide.specs.Slides.{slide_answers}
use Rattle.recorded.specs.declared.rows.Listed.{Listed}
use Rattle.recorded.specs.declared.rows.Row.{Row}
use Rattle.recorded.specs.Records.{recorded_answers}

-- numbers, by their bits
abbrev bits : ℕ → Float
bits n = from_bits binary32 n

abbrev half : Float
half = bits 0x3f00_0000

abbrev along_x : Float → Pose
along_x v = placed (vector v zero_f zero_f)

-- ---- the carton's way, and what it is cast at

abbrev pub sweep : Sweep
sweep = record { start = along_x zero_f; end = along_x (bits 0x4100_0000); centre = origin }

-- a target of the first shape at a place on the way
abbrev pub toward : Float → CastQuery
toward at = record { fast = 0; sweep = sweep; target = 0; pose = along_x at; slop = zero_f }

-- boxes on the slide host
abbrev pub boxes : Answers
boxes = slide_answers (Cuboid (uniform half) ∷ []) []

-- a carton and a wall on the recorded host, with the row Separated 0.25
abbrev pub listed : Listed
listed = record { kind = Kinds.TheVariants.Proxy; aabb = box (uniform (bits 0xbf00_0000)) (uniform half); first = 0; count = 0 }

abbrev pub row : Row
row = record { fast = 0; target = 0; cast = Separated (bits 0x3e80_0000); time = None; overlap = None }

abbrev pub record_of : Answers
record_of = recorded_answers (listed ∷ []) [] (row ∷ [])

-- ---- what was measured of a cast: what it answers at the cap 1, its solid impact and its pseudo impact

pub record Case : Type 0 where
  pub host : Answers
  pub at : Float
  pub outcome : CastOutcome
  pub solid : Option Float
  pub pseudo : Option Float

abbrev case : Answers → Float → CastOutcome → Option Float → Option Float → Case
case h a o s p = record { host = h; at = a; outcome = o; solid = s; pseudo = p }

abbrev pub cases : List Case
cases =
    -- a wall at 4.5 is hit at 0.4375
    case boxes (bits 0x4090_0000) (Hit (bits 0x3ee0_0000)) (Some (bits 0x3ee0_0000)) (Some (bits 0x3ee0_0000))
    -- a wall at 1 is touched at the start, which is no solid impact
    ∷ case boxes one_f (Overlapped zero_f) None (Some zero_f)
    -- a wall at 2.5 is hit at 0.1875
    ∷ case boxes (bits 0x4020_0000) (Hit (bits 0x3e40_0000)) (Some (bits 0x3e40_0000)) (Some (bits 0x3e40_0000))
    -- a sensor at 9 is met at the very end: the pseudo impact is 1, and there is no solid one
    ∷ case boxes (bits 0x4110_0000) (Hit one_f) None (Some one_f)
    -- past that nothing is met
    ∷ case boxes (bits 0x4118_0000) (Separated one_f) None None
    -- recorded as Separated at 0.25: a solid impact, and no pseudo impact
    ∷ case record_of (bits 0x4090_0000) (Separated (bits 0x3e80_0000)) (Some (bits 0x3e80_0000)) None
    ∷ []

pub record Holds (c : Case) : Type 0 where
  pub answers : c.host.proxy_cast (toward c.at) one_f ≡ c.outcome
  pub stops : solid_impact (λ k. Some (c.host.proxy_cast (toward c.at) k)) ≡ c.solid
  pub crosses : pseudo_impact (λ k. Some (c.host.proxy_cast (toward c.at) k)) ≡ c.pseudo

abbrev pub AllHold : List Case → Type 0
AllHold [] = Unit {0}
AllHold (c ∷ cs) = Holds c × AllHold cs

-- ---- walls at 4.5 and 2.5: in either order the nearer one counts

-- the solid impact of a wall at a place
abbrev pub impact_at : Float → Option Float
impact_at at = solid_impact (λ k. Some (boxes.proxy_cast (toward at) k))

-- ---- groups (1, 2) and (2, 4), as memberships and filter, agree only with both modes Or

abbrev pub modes : List (InteractionTestMode × InteractionTestMode × Bool)
modes = (And, And, false) ∷ (And, Or, false) ∷ (Or, And, false) ∷ (Or, Or, true) ∷ []

abbrev pub AllAgree : List (InteractionTestMode × InteractionTestMode × Bool) → Type 0
AllAgree [] = Unit {0}
AllAgree (m ∷ ms) = (agree (groups 1 2 m.0) (groups 2 4 m.1) ≡ m.2) × AllAgree ms

pub record Measured : Type 0 where
  pub casts : AllHold cases
  -- the carton stopped at 0.4375 stands at 3.5
  pub clamped : boxes.pose_at sweep (bits 0x3ee0_0000) ≡ along_x (bits 0x4060_0000)
  pub nearer_last : sooner_of (impact_at (bits 0x4090_0000)) (impact_at (bits 0x4020_0000)) ≡ Some (bits 0x3e40_0000)
  pub nearer_first : sooner_of (impact_at (bits 0x4020_0000)) (impact_at (bits 0x4090_0000)) ≡ Some (bits 0x3e40_0000)
  pub groups_agree : AllAgree modes
