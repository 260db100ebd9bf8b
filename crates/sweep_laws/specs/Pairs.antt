-- Which pairs of a body are admitted, and their impacts, by the rules alone. Assumes nothing.
use Rattle.std.specs.Prelude.{◌≡◌, ℕ, Bool, true, false, cond, T, List, [], ◌∷◌, map, Some, None, Option, Float}
use Rattle.std.specs.Float.Ieee.{le}
use Rattle.std.specs.List.{ContainsAt as Has}
use Rattle.numbers.specs.Constants.{one_f}
use Rattle.geometry.specs.declared.handle.RigidBodyHandle.{RigidBodyHandle}
use Rattle.geometry.specs.declared.handle.ColliderHandle.{ColliderHandle}
use Rattle.geometry.specs.declared.pose.Pose.{Pose}
use Rattle.geometry.specs.declared.shape_kind.ShapeKind.{ShapeKind}
use Rattle.geometry.specs.Boxes.{loosened_by, meet_of}
use Rattle.geometry.specs.Groups.{agree}
use Rattle.hosts.specs.declared.questions.Sweep.{Sweep}
use Rattle.slots.specs.Store.{found}
use Rattle.records.specs.declared.rigid_body.RigidBody.{RigidBody}
use Rattle.records.specs.declared.collider.Collider.{Collider}
use Rattle.records.specs.declared.collider.ColliderParent.{ColliderParent}
use Rattle.records.specs.Lists.{listed}
use Rattle.search.specs.Searches.{least_of}
use Rattle.casts.specs.Pieces.{swept_by, target_kind_of}
use Rattle.casts.specs.Singles.{turns, pieces_of}
use Rattle.pairs.specs.Pairs.{fast, parent_body, tier_allows, of_body, filtered_out, is_pseudo, pair_kind, stands_at}
use Rattle.pair_casts.specs.declared.target.Target.{Target}
use Rattle.pair_casts.specs.FastShapes.{sub_shape, motion_of}
use Rattle.pair_casts.specs.PairCasts.{sub_shape_taken, turning_taken}
use Rattle.sweeps.specs.Sweeps.{sweep_of, swept_box}
use Rattle.sweep_laws.specs.Situations.{Situation}

-- a collider of a swept body, and another one
pub record Pair : Type 0 where
  pub own : ColliderHandle
  pub part : Collider
  pub other : ColliderHandle
  pub target : Collider

-- ---- admission

-- the body of the pair's other collider
abbrev pub other_body : Situation → Pair → Option RigidBody
other_body s x = parent_body s.bodies x.target.parent

-- the box of the other collider at its own pose, loosened by p, meets the box that holds the swept one at both ends of its way
abbrev pub near : Situation → RigidBody → Pose → Pair → Bool
near s b r x =
    meet_of (loosened_by (s.host.aabb x.target.shape x.target.position) s.step.prediction)
    (swept_box s.host x.part.shape (sweep_of s.host b r))

pub record Admitted (s : Situation) (h : RigidBodyHandle) (b : RigidBody) (x : Pair) : Type 0 where
  -- the one is a live, enabled collider of the body, with a shape that is swept
  pub parent : ColliderParent
  pub kind : ShapeKind
  pub listed_there : Has (listed b.colliders) x.own
  pub live : found s.colliders x.own.0 ≡ Some x.part
  pub enabled : x.part.enabled ≡ true
  pub attached : x.part.parent ≡ Some parent
  pub known : s.host.kind x.part.shape ≡ Some kind
  pub swept : swept_by s.host x.part.shape kind ≡ true
  -- the other is live and enabled, and lies in the way
  pub other_live : found s.colliders x.other.0 ≡ Some x.target
  pub other_enabled : x.target.enabled ≡ true
  pub in_the_way : T (near s b parent.relative x)
  -- it is not of the same body, the tier allows it, the collision groups agree, and no filter drops the pair
  pub not_its_own : of_body x.target.parent h ≡ false
  pub tier : tier_allows b (other_body s x) ≡ true
  pub groups : agree x.part.collision x.target.collision ≡ true
  pub not_dropped : filtered_out s.keeps (fast h b x.own x.part) x.other x.target ≡ false

abbrev pub pseudo : Pair → Bool
pseudo x = is_pseudo x.part x.target

-- ---- impacts

abbrev pub target_in : Situation → Pair → Target
target_in s x = record { shape = x.target.shape; pose = stands_at s.host x.target (other_body s x); pair = pair_kind x.part x.target }

-- the impacts of the casts of a pair, by the kinds of both shapes: of each piece, or of one turning cast of the whole
abbrev pub impacts_by : Situation → RigidBody → Pair → Sweep → Option ShapeKind → Option ShapeKind → List (Option Float)
impacts_by s b x w None k = []
impacts_by s b x w (Some a) None = []
impacts_by s b x w (Some a) (Some k) =
    cond (turns a (target_kind_of k))
    (turning_taken s.host s.step (target_in s x) x.part.shape (motion_of w b.linvel b.angvel) one_f ∷ [])
    (map (λ (q : ℕ × Sweep). sub_shape_taken s.host s.step (target_in s x) (target_kind_of k) (sub_shape q.0 q.1) one_f) (pieces_of s.host a x.part.shape w))

abbrev pub impacts_at : Situation → RigidBody → Pair → Option ColliderParent → List (Option Float)
impacts_at s b x None = []
impacts_at s b x (Some p) = impacts_by s b x (sweep_of s.host b p.relative) (s.host.kind x.part.shape) (s.host.kind x.target.shape)

-- the impact of a pair: of a solid one its solid impact, of a pseudo one its pseudo impact, the least of its casts
abbrev pub impact_of : Situation → RigidBody → Pair → Option Float
impact_of s b x = least_of le (impacts_at s b x x.part.parent)

-- an admitted solid pair, and an admitted pseudo pair
abbrev pub SolidPair : Situation → RigidBodyHandle → RigidBody → Pair → Type 0
SolidPair s h b x = Admitted s h b x × (pseudo x ≡ false)

abbrev pub PseudoPair : Situation → RigidBodyHandle → RigidBody → Pair → Type 0
PseudoPair s h b x = Admitted s h b x × (pseudo x ≡ true)
