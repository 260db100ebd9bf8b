-- A host as a value: all that it answers. Assumes nothing.
use Rattle.std.specs.Prelude.{ℕ, Bool, List, Option, Float}
use Rattle.geometry.specs.declared.vector.Vector.{Vector}
use Rattle.geometry.specs.declared.pose.Pose.{Pose}
use Rattle.geometry.specs.declared.aabb.Aabb.{Aabb}
use Rattle.geometry.specs.declared.shape_kind.ShapeKind.{ShapeKind}
use Rattle.outcomes.specs.declared.pair_kind.PairKind.{PairKind}
use Rattle.outcomes.specs.declared.cast_outcome.CastOutcome.{CastOutcome}
use Rattle.outcomes.specs.Outcomes.{Overlap, TurningOutcome}
use Rattle.hosts.specs.declared.questions.Child.{Child}
use Rattle.hosts.specs.declared.questions.Sweep.{Sweep}
use Rattle.hosts.specs.declared.questions.CastQuery.{CastQuery}
use Rattle.hosts.specs.declared.questions.TurningQuery.{TurningQuery}

pub record Answers : Type 0 where
  pub kind : ℕ → Option ShapeKind
  pub children : ℕ → List Child
  pub admits : Pose → Bool
  pub product : Pose → Pose → Pose
  pub inverse_point : Pose → Vector → Vector
  pub relative_pose : Pose → Pose → Pose
  pub aabb : ℕ → Pose → Aabb
  pub pose_at : Sweep → Float → Pose
  pub proxy_cast : CastQuery → Float → CastOutcome
  pub composite_cast : CastQuery → PairKind → Float → Option CastOutcome
  pub turning_cast : TurningQuery → PairKind → TurningOutcome
  pub overlap : Pose → ℕ → ℕ → Overlap
