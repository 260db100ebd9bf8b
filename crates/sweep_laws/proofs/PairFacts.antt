-- What the theory of a body's sweep needs to know of a pair. Assumes nothing.
use Rattle.std.proofs.Common.{◌≡◌, Bool, true, false, T, Some}
use lib.Ieee.{Float, lt, le}
use Rattle.numbers.specs.Constants.{one_f}
use Rattle.geometry.specs.declared.handle.ColliderHandle.{ColliderHandle}
use Rattle.geometry.specs.declared.pose.Pose.{Pose}
use Rattle.geometry.specs.declared.shape_kind.ShapeKind.{ShapeKind}
use Rattle.records.specs.declared.rigid_body.RigidBody.{RigidBody}
use Rattle.records.specs.declared.collider.Collider.{Collider}
use Rattle.records.specs.declared.collider.ColliderParent.{ColliderParent}
use Rattle.search.specs.Searches.{accepted}
use Rattle.casts.specs.Pieces.{swept_by}
use Rattle.pairs.specs.Pairs.{Fast, parent_body}
use Rattle.pair_casts.specs.declared.fast_shape.FastShape.{FastShape}
use Rattle.pair_casts.specs.PairCasts.{pair_taken}
use Rattle.sweeps.specs.Env.{Env}
use Rattle.sweeps.specs.Sweeps.{target_of, shape_of}
use Rattle.sweep_laws.specs.Fractions.{is_fraction}
use Rattle.sweep_laws.specs.Situations.{situation}
use Rattle.sweep_laws.specs.Pairs.{Pair, pseudo, impact_of}
use Rattle.sweep_laws.specs.SweepLaws.{pair_of}

-- a pseudo pair accepts what is at most the cap, a solid one what lies below it
abbrev pub test_for : Bool → Float → Float → Bool
test_for true = le
test_for false = lt

pub record PairFacts (e : Env) : Type 0 where
  -- what a pair takes at a cap is what is left of its impact
  pub capped : (f : Fast) (p : ColliderParent) (q : FastShape) (k : ColliderHandle) (c : Collider)
      → f.collider.parent ≡ Some p → shape_of e f p.relative ≡ Some q → (x : Float) → T (is_fraction x)
      → pair_taken e.host e.step (target_of e.host f c (parent_body e.bodies c.parent)) q x
      ≡ accepted (test_for (pseudo (pair_of f k c))) (impact_of (situation e) f.body (pair_of f k c)) x
  -- an impact is a fraction, and that of a solid pair lies below 1
  pub marks : (b : RigidBody) (x : Pair) (m : Float) → impact_of (situation e) b x ≡ Some m → T (is_fraction m)
  pub below_one : (b : RigidBody) (x : Pair) (m : Float) → pseudo x ≡ false → impact_of (situation e) b x ≡ Some m → T (lt m one_f)
  -- a shape is swept exactly if its kind says so
  pub swept : (f : Fast) (r : Pose) (a : ShapeKind) → e.host.kind f.collider.shape ≡ Some a → swept_by e.host f.collider.shape a ≡ true
      → (q : FastShape) × (shape_of e f r ≡ Some q)
  pub known : (f : Fast) (r : Pose) (q : FastShape) → shape_of e f r ≡ Some q
      → (a : ShapeKind) × (e.host.kind f.collider.shape ≡ Some a) × (swept_by e.host f.collider.shape a ≡ true)
