-- Which pairs of colliders are admitted, whether a pair is solid or pseudo, and where a target stands. Assumes nothing.
use Rattle.std.specs.Prelude.{Bool, true, false, cond, not, ◌&&◌, ◌||◌, List, Some, None, Option}
use Rattle.geometry.specs.declared.handle.RigidBodyHandle.{RigidBodyHandle}
use Rattle.geometry.specs.declared.handle.ColliderHandle.{ColliderHandle}
use Rattle.geometry.specs.declared.pose.Pose.{Pose}
use Rattle.geometry.specs.Handles.{same}
use Rattle.geometry.specs.Groups.{agree}
use Rattle.outcomes.specs.declared.pair_kind.PairKind.{PairKind}
use Rattle.outcomes.specs.declared.pair_kind.PairKind.TheVariants.{Solid, Pseudo}
use Rattle.hosts.specs.Hosts.{Answers}
use Rattle.slots.specs.declared.Slot.{Slot}
use Rattle.slots.specs.Store.{found}
use Rattle.records.specs.declared.rigid_body.RigidBody.{RigidBody}
use Rattle.records.specs.declared.collider.Collider.{Collider}
use Rattle.records.specs.declared.collider.ColliderParent.{ColliderParent}
use Rattle.records.specs.Bodies.{is_bullet}
use Rattle.records.specs.Colliders.{has_bit, at_rest}
use Rattle.pairs.specs.declared.fast_collider.FastCollider.{FastCollider}

-- a collider that is swept, with its body
pub record Fast : Type 0 where
  pub owner : RigidBodyHandle
  pub body : RigidBody
  pub handle : ColliderHandle
  pub collider : Collider

abbrev pub fast : RigidBodyHandle → RigidBody → ColliderHandle → Collider → Fast
fast o b h c = record { owner = o; body = b; handle = h; collider = c }

-- what the references stand for
abbrev pub fast_of : FastCollider → Fast
fast_of f = fast f.owner f.body.now f.handle f.collider.now

-- the live body of a collider
abbrev pub parent_body : List (Slot RigidBody) → Option ColliderParent → Option RigidBody
parent_body bs None = None
parent_body bs (Some p) = found bs p.body.0

abbrev pub no_bullet : Option RigidBody → Bool
no_bullet None = true
no_bullet (Some b) = not (is_bullet b)

-- a bullet meets everything but colliders of bullets, any other body only colliders at rest
abbrev pub tier_allows : RigidBody → Option RigidBody → Bool
tier_allows b other = cond (is_bullet b) (no_bullet other) (at_rest other)

abbrev pub of_body : Option ColliderParent → RigidBodyHandle → Bool
of_body None h = false
of_body (Some p) h = same p.body.0 h.0

-- the filter is asked only if the hook bit of value 1 is on in either
abbrev pub filtered_out : (ColliderHandle → ColliderHandle → Bool) → Fast → ColliderHandle → Collider → Bool
filtered_out keeps f k c = (has_bit f.collider.hooks || has_bit c.hooks) && not (keeps f.handle k)

-- not of the same body, allowed by the tier, with collision groups that agree, and not dropped by the filter
abbrev pub admits : (ColliderHandle → ColliderHandle → Bool) → Fast → ColliderHandle → Collider → Option RigidBody → Bool
admits keeps f k c other =
    not (of_body c.parent f.owner)
    && (tier_allows f.body other && (agree f.collider.collision c.collision && not (filtered_out keeps f k c)))

-- pseudo if either is a sensor or the solver groups disagree
abbrev pub is_pseudo : Collider → Collider → Bool
is_pseudo a b = a.sensor || (b.sensor || not (agree a.solver b.solver))

abbrev pub pair_kind : Collider → Collider → PairKind
pair_kind a b = cond (is_pseudo a b) Pseudo Solid

abbrev pub stands_by : Answers → Pose → Option ColliderParent → Option RigidBody → Pose
stands_by h own None b = own
stands_by h own (Some p) None = own
stands_by h own (Some p) (Some b) = h.product b.next p.relative

-- at its body's next position × its relative pose, and without a body at its own pose
abbrev pub stands_at : Answers → Collider → Option RigidBody → Pose
stands_at h c b = stands_by h c.position c.parent b
