-- The rules on slots, bodies and colliders, by name. Assumes nothing.
use Rattle.std.specs.Prelude.{◌≡◌, ℕ, ◌<◌, ◌≤◌, true, T, List, length, is_some, Some, ◌≢◌, slice_index_or}
use Rattle.std.specs.List.{ContainsAt as Has}
use Rattle.numbers.specs.Constants.{million}
use Rattle.geometry.specs.declared.handle.RigidBodyHandle.{RigidBodyHandle}
use Rattle.geometry.specs.declared.handle.ColliderHandle.{ColliderHandle}
use Rattle.geometry.specs.declared.rigid_body_type.RigidBodyType.TheVariants.{Dynamic}
use Rattle.geometry.specs.Vectors.{ranged_vector}
use Rattle.geometry.specs.Poses.{InRange}
use Rattle.hosts.specs.Hosts.{Answers}
use Rattle.slots.specs.declared.Slot.{Slot}
use Rattle.slots.specs.Store.{State, found}
use Rattle.slots.specs.Rules.{Valid}
use Rattle.records.specs.declared.rigid_body.RigidBody.{RigidBody}
use Rattle.records.specs.declared.collider.Collider.{Collider}
use Rattle.records.specs.declared.collider.ColliderParent.{ColliderParent}
use Rattle.records.specs.Lists.{listed}

-- no handle stands at two places
abbrev pub Distinct : List ColliderHandle → Type 0
Distinct ks = (i j : ℕ) (d : ColliderHandle) → i < j → j < length ks → slice_index_or ks i d ≢ slice_index_or ks j d

-- a collider is live and names the body
pub record Names (cs : List (Slot Collider)) (k : ColliderHandle) (h : RigidBodyHandle) : Type 0 where
  pub collider : Collider
  pub live : found cs k.0 ≡ Some collider
  pub parent : ColliderParent
  pub has : collider.parent ≡ Some parent
  pub named : parent.body ≡ h

pub record BodyHolds (cs : List (Slot Collider)) (h : RigidBodyHandle) (b : RigidBody) : Type 0 where
  -- every number is in range
  pub position : InRange b.position
  pub next : InRange b.next
  pub centre : T (ranged_vector million b.centre)
  pub linvel : T (ranged_vector million b.linvel)
  pub angvel : T (ranged_vector million b.angvel)
  -- a mark is only on a Dynamic body
  pub marked : b.marked ≡ true → b.kind ≡ Dynamic
  -- the list has at most 8 handles, none twice; its table has 8 entries, as each table of a program has
  pub table : length b.colliders.handles ≡ 8
  pub few : b.colliders.count ≤ 8
  pub once : Distinct (listed b.colliders)
  -- every listed collider is live and names the body
  pub owned : (k : ColliderHandle) → Has (listed b.colliders) k → Names cs k h

-- what holds of a collider with a body
pub record ParentHolds (a : Answers) (bs : List (Slot RigidBody)) (k : ColliderHandle) (c : Collider) (p : ColliderParent) : Type 0 where
  -- the relative pose is in range
  pub relative : InRange p.relative
  -- it stands in the list of a live body
  pub body : RigidBody
  pub live : found bs p.body.0 ≡ Some body
  pub stands : Has (listed body.colliders) k
  -- the own pose equals position × relative pose
  pub own : c.position ≡ a.product body.position p.relative

pub record ColliderHolds (a : Answers) (bs : List (Slot RigidBody)) (k : ColliderHandle) (c : Collider) : Type 0 where
  -- the shape is known to the host
  pub known : is_some (a.kind c.shape) ≡ true
  pub attached : (p : ColliderParent) → c.parent ≡ Some p → ParentHolds a bs k c p

pub record StoresHold (a : Answers) (bs : State RigidBody) (cs : State Collider) : Type 0 where
  -- at most 256 body slots and 1,024 collider slots
  pub few_bodies : length bs.slots ≤ 256
  pub few_colliders : length cs.slots ≤ 1024
  -- both stores are in order
  pub bodies_in_order : Valid bs
  pub colliders_in_order : Valid cs
  -- the rules on each live body and each live collider
  pub bodies_hold : (h : RigidBodyHandle) (b : RigidBody) → found bs.slots h.0 ≡ Some b → BodyHolds cs.slots h b
  pub colliders_hold : (k : ColliderHandle) (c : Collider) → found cs.slots k.0 ≡ Some c → ColliderHolds a bs.slots k c
