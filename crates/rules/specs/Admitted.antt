-- Whether the host admits every pose that is stored: as a test, and by name. Assumes nothing.
use Rattle.std.specs.Prelude.{◌≡◌, Bool, true, ◌&&◌, T, List, Some, None, Option}
use Rattle.std.specs.Option.{option_map_or}
use Rattle.geometry.specs.declared.handle.RigidBodyHandle.{RigidBodyHandle}
use Rattle.geometry.specs.declared.handle.ColliderHandle.{ColliderHandle}
use Rattle.geometry.specs.declared.pose.Pose.{Pose}
use Rattle.hosts.specs.Hosts.{Answers}
use Rattle.slots.specs.declared.Slot.{Slot}
use Rattle.slots.specs.Store.{found}
use Rattle.records.specs.declared.rigid_body.RigidBody.{RigidBody}
use Rattle.records.specs.declared.collider.Collider.{Collider}
use Rattle.records.specs.declared.collider.ColliderParent.{ColliderParent}
use Rattle.rules.specs.Scans.{every_record}

-- both poses of a body
abbrev pub admitted_body : Answers → RigidBody → Bool
admitted_body a b = a.admits b.position && a.admits b.next

-- what stands at a relative pose of a body, at both poses of the body
abbrev pub admitted_from : Answers → Pose → RigidBody → Bool
admitted_from a r b = a.admits (a.product b.position r) && a.admits (a.product b.next r)

-- a body that is not live is passed over
abbrev pub admitted_by : Answers → Pose → Option RigidBody → Bool
admitted_by a r b = option_map_or (admitted_from a r) b true

abbrev pub admitted_at : Answers → List (Slot RigidBody) → Pose → Option ColliderParent → Bool
admitted_at a bs own None = a.admits own
admitted_at a bs own (Some p) = admitted_by a p.relative (found bs p.body.0)

abbrev pub admitted_collider : Answers → List (Slot RigidBody) → Collider → Bool
admitted_collider a bs c = admitted_at a bs c.position c.parent

abbrev pub all_admitted : Answers → List (Slot RigidBody) → List (Slot Collider) → Bool
all_admitted a bs cs = every_record (admitted_body a) bs && every_record (admitted_collider a bs) cs

pub record AllAdmitted (a : Answers) (bs : List (Slot RigidBody)) (cs : List (Slot Collider)) : Type 0 where
  -- each live body's two poses
  pub positions : (h : RigidBodyHandle) (b : RigidBody) → found bs h.0 ≡ Some b → T (a.admits b.position)
  pub nexts : (h : RigidBodyHandle) (b : RigidBody) → found bs h.0 ≡ Some b → T (a.admits b.next)
  -- their products with the relative poses of its colliders, disabled ones too
  pub products : (k : ColliderHandle) (c : Collider) (p : ColliderParent) (b : RigidBody) → found cs k.0 ≡ Some c → c.parent ≡ Some p → found bs p.body.0 ≡ Some b → T (a.admits (a.product b.position p.relative))
  pub next_products : (k : ColliderHandle) (c : Collider) (p : ColliderParent) (b : RigidBody) → found cs k.0 ≡ Some c → c.parent ≡ Some p → found bs p.body.0 ≡ Some b → T (a.admits (a.product b.next p.relative))
  -- the own poses of colliders without a body
  pub alone : (k : ColliderHandle) (c : Collider) → found cs k.0 ≡ Some c → c.parent ≡ None → T (a.admits c.position)
