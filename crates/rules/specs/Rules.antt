-- The rules on slots, bodies and colliders, as tests. Assumes nothing.
use Rattle.std.specs.Prelude.{Bool, true, false, not, ◌&&◌, ◌||◌, List, [], ◌∷◌, length, is_some, Some, None, Option, nat_le}
use Rattle.std.specs.List.{list_all}
use Rattle.std.specs.Option.{option_map_or}
use Rattle.numbers.specs.Constants.{million}
use Rattle.geometry.specs.declared.handle.Handle.{Handle}
use Rattle.geometry.specs.declared.handle.RigidBodyHandle.{RigidBodyHandle}
use Rattle.geometry.specs.declared.handle.ColliderHandle.{ColliderHandle}
use Rattle.geometry.specs.declared.pose.Pose.{Pose}
use Rattle.geometry.specs.Handles.{same}
use Rattle.geometry.specs.Vectors.{ranged_vector}
use Rattle.geometry.specs.Poses.{ranged_pose}
use Rattle.hosts.specs.Hosts.{Answers}
use Rattle.slots.specs.declared.Slot.{Slot}
use Rattle.slots.specs.Store.{State, found}
use Rattle.slots.specs.Rules.{orderly}
use Rattle.records.specs.declared.rigid_body.RigidBody.{RigidBody}
use Rattle.records.specs.declared.collider_list.ColliderList.{ColliderList}
use Rattle.records.specs.declared.collider.Collider.{Collider}
use Rattle.records.specs.declared.collider.ColliderParent.{ColliderParent}
use Rattle.records.specs.Bodies.{is_dynamic}
use Rattle.records.specs.Lists.{collider_handle, counted, listed, listed_in}
use Rattle.records.specs.Equality.{same_pose}
use Rattle.rules.specs.Scans.{every_live}

-- ---- bodies

abbrev pub body_handle : Handle → RigidBodyHandle
body_handle h = record { 0 = h }

-- each number of a body is in range
abbrev pub ranged_body : RigidBody → Bool
ranged_body b =
    ranged_pose million b.position
    && (ranged_pose million b.next
    && (ranged_vector million b.centre && (ranged_vector million b.linvel && ranged_vector million b.angvel)))

-- a mark is only on a Dynamic body
abbrev pub markable : RigidBody → Bool
markable b = not b.marked || is_dynamic b.kind

-- no handle stands twice
abbrev pub distinct : List ColliderHandle → Bool
distinct [] = true
distinct (h ∷ hs) = not (listed_in h hs) && distinct hs

abbrev pub named_by : RigidBodyHandle → Option ColliderParent → Bool
named_by h None = false
named_by h (Some p) = same p.body.0 h.0

abbrev pub owned_by : RigidBodyHandle → Option Collider → Bool
owned_by h None = false
owned_by h (Some c) = named_by h c.parent

-- a collider is live and names the body
abbrev pub owns : List (Slot Collider) → RigidBodyHandle → ColliderHandle → Bool
owns cs h k = owned_by h (found cs k.0)

abbrev pub owns_all : List (Slot Collider) → RigidBodyHandle → List ColliderHandle → Bool
owns_all cs h ks = list_all (owns cs h) ks

-- a list is short, without repetition, and of colliders that name the body
abbrev pub list_holds : List (Slot Collider) → RigidBodyHandle → ColliderList → Bool
list_holds cs h l = counted l && (distinct (listed l) && owns_all cs h (listed l))

abbrev pub body_holds : List (Slot Collider) → RigidBodyHandle → RigidBody → Bool
body_holds cs h b = ranged_body b && (markable b && list_holds cs h b.colliders)

abbrev pub body_rule : List (Slot Collider) → Handle → RigidBody → Bool
body_rule cs h b = body_holds cs (body_handle h) b

-- ---- colliders

-- the body lists the collider, whose own pose is the body's position × the relative pose
abbrev pub stands_right : Answers → ColliderHandle → Pose → Pose → RigidBody → Bool
stands_right a k own r b = listed_in k (listed b.colliders) && same_pose own (a.product b.position r)

abbrev pub carried_by : Answers → ColliderHandle → Pose → Pose → Option RigidBody → Bool
carried_by a k own r b = option_map_or (stands_right a k own r) b false

-- the body of a collider that has one is live and carries it
abbrev pub parent_holds : Answers → List (Slot RigidBody) → ColliderHandle → Pose → Option ColliderParent → Bool
parent_holds a bs k own None = true
parent_holds a bs k own (Some p) = ranged_pose million p.relative && carried_by a k own p.relative (found bs p.body.0)

abbrev pub collider_holds : Answers → List (Slot RigidBody) → ColliderHandle → Collider → Bool
collider_holds a bs k c = is_some (a.kind c.shape) && parent_holds a bs k c.position c.parent

abbrev pub collider_rule : Answers → List (Slot RigidBody) → Handle → Collider → Bool
collider_rule a bs h c = collider_holds a bs (collider_handle h) c

-- ---- both stores

abbrev pub stores_hold : Answers → State RigidBody → State Collider → Bool
stores_hold a bs cs =
    nat_le (length bs.slots) 256
    && (nat_le (length cs.slots) 1024
    && (orderly bs && (orderly cs && (every_live (body_rule cs.slots) bs.slots && every_live (collider_rule a bs.slots) cs.slots))))
