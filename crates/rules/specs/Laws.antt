-- What follows where the rules hold. Assumes nothing.
use Rattle.std.specs.Prelude.{◌≡◌, ◌≤◌, T, List, length, Some}
use Rattle.std.specs.List.{ContainsAt as Has}
use Rattle.geometry.specs.declared.handle.RigidBodyHandle.{RigidBodyHandle}
use Rattle.geometry.specs.declared.handle.ColliderHandle.{ColliderHandle}
use Rattle.hosts.specs.Hosts.{Answers}
use Rattle.slots.specs.declared.Slot.{Slot}
use Rattle.slots.specs.Store.{State, found, emptied}
use Rattle.records.specs.declared.rigid_body.RigidBody.{RigidBody}
use Rattle.records.specs.declared.collider.Collider.{Collider}
use Rattle.records.specs.Lists.{listed}
use Rattle.rules.specs.Holds.{Names, StoresHold}
use Rattle.rules.specs.Admitted.{AllAdmitted}

-- a body's list has exactly the live colliders that name the body
pub record ListIsExact (cs : State Collider) (h : RigidBodyHandle) (b : RigidBody) : Type 0 where
  pub live : (k : ColliderHandle) → Has (listed b.colliders) k → Names cs.slots k h
  pub whole : (k : ColliderHandle) → Names cs.slots k h → Has (listed b.colliders) k

abbrev pub ListsAreExact : Type 0
ListsAreExact =
    (a : Answers) (bs : State RigidBody) (cs : State Collider) → StoresHold a bs cs
    → (h : RigidBodyHandle) (b : RigidBody) → found bs.slots h.0 ≡ Some b → ListIsExact cs h b

-- The rules hold of stores that were just opened, within the limits, whatever the slots held, and every pose is admitted.
pub record OpenedHold (a : Answers) (bs : List (Slot RigidBody)) (cs : List (Slot Collider)) : Type 0 where
  pub rules : length bs ≤ 256 → length cs ≤ 1024 → StoresHold a (emptied bs) (emptied cs)
  pub poses : AllAdmitted a (emptied bs).slots (emptied cs).slots

abbrev pub EmptyStoresHold : Type 0
EmptyStoresHold = (a : Answers) (bs : List (Slot RigidBody)) (cs : List (Slot Collider)) → OpenedHold a bs cs

-- Where the rules hold and every pose is admitted, so is the own pose of each live collider.
abbrev pub OwnPosesAdmitted : Type 0
OwnPosesAdmitted =
    (a : Answers) (bs : State RigidBody) (cs : State Collider) → StoresHold a bs cs → AllAdmitted a bs.slots cs.slots
    → (k : ColliderHandle) (c : Collider) → found cs.slots k.0 ≡ Some c → T (a.admits c.position)
