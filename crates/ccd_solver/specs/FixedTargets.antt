-- The list of the enabled colliders at rest. Assumes nothing.
use Rattle.std.specs.Prelude.{Bool, cond, ◌&&◌, List, [], ◌∷◌, length, Ok, Err, Result, nat_le}
use Rattle.geometry.specs.declared.handle.Handle.{Handle}
use Rattle.geometry.specs.declared.handle.ColliderHandle.{ColliderHandle}
use Rattle.hosts.specs.Hosts.{Answers}
use Rattle.finders.specs.declared.finder_fault.FinderFault.{FinderFault}
use Rattle.finders.specs.declared.finder_fault.FinderFault.TheVariants.{PastTheLastSlot}
use Rattle.finders.specs.Finders.{Meaning, cleared, set_in}
use Rattle.slots.specs.declared.Slot.{Slot}
use Rattle.slots.specs.Records.{records_in}
use Rattle.records.specs.declared.rigid_body.RigidBody.{RigidBody}
use Rattle.records.specs.declared.collider.Collider.{Collider}
use Rattle.records.specs.Colliders.{at_rest}
use Rattle.pairs.specs.Pairs.{parent_body}

-- what the list holds, and whether it refused one
abbrev pub Entering : Type 0
Entering = Meaning × Result Unit FinderFault

-- enabled, and without a body or with a Fixed one
abbrev pub is_target : List (Slot RigidBody) → Collider → Bool
is_target bs c = c.enabled && at_rest (parent_body bs c.parent)

-- the box at its own pose, if the collider belongs into the list
abbrev pub entered : Answers → List (Slot RigidBody) → Meaning → ColliderHandle → Collider → Entering
entered h bs m k c = cond (is_target bs c) (set_in m k (h.aabb c.shape c.position)) (m, Ok tt)

-- what comes next, unless one was refused
abbrev pub and_next : Entering → (Meaning → Entering) → Entering
and_next (m, Ok u) next = next m
and_next (m, Err e) next = (m, Err e)

-- the colliders, up to the first that is refused
abbrev pub each_entered : Answers → List (Slot RigidBody) → Meaning → List (Handle × Collider) → Entering
each_entered h bs m [] = (m, Ok tt)
each_entered h bs m (r ∷ rs) = and_next (entered h bs m (record { 0 = r.0 }) r.1) (λ n. each_entered h bs n rs)

-- those of a store, if it has no more slots than a bench has
abbrev pub all_entered : Answers → List (Slot RigidBody) → List (Slot Collider) → Meaning → Entering
all_entered h bs cs m = cond (nat_le (length cs) 1024) (each_entered h bs m (records_in cs)) (m, Err PastTheLastSlot)

-- the list made anew
abbrev pub collected : Answers → List (Slot RigidBody) → List (Slot Collider) → Meaning → Entering
collected h bs cs m = all_entered h bs cs (cleared m)
