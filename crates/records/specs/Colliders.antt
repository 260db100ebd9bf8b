-- Questions about colliders. Assumes nothing.
use Rattle.std.specs.Prelude.{ℕ, Bool, true, not, Some, None, Ok, Err, Option, Result, ◌==◌, bit_and}
use Rattle.std.specs.Option.{option_map}
use Rattle.geometry.specs.declared.handle.Handle.{Handle}
use Rattle.geometry.specs.declared.handle.RigidBodyHandle.{RigidBodyHandle}
use Rattle.geometry.specs.declared.handle.ColliderHandle.{ColliderHandle}
use Rattle.slots.specs.declared.fault.Fault.{Fault as StoreFault}
use Rattle.slots.specs.Store.{State, next_handle}
use Rattle.records.specs.declared.fault.Fault.{Fault}
use Rattle.records.specs.declared.rigid_body.RigidBody.{RigidBody}
use Rattle.records.specs.declared.collider.Collider.{Collider}
use Rattle.records.specs.declared.collider.ColliderParent.{ColliderParent}
use Rattle.records.specs.Faults.{raised}
use Rattle.records.specs.Lists.{collider_handle}
use Rattle.records.specs.Bodies.{is_fixed}

-- the bit of value 1
abbrev pub has_bit : ℕ → Bool
has_bit n = not (bit_and n 1 == 0)

-- the body that a collider is attached to
abbrev pub body_of : Option ColliderParent → Option RigidBodyHandle
body_of p = option_map (λ x. x.body) p

-- no body, or a Fixed one
abbrev pub at_rest : Option RigidBody → Bool
at_rest None = true
at_rest (Some b) = is_fixed b.kind

abbrev pub next_from : Result Handle StoreFault → Result ColliderHandle Fault
next_from (Ok h) = Ok (collider_handle h)
next_from (Err f) = Err (raised f)

-- the handle that the next collider gets, or the store's refusal
abbrev pub next_collider : State Collider → Result ColliderHandle Fault
next_collider st = next_from (next_handle st)
