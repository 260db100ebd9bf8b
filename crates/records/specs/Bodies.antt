-- Questions about bodies. Assumes nothing.
use Rattle.std.specs.Prelude.{Bool, true, false, ◌&&◌}
use Rattle.geometry.specs.declared.rigid_body_type.RigidBodyType.{RigidBodyType}
use Rattle.geometry.specs.declared.rigid_body_type.RigidBodyType.TheVariants.{Dynamic, Fixed, KinematicPositionBased, KinematicVelocityBased}
use Rattle.records.specs.declared.rigid_body.RigidBody.{RigidBody}

abbrev pub is_dynamic : RigidBodyType → Bool
is_dynamic Dynamic = true
is_dynamic Fixed = false
is_dynamic KinematicPositionBased = false
is_dynamic KinematicVelocityBased = false

abbrev pub is_fixed : RigidBodyType → Bool
is_fixed Dynamic = false
is_fixed Fixed = true
is_fixed KinematicPositionBased = false
is_fixed KinematicVelocityBased = false

-- Dynamic, with the switch on
abbrev pub is_bullet : RigidBody → Bool
is_bullet b = is_dynamic b.kind && b.bullet
