-- What is there while a body is swept, whatever the finder. Assumes nothing.
use Rattle.std.specs.Prelude.{Bool, T, List}
use Rattle.std.specs.Float.Ieee.{le}
use Rattle.std.specs.Float.Ieee.Scale.{finite}
use Rattle.numbers.specs.Constants.{zero_f}
use Rattle.geometry.specs.declared.handle.ColliderHandle.{ColliderHandle}
use Rattle.hosts.specs.Hosts.{Answers}
use Rattle.slots.specs.declared.Slot.{Slot}
use Rattle.records.specs.declared.rigid_body.RigidBody.{RigidBody}
use Rattle.records.specs.declared.collider.Collider.{Collider}
use Rattle.pair_casts.specs.declared.target.Step.{Step}
use Rattle.sweeps.specs.Env.{Env}

-- the host's answers, the filter's word, both stores, and the terms of the step
pub record Situation : Type 0 where
  pub host : Answers
  pub keeps : ColliderHandle → ColliderHandle → Bool
  pub bodies : List (Slot RigidBody)
  pub colliders : List (Slot Collider)
  pub step : Step

abbrev pub situation : Env → Situation
situation e = record { host = e.host; keeps = e.keeps; bodies = e.bodies; colliders = e.colliders; step = e.step }

-- the step lasts a finite time that is not below 0
abbrev pub Lasts : Step → Type 0
Lasts s = T (finite s.dt) × T (le zero_f s.dt)
