-- All that a sweep turns on, as values. Assumes nothing.
use Rattle.std.specs.Prelude.{Bool, List}
use Rattle.geometry.specs.declared.handle.ColliderHandle.{ColliderHandle}
use Rattle.hosts.specs.declared.host.Host.{Ghosts as Hosting}
use Rattle.hosts.specs.Hosts.{Answers}
use Rattle.finders.specs.declared.finder.Finder.{Ghosts as Finding}
use Rattle.finders.specs.declared.filter.Filter.{Ghosts as Filtering}
use Rattle.finders.specs.Finders.{Listing}
use Rattle.slots.specs.declared.Slot.{Slot}
use Rattle.records.specs.declared.rigid_body.RigidBody.{RigidBody}
use Rattle.records.specs.declared.collider.Collider.{Collider}
use Rattle.pair_casts.specs.declared.target.Step.{Step}
use Rattle.sweeps.specs.declared.hall.Hall.{Hall}

-- the host's answers, the finder's reports, the filter's word, both stores, and the terms of the step
pub record Env : Type 0 where
  pub host : Answers
  pub listed : Listing
  pub keeps : ColliderHandle → ColliderHandle → Bool
  pub bodies : List (Slot RigidBody)
  pub colliders : List (Slot Collider)
  pub step : Step

abbrev pub env_of : Answers → Listing → (ColliderHandle → ColliderHandle → Bool) → List (Slot RigidBody) → List (Slot Collider) → Step → Env
env_of h l k bs cs s = record { host = h; listed = l; keeps = k; bodies = bs; colliders = cs; step = s }

-- what the references of a hall stand for
abbrev pub hall_of : {H D F : Type 0} → Hosting H → Finding D → Filtering F → Hall H D F → Env
hall_of H D F h = env_of (H.answers h.host.now) (D.listed h.finder.now) (F.keeps h.filter.now) h.bodies.now h.colliders.now h.step
