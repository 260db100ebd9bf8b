-- What a finder holds for a body. Assumes nothing.
use Rattle.std.specs.Prelude.{◌≡◌, ℕ, ◌≤◌, true, length, Some, Float}
use Rattle.geometry.specs.declared.handle.ColliderHandle.{ColliderHandle}
use Rattle.geometry.specs.declared.aabb.Aabb.{Aabb}
use Rattle.finders.specs.Finders.{Held, Meaning, box_of}
use Rattle.finders.specs.FinderLaws.{Lawful}
use Rattle.slots.specs.Store.{found}
use Rattle.records.specs.declared.rigid_body.RigidBody.{RigidBody}
use Rattle.records.specs.declared.collider.Collider.{Collider}
use Rattle.pairs.specs.Pairs.{parent_body, tier_allows}
use Rattle.sweeps.specs.Env.{Env}
use Rattle.sweep_laws.specs.Situations.{Situation, situation}

-- Each enabled live collider that the body's tier allows is held, with its box at its own pose, and nothing but enabled live
-- colliders is.
pub record Serves (s : Situation) (b : RigidBody) (held : Held) : Type 0 where
  pub only : (k : ColliderHandle) (x : Aabb) → box_of held k ≡ Some x
      → (c : Collider) × (found s.colliders k.0 ≡ Some c) × (c.enabled ≡ true) × (x ≡ s.host.aabb c.shape c.position)
  pub all : (k : ColliderHandle) (c : Collider) → found s.colliders k.0 ≡ Some c → c.enabled ≡ true
      → tier_allows b (parent_body s.bodies c.parent) ≡ true → box_of held k ≡ Some (s.host.aabb c.shape c.position)

-- A lawful finder that serves the body, with room for all that it reports.
pub record Found (e : Env) (b : RigidBody) (room : ℕ) : Type 0 where
  pub meaning : Meaning
  pub lawful : Lawful meaning e.listed
  pub serves : Serves (situation e) b meaning.held
  pub roomy : (q : Aabb) (p : Float) → length (e.listed q p) ≤ room
