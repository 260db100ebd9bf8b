-- What clamping does to the bodies. Assumes nothing.
use Rattle.std.specs.Prelude.{◌≡◌, T, List, [], ◌∷◌, length, Some, ◌≢◌}
use Rattle.std.specs.List.{ContainsAt as Has}
use Rattle.geometry.specs.declared.handle.RigidBodyHandle.{RigidBodyHandle}
use Rattle.geometry.specs.declared.handle.ColliderHandle.{ColliderHandle}
use Rattle.hosts.specs.Hosts.{Answers}
use Rattle.hosts.specs.HostLaws.{Lawful, Inner}
use Rattle.slots.specs.declared.Header.{Header}
use Rattle.slots.specs.declared.Slot.{Slot}
use Rattle.slots.specs.Store.{state, found}
use Rattle.slots.specs.Rules.{Valid}
use Rattle.records.specs.declared.rigid_body.RigidBody.{RigidBody}
use Rattle.records.specs.declared.collider.Collider.{Collider}
use Rattle.rules.specs.Holds.{BodyHolds, ColliderHolds}
use Rattle.rules.specs.Admitted.{AllAdmitted}
use Rattle.sweeps.specs.declared.hall.BodyContinuousResult.{BodyContinuousResult}
use Rattle.clamps.specs.Clamps.{below, stopped_at, clamped_all}

-- no two results are of one body
abbrev pub Apart : List BodyContinuousResult → Type 0
Apart [] = Unit {0}
Apart (r ∷ rs) = ((x : BodyContinuousResult) → Has rs x → x.handle ≢ r.handle) × Apart rs

-- Exactly the bodies with a result below 1 are stopped, each at the pose of its fraction, and nothing else of any record changes.
pub record Clamped (h : Answers) (bs : List (Slot RigidBody)) (rs : List BodyContinuousResult) (after : List (Slot RigidBody)) : Type 0 where
  pub stopped : (r : BodyContinuousResult) (b : RigidBody) → Has rs r → T (below r) → found bs r.handle.0 ≡ Some b → found after r.handle.0 ≡ Some (stopped_at h b r.fraction)
  pub others : (k : RigidBodyHandle) → ((r : BodyContinuousResult) → Has rs r → r.handle ≡ k → T (below r) → ⊥) → found after k.0 ≡ found bs k.0
  -- the slots are as many as before, and in order if they were
  pub slots : length after ≡ length bs
  pub in_order : (d : Header) → Valid (state d bs) → Valid (state d after)

abbrev pub ClampsAreExact : Type 0
ClampsAreExact = (h : Answers) (bs : List (Slot RigidBody)) (rs : List BodyContinuousResult) → Apart rs → Clamped h bs rs (clamped_all h bs rs)

-- The rules on each live body and collider hold, and every stored pose is admitted.
pub record Standing (a : Answers) (bs : List (Slot RigidBody)) (cs : List (Slot Collider)) : Type 0 where
  pub bodies_hold : (h : RigidBodyHandle) (b : RigidBody) → found bs h.0 ≡ Some b → BodyHolds cs h b
  pub colliders_hold : (k : ColliderHandle) (c : Collider) → found cs k.0 ≡ Some c → ColliderHolds a bs k c
  pub admitted : AllAdmitted a bs cs

-- Clamped poses stay in range and admitted, in products too, so that the rules go on holding.
abbrev pub ClampsKeepTheRules : Type 0
ClampsKeepTheRules =
    (a : Answers) (bs : List (Slot RigidBody)) (cs : List (Slot Collider)) (rs : List BodyContinuousResult)
    → Lawful a → ((r : BodyContinuousResult) → Has rs r → T (below r) → Inner r.fraction)
    → Standing a bs cs → Standing a (clamped_all a bs rs) cs
