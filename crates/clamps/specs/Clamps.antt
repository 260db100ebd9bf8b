-- Stopping bodies on their way. Assumes nothing.
use Rattle.std.specs.Prelude.{ℕ, Bool, cond, List, fold, count_by, Some, None, Option, Float}
use Rattle.std.specs.Float.Ieee.{lt}
use Rattle.numbers.specs.Constants.{one_f}
use Rattle.hosts.specs.declared.questions.Sweep.{Sweep}
use Rattle.hosts.specs.Hosts.{Answers}
use Rattle.slots.specs.declared.Slot.{Slot}
use Rattle.slots.specs.Store.{found, replaced}
use Rattle.records.specs.declared.rigid_body.RigidBody.{RigidBody}
use Rattle.sweeps.specs.declared.hall.BodyContinuousResult.{BodyContinuousResult}

-- the body stops before its next position
abbrev pub below : BodyContinuousResult → Bool
below r = lt r.fraction one_f

-- how many bodies stop
abbrev pub clamp_count : List BodyContinuousResult → ℕ
clamp_count rs = count_by below rs

-- the way of a body from its position to its next position
abbrev pub body_sweep : RigidBody → Sweep
body_sweep b = record { start = b.position; end = b.next; centre = b.centre }

-- its next position is the pose at the fraction; nothing else changes
abbrev pub stopped_at : Answers → RigidBody → Float → RigidBody
stopped_at h b f = record b { next = h.pose_at (body_sweep b) f }

abbrev pub clamped_by : Answers → List (Slot RigidBody) → BodyContinuousResult → Option RigidBody → List (Slot RigidBody)
clamped_by h bs r None = bs
clamped_by h bs r (Some b) = (replaced bs r.handle.0 (stopped_at h b r.fraction)).0

abbrev pub clamped_one : Answers → List (Slot RigidBody) → BodyContinuousResult → List (Slot RigidBody)
clamped_one h bs r = cond (below r) (clamped_by h bs r (found bs r.handle.0)) bs

abbrev pub clamped_all : Answers → List (Slot RigidBody) → List BodyContinuousResult → List (Slot RigidBody)
clamped_all h bs rs = fold (clamped_one h) bs rs
