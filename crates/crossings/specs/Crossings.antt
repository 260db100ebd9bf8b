-- Which hits are crossings, and their events. Assumes nothing.
use Rattle.std.specs.Prelude.{ℕ, Bool, false, cond, not, ◌&&◌, ◌||◌, List, fold, Some, None, Option, slice_index_or, Float}
use Rattle.std.specs.Float.Ieee.{lt}
use Rattle.numbers.specs.Constants.{zero_f}
use Rattle.geometry.specs.declared.pose.Pose.{Pose}
use Rattle.outcomes.specs.Outcomes.{is_yes}
use Rattle.spaces.specs.Spaces.{Written, has_room, with}
use Rattle.hosts.specs.Hosts.{Answers}
use Rattle.slots.specs.declared.Slot.{Slot}
use Rattle.slots.specs.Store.{found}
use Rattle.records.specs.declared.rigid_body.RigidBody.{RigidBody}
use Rattle.records.specs.declared.collider.Collider.{Collider}
use Rattle.records.specs.Colliders.{has_bit}
use Rattle.pairs.specs.Pairs.{parent_body, stands_at}
use Rattle.sweeps.specs.declared.hall.BodyContinuousResult.{BodyContinuousResult}
use Rattle.sweeps.specs.declared.hall.PseudoHit.{PseudoHit}
use Rattle.crossings.specs.declared.event.CollisionEvent.{CollisionEvent}
use Rattle.crossings.specs.declared.event.CollisionEvent.TheVariants.{Started, Stopped}

-- ---- events: 0 Started, 1 Stopped, each with two colliders and the flags, of which 1 says that a sensor takes part

abbrev pub event_number : CollisionEvent → ℕ
event_number (Started a b f) = 0
event_number (Stopped a b f) = 1

abbrev pub started : PseudoHit → CollisionEvent
started x = Started x.first x.second 1

abbrev pub stopped : PseudoHit → CollisionEvent
stopped x = Stopped x.first x.second 1

-- ---- crossings

-- whether two shapes overlap at two poses; what the host cannot tell is not yes
abbrev pub overlaps_at : Answers → Collider → Pose → Collider → Pose → Bool
overlaps_at h a p b q = is_yes (h.overlap (h.relative_pose p q) a.shape b.shape)

-- where a collider stands at the end of the step
abbrev pub end_pose : Answers → List (Slot RigidBody) → Collider → Pose
end_pose h bs c = stands_at h c (parent_body bs c.parent)

-- one is a sensor, one has the event bit, and they overlap neither before nor after
abbrev pub passes : Answers → List (Slot RigidBody) → Collider → Collider → Bool
passes h bs a b =
    (a.sensor || b.sensor)
    && ((has_bit a.events || has_bit b.events)
    && (not (overlaps_at h a a.position b b.position) && not (overlaps_at h a (end_pose h bs a) b (end_pose h bs b))))

abbrev pub passes_in : Answers → List (Slot RigidBody) → Option Collider → Option Collider → Bool
passes_in h bs None b = false
passes_in h bs (Some a) None = false
passes_in h bs (Some a) (Some b) = passes h bs a b

-- the fraction of a result; 0 where there is none, before which nothing is crossed
abbrev pub no_result : BodyContinuousResult
no_result = record { handle = record { 0 = record { slot = 0; generation = 0 } }; fraction = zero_f }

abbrev pub fraction_at : List BodyContinuousResult → ℕ → Float
fraction_at rs n = (slice_index_or rs n no_result).fraction

-- a hit before the body's fraction, of two that pass each other
abbrev pub crosses : Answers → List (Slot RigidBody) → List (Slot Collider) → Float → PseudoHit → Bool
crosses h bs cs f x = lt x.fraction f && passes_in h bs (found cs x.first.0) (found cs x.second.0)

-- ---- what is written

-- the two events of a crossing, where there is room for both
abbrev pub written : Written CollisionEvent → PseudoHit → Written CollisionEvent
written s x = cond (has_room s 2) (with (with s (started x)) (stopped x)) s

abbrev pub emitted_one : Answers → List (Slot RigidBody) → List (Slot Collider) → List BodyContinuousResult → Written CollisionEvent → PseudoHit → Written CollisionEvent
emitted_one h bs cs rs s x = cond (crosses h bs cs (fraction_at rs x.result) x) (written s x) s

-- the hits, one after the other
abbrev pub emitted : Answers → List (Slot RigidBody) → List (Slot Collider) → List BodyContinuousResult → Written CollisionEvent → List PseudoHit → Written CollisionEvent
emitted h bs cs rs s xs = fold (emitted_one h bs cs rs) s xs
