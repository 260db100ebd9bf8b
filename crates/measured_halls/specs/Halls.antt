-- The measured halls: what the end of a step makes of each, and three first impacts. Every half side is 0.5. A marked carton goes from
-- 0 to 8 on the first axis; dt is 1, and the slop and the prediction distance are 0, unless said otherwise. Assumes nothing.
use Rattle.std.specs.Prelude.{◌≡◌, ℕ, ◌*◌, Bool, true, false, cond, List, [], ◌∷◌, length, take, replicate, map, filter_map, Some, None, Ok, Option, Float}
use Rattle.std.specs.List.{AllByRecursion}
use Rattle.numbers.specs.Constants.{zero_f}
use Rattle.geometry.specs.declared.handle.RigidBodyHandle.{RigidBodyHandle}
use Rattle.geometry.specs.declared.pose.Pose.{Pose}
use Rattle.geometry.specs.declared.rigid_body_type.RigidBodyType.TheVariants.{Dynamic}
use Rattle.geometry.specs.declared.interaction_groups.InteractionTestMode.{InteractionTestMode}
use Rattle.geometry.specs.declared.interaction_groups.InteractionTestMode.TheVariants.{And, Or}
use Rattle.geometry.specs.declared.interaction_groups.InteractionGroups.{InteractionGroups}
use Rattle.geometry.specs.Vectors.{vector, origin}
use Rattle.geometry.specs.Poses.{placed}
use Rattle.geometry.specs.Groups.{groups, all_groups}
use Rattle.hosts.specs.Hosts.{Answers}
use Rattle.measured.specs.Halls.{boxes, record_of}
use Rattle.slots.specs.declared.Slot.{Slot}
use Rattle.slots.specs.declared.Slot.TheVariants.{Unused, Free, Retired, Live}
use Rattle.records.specs.declared.rigid_body.RigidBody.{RigidBody}
use Rattle.records.specs.declared.collider.Collider.{Collider}
use Rattle.records.specs.declared.collider.ColliderParent.{ColliderParent}
use Rattle.records.specs.Lists.{empty_list, attached, blank_handle}
use Rattle.finders.specs.declared.entry.Entry.{Entry}
use Rattle.finders.specs.Finders.{Listing, empty, collider_of}
use Rattle.finders.specs.Tables.{upward}
use Rattle.pair_casts.specs.declared.target.Step.{Step}
use Rattle.sweeps.specs.declared.hall.BodyContinuousResult.{BodyContinuousResult}
use Rattle.sweeps.specs.declared.hall.PseudoHit.{PseudoHit}
use Rattle.crossings.specs.declared.event.CollisionEvent.{CollisionEvent}
use Rattle.crossings.specs.declared.event.CollisionEvent.TheVariants.{Started, Stopped}
use Rattle.crossings.specs.Crossings.{no_result}
use Rattle.ccd_solver.specs.declared.solver.Solved.{Solved}
use Rattle.ccd_solver.specs.FixedTargets.{Entering, collected}
use Rattle.ccd_solver.specs.Stages.{Setting, setting, env, result}
use Rattle.ccd_solver.specs.Solver.{Outcome, solution, solved}
use Rattle.ccd_solver.specs.FirstImpact.{first_impact}
use Rattle.measured_halls.specs.Decimals.{least, x0·1875, x0·25, x0·4375, x0·5625, x1, x1·5, x2, x2·5, x3·25, x3·5, x4, x4·5, x7, x8, x9, x10, minus_6}

-- ---- a hall, and what was measured of it

-- the counts of results, clamps and events, the results and the events that are written, and the next positions of the bodies
pub record Answer : Type 0 where
  pub counts : Solved
  pub results : List BodyContinuousResult
  pub events : List CollisionEvent
  pub nexts : List Pose

abbrev answer : Solved → List BodyContinuousResult → List CollisionEvent → List Pose → Answer
answer c r e n = record { counts = c; results = r; events = e; nexts = n }

pub record Hall : Type 0 where
  pub host : Answers
  pub bodies : List (Slot RigidBody)
  pub colliders : List (Slot Collider)
  pub active : List RigidBodyHandle
  pub prediction : Float
  pub expected : Answer

-- ---- what the definitions make of a hall

-- the full finder is a leaf table: each enabled live collider is held in its slot, with the box at its own pose
abbrev boxed : Answers → Slot Collider → Option Entry
boxed h Unused = None
boxed h (Free g n) = None
boxed h Retired = None
boxed h (Live g c) = cond c.enabled (Some (record { generation = g; aabb = h.aabb c.shape c.position })) None

abbrev pub full : Answers → List (Slot Collider) → Listing
full h cs = upward 0 (map (boxed h) cs)

-- the list of the colliders at rest, made anew from a new one, and whether it is whole
abbrev pub fixed : Hall → Entering
fixed h = collected h.host h.bodies h.colliders (empty 1024 512)

abbrev step : Float → Float → Step
step dt p = record { dt = dt; slop = zero_f; prediction = p }

-- the filter keeps all, and there is room for all candidates
abbrev setting_of : Answers → List (Slot Collider) → Step → Setting
setting_of h cs s = setting h (λ a b. true) cs s (length cs)

abbrev blank_hit : PseudoHit
blank_hit = record { result = 0; first = blank_handle; second = blank_handle; fraction = zero_f }

abbrev blank_event : CollisionEvent
blank_event = Started blank_handle blank_handle 0

-- the end of a step, with a finder for the non_bullets; there is room for a result of each active body, a hit of each collider, and two
-- events of each hit
abbrev pub solved_over : Listing → Hall → Outcome
solved_over near h =
    solved (setting_of h.host h.colliders (step x1 h.prediction))
    near (full h.host h.colliders)
    h.active h.bodies
    (replicate (length h.active) no_result)
    (replicate (length h.colliders) blank_hit)
    (replicate (2 * length h.colliders) blank_event)

abbrev next_of : Slot RigidBody → Option Pose
next_of Unused = None
next_of (Free g n) = None
next_of Retired = None
next_of (Live g b) = Some b.next

abbrev pub answer_of : Outcome → Answer
answer_of o = answer o.4 (take o.4.results o.1) (take o.4.events o.3) (filter_map next_of o.0)

-- the list is whole, and with it, as with the full finder in its place, the answer is what was measured
pub record Holds (h : Hall) : Type 0 where
  pub whole : (fixed h).1 ≡ Ok tt
  pub over_list : answer_of (solved_over (upward 0 (fixed h).0.held) h) ≡ h.expected
  pub over_finder : answer_of (solved_over (full h.host h.colliders) h) ≡ h.expected

-- ---- bodies and colliders

abbrev along_x : Float → Pose
along_x v = placed (vector v zero_f zero_f)

abbrev body_in : ℕ → RigidBodyHandle
body_in i = record { 0 = record { slot = i; generation = 0 } }

-- a marked Dynamic body on its way, a bullet or not, with the collider of one slot
abbrev body : Bool → ℕ → Pose → Pose → Slot RigidBody
body bullet k from to = Live 0 (record {
  kind = Dynamic;
  position = from;
  next = to;
  centre = origin;
  linvel = origin;
  angvel = origin;
  bullet = bullet;
  marked = true;
  colliders = (attached empty_list (collider_of k 0)).0;
})

-- an enabled collider of the first shape, with all solver groups and no hook bit
abbrev collider : Option ColliderParent → Pose → Bool → InteractionGroups → ℕ → Slot Collider
collider parent at sensor collision events = Live 0 (record {
  parent = parent;
  position = at;
  shape = 0;
  sensor = sensor;
  enabled = true;
  collision = collision;
  solver = all_groups;
  hooks = 0;
  events = events;
})

-- the collider of a body that stands at a pose
abbrev part_of : ℕ → Pose → InteractionGroups → Slot Collider
part_of i at g = collider (Some (record { body = body_in i; relative = placed origin })) at false g 0

-- walls and sensors have no body
abbrev grouped_wall : InteractionGroups → Float → Slot Collider
grouped_wall g at = collider None (along_x at) false g 0

abbrev wall : Float → Slot Collider
wall at = grouped_wall all_groups at

-- with the event bit of value 1
abbrev sensor : Float → Slot Collider
sensor at = collider None (along_x at) true all_groups 1

-- the carton has slot 0 of both stores
abbrev carton : Slot RigidBody
carton = body false 0 (along_x zero_f) (along_x x8)

abbrev carton_part : InteractionGroups → Slot Collider
carton_part g = part_of 0 (along_x zero_f) g

-- ---- the halls

-- the carton, with its collision groups, among colliders without a body
abbrev hall : Answers → InteractionGroups → List (Slot Collider) → Answer → Hall
hall h g others a = record {
  host = h;
  bodies = carton ∷ [];
  colliders = carton_part g ∷ others;
  active = body_in 0 ∷ [];
  prediction = zero_f;
  expected = a;
}

abbrev among : List (Slot Collider) → Answer → Hall
among others a = hall boxes all_groups others a

-- collision groups with memberships 1, filter 2 and memberships 2, filter 4, and a wall at 4.5
abbrev grouped : InteractionTestMode → InteractionTestMode → Answer → Hall
grouped m n a = hall boxes (groups 1 2 m) (grouped_wall (groups 2 4 n) x4·5 ∷ []) a

-- the carton stops at a fraction and a place; there is no event
abbrev stops : Float → Float → Answer
stops f place = answer (solution 1 1 0) (result (body_in 0) f ∷ []) [] (along_x place ∷ [])

-- the carton goes all the way, with a number of events
abbrev arrives : ℕ → List CollisionEvent → Answer
arrives n es = answer (solution 1 0 n) (result (body_in 0) x1 ∷ []) es (along_x x8 ∷ [])

-- the carton crosses the collider of slot 1; the flags say that a sensor takes part
abbrev crossing : List CollisionEvent
crossing = Started (collider_of 0 0) (collider_of 1 0) 1 ∷ Stopped (collider_of 0 0) (collider_of 1 0) 1 ∷ []

-- a place above or below the carton's way
abbrev aside : Float → Pose
aside y = placed (vector x3·25 y zero_f)

-- a wall at 4.5, prediction distance 4, and a bullet from (3.25, 10, 0) to (3.25, -6, 0): it meets the carton where that was stopped,
-- after 9 of its 16 units
abbrev with_bullet : Hall
with_bullet = record {
  host = boxes;
  bodies = carton ∷ body true 1 (aside x10) (aside minus_6) ∷ [];
  colliders = carton_part all_groups ∷ part_of 1 (aside x10) all_groups ∷ wall x4·5 ∷ [];
  active = body_in 0 ∷ body_in 1 ∷ [];
  prediction = x4;
  expected = answer (solution 2 2 0) (result (body_in 0) x0·4375 ∷ result (body_in 1) x0·5625 ∷ []) [] (along_x x3·5 ∷ aside x1 ∷ []);
}

abbrev pub halls : List Hall
halls =
    among (wall x4·5 ∷ []) (stops x0·4375 x3·5)
    -- a wall that is touched at the start does not stop the carton
    ∷ among (wall x1 ∷ []) (arrives 0 [])
    -- of two walls the nearer counts, in either order
    ∷ among (wall x4·5 ∷ wall x2·5 ∷ []) (stops x0·1875 x1·5)
    ∷ among (wall x2·5 ∷ wall x4·5 ∷ []) (stops x0·1875 x1·5)
    -- a sensor is crossed
    ∷ among (sensor x4·5 ∷ []) (arrives 2 crossing)
    -- but not where the carton stops at it
    ∷ among (sensor x4·5 ∷ wall x4·5 ∷ []) (stops x0·4375 x3·5)
    -- nor where it meets it at the very end
    ∷ among (sensor x9 ∷ []) (arrives 0 [])
    -- the recorded host, with the row Separated 0.25
    ∷ hall record_of all_groups (wall x4·5 ∷ []) (stops x0·25 x2)
    -- the groups agree only if both modes are Or
    ∷ grouped Or Or (stops x0·4375 x3·5)
    ∷ grouped And And (arrives 0 [])
    ∷ grouped And Or (arrives 0 [])
    ∷ grouped Or And (arrives 0 [])
    ∷ with_bullet
    ∷ []

-- ---- the first impact of the carton with a wall, at a dt

abbrev impact_in : List (Slot Collider) → Float → Option Float
impact_in cs dt = first_impact (env (setting_of boxes cs (step dt zero_f)) (full boxes cs) (carton ∷ [])) (length cs) (body_in 0 ∷ [])

abbrev pub impact : Float → Float → Option Float
impact at dt = impact_in (carton_part all_groups ∷ wall at ∷ []) dt

pub record Measured : Type 0 where
  pub all_halls : AllByRecursion Holds halls
  pub at_one : impact x4·5 x1 ≡ Some x0·4375
  -- where no time passes, there is none
  pub at_zero : impact x4·5 zero_f ≡ None
  -- three quarters of the least number are rounded up to it, so the time is what comes before it: plain 0
  pub at_least : impact x7 least ≡ Some zero_f
