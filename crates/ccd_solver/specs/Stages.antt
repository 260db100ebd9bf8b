-- One stage of a step: sweeps, then clamps. Assumes nothing.
use Rattle.std.specs.Prelude.{ℕ, ◌≤◌, Bool, cond, not, ◌&&◌, List, take, drop, fold, Some, None, Option, Float}
use Rattle.numbers.specs.Constants.{one_f}
use Rattle.geometry.specs.declared.handle.RigidBodyHandle.{RigidBodyHandle}
use Rattle.geometry.specs.declared.handle.ColliderHandle.{ColliderHandle}
use Rattle.hosts.specs.Hosts.{Answers}
use Rattle.finders.specs.Finders.{Listing}
use Rattle.spaces.specs.declared.Space.{Space}
use Rattle.spaces.specs.Spaces.{Written, with, has_room, SameSpace}
use Rattle.slots.specs.declared.Slot.{Slot}
use Rattle.slots.specs.Store.{found}
use Rattle.records.specs.declared.rigid_body.RigidBody.{RigidBody}
use Rattle.records.specs.declared.collider.Collider.{Collider}
use Rattle.records.specs.Bodies.{is_bullet}
use Rattle.records.specs.Lists.{listed}
use Rattle.pair_casts.specs.declared.target.Step.{Step}
use Rattle.sweeps.specs.declared.hall.BodyContinuousResult.{BodyContinuousResult}
use Rattle.sweeps.specs.declared.hall.PseudoHit.{PseudoHit}
use Rattle.sweeps.specs.declared.hall.PseudoHitMode.TheVariants.{Record}
use Rattle.sweeps.specs.Env.{Env, env_of}
use Rattle.sweeps.specs.Sweeps.{Swept, body_swept}
use Rattle.clamps.specs.Clamps.{clamped_all}
use Rattle.ccd_solver.specs.declared.scene.Tier.{Tier}
use Rattle.ccd_solver.specs.declared.scene.Tier.TheVariants.{NonBullets, Bullets}

-- what a solve reads that it does not change: the host's answers, the filter's word, the colliders, the terms of the step, and the
-- room for candidates
pub record Setting : Type 0 where
  pub host : Answers
  pub keeps : ColliderHandle → ColliderHandle → Bool
  pub colliders : List (Slot Collider)
  pub step : Step
  pub room : ℕ

abbrev pub setting : Answers → (ColliderHandle → ColliderHandle → Bool) → List (Slot Collider) → Step → ℕ → Setting
setting h k cs s n = record { host = h; keeps = k; colliders = cs; step = s; room = n }

-- with the reports of a finder, and the bodies as they are at the time
abbrev pub env : Setting → Listing → List (Slot RigidBody) → Env
env s l bs = env_of s.host l s.keeps bs s.colliders s.step

abbrev pub result : RigidBodyHandle → Float → BodyContinuousResult
result h f = record { handle = h; fraction = f }

-- the results and the hits that are written
abbrev pub Log : Type 0
Log = Written BodyContinuousResult × Written PseudoHit

-- ---- the sweeps

abbrev pub is_of_tier : Tier → RigidBody → Bool
is_of_tier NonBullets b = not (is_bullet b)
is_of_tier Bullets b = is_bullet b

-- marked, and a bullet in the stage of bullets, no bullet in the other
abbrev pub takes_turn : Tier → RigidBody → Bool
takes_turn t b = b.marked && is_of_tier t b

-- a body's sweep starts at the fraction 1, and its hits go under the number of its result
abbrev pub sweep_from : Env → ℕ → RigidBodyHandle → RigidBody → Log → Swept
sweep_from e room h b l = body_swept e room (Record l.0.count) h b (l.1, one_f) (listed b.colliders)

-- what a swept body leaves
abbrev pub logged : RigidBodyHandle → Written BodyContinuousResult → Swept → Log
logged h rs s = (with rs (result h s.1), s.0)

-- one active body, if there is room for its result
abbrev pub active_by : Env → ℕ → Tier → RigidBodyHandle → Log → Option RigidBody → Log
active_by e room t h l None = l
active_by e room t h l (Some b) = cond (takes_turn t b && has_room l.0 1) (logged h l.0 (sweep_from e room h b l)) l

abbrev pub active_swept : Env → ℕ → Tier → Log → RigidBodyHandle → Log
active_swept e room t l h = active_by e room t h l (found e.bodies h.0)

-- the active bodies, in the order of the list
abbrev pub stage_swept : Env → ℕ → Tier → Log → List RigidBodyHandle → Log
stage_swept e room t l hs = fold (active_swept e room t) l hs

-- a space that goes on from another: the same lent space, with no fewer places written
abbrev pub GoesOn : {X : Type 0} → Space X → Space X → Type 0
GoesOn old new = SameSpace old new × (old.count ≤ new.count)

-- ---- the clamps

-- the results that were written from number n on
abbrev pub newest : ℕ → Written BodyContinuousResult → List BodyContinuousResult
newest n rs = drop n (take rs.count rs.all)

-- the bodies, and the log
abbrev pub Stage : Type 0
Stage = List (Slot RigidBody) × Log

-- all sweeps of a stage come before its clamps
abbrev pub staged : Setting → Listing → Tier → List RigidBodyHandle → Stage → Stage
staged s near t hs g =
    let l = stage_swept (env s near g.0) s.room t g.1 hs in
    (clamped_all s.host g.0 (newest g.1.0.count l.0), l)
