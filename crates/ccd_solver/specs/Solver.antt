-- The end of a step. Assumes nothing.
use Rattle.std.specs.Prelude.{ℕ, List, length, take}
use Rattle.geometry.specs.declared.handle.RigidBodyHandle.{RigidBodyHandle}
use Rattle.hosts.specs.Hosts.{Answers}
use Rattle.finders.specs.Finders.{Listing}
use Rattle.spaces.specs.Spaces.{nothing_in}
use Rattle.slots.specs.declared.Slot.{Slot}
use Rattle.records.specs.declared.rigid_body.RigidBody.{RigidBody}
use Rattle.records.specs.declared.collider.Collider.{Collider}
use Rattle.sweeps.specs.declared.hall.BodyContinuousResult.{BodyContinuousResult}
use Rattle.sweeps.specs.declared.hall.PseudoHit.{PseudoHit}
use Rattle.clamps.specs.Clamps.{clamp_count}
use Rattle.crossings.specs.declared.event.CollisionEvent.{CollisionEvent}
use Rattle.crossings.specs.Crossings.{emitted}
use Rattle.ccd_solver.specs.declared.scene.Tier.TheVariants.{NonBullets, Bullets}
use Rattle.ccd_solver.specs.declared.solver.Solved.{Solved}
use Rattle.ccd_solver.specs.Stages.{Setting, Stage, staged}

-- bodies, results, hits and events as they are left, and the answer
abbrev pub Outcome : Type 0
Outcome = List (Slot RigidBody) × List BodyContinuousResult × List PseudoHit × List CollisionEvent × Solved

abbrev pub solution : ℕ → ℕ → ℕ → Solved
solution r c e = record { results = r; clamps = c; events = e }

-- the stage of the non-bullets, over the list of the colliders at rest or, where that is not whole, over the full finder
abbrev pub first_stage : Setting → Listing → List RigidBodyHandle → Stage → Stage
first_stage s near hs t = staged s near NonBullets hs t

-- then the bullets, over the full finder
abbrev pub both_stages : Setting → Listing → Listing → List RigidBodyHandle → Stage → Stage
both_stages s near full hs t = staged s full Bullets hs (first_stage s near hs t)

-- nothing is written at first
abbrev pub at_first : List (Slot RigidBody) → List BodyContinuousResult → List PseudoHit → Stage
at_first bs rs ks = (bs, (nothing_in rs, nothing_in ks))

-- the results that a stage has written, all in all
abbrev pub results_of : Stage → List BodyContinuousResult
results_of t = take t.1.0.count t.1.0.all

abbrev pub hits_of : Stage → List PseudoHit
hits_of t = take t.1.1.count t.1.1.all

-- the events of the hits, and the answer
abbrev pub reported : Answers → List (Slot RigidBody) → List (Slot Collider) → List BodyContinuousResult → List PseudoHit → List CollisionEvent → List CollisionEvent × Solved
reported h bs cs rs ks es =
    let e = emitted h bs cs rs (nothing_in es) ks in
    (e.all, solution (length rs) (clamp_count rs) e.count)

-- the events come after all clamps
abbrev pub solved_by : Setting → Stage → List CollisionEvent → Outcome
solved_by s t es =
    let r = reported s.host t.0 s.colliders (results_of t) (hits_of t) es in
    (t.0, t.1.0.all, t.1.1.all, r.0, r.1)

abbrev pub solved : Setting → Listing → Listing → List RigidBodyHandle → List (Slot RigidBody) → List BodyContinuousResult → List PseudoHit → List CollisionEvent → Outcome
solved s near full hs bs rs ks es = solved_by s (both_stages s near full hs (at_first bs rs ks)) es
