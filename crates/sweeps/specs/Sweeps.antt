-- One body's sweep. Assumes nothing.
use Rattle.std.specs.Prelude.{ℕ, Bool, false, cond, not, ◌&&◌, List, take, fold, Some, None, Option, Float}
use Rattle.geometry.specs.declared.handle.RigidBodyHandle.{RigidBodyHandle}
use Rattle.geometry.specs.declared.handle.ColliderHandle.{ColliderHandle}
use Rattle.geometry.specs.declared.aabb.Aabb.{Aabb}
use Rattle.geometry.specs.declared.pose.Pose.{Pose}
use Rattle.geometry.specs.Boxes.{merged_of}
use Rattle.outcomes.specs.declared.pair_kind.PairKind.{PairKind}
use Rattle.outcomes.specs.declared.pair_kind.PairKind.TheVariants.{Solid, Pseudo}
use Rattle.hosts.specs.declared.questions.Sweep.{Sweep}
use Rattle.hosts.specs.Hosts.{Answers}
use Rattle.spaces.specs.Spaces.{Written, with}
use Rattle.slots.specs.Store.{found}
use Rattle.records.specs.declared.rigid_body.RigidBody.{RigidBody}
use Rattle.records.specs.declared.collider.Collider.{Collider}
use Rattle.records.specs.declared.collider.ColliderParent.{ColliderParent}
use Rattle.pairs.specs.Pairs.{Fast, fast, parent_body, admits, is_pseudo, pair_kind, stands_at}
use Rattle.pair_casts.specs.declared.fast_shape.FastShape.{FastShape}
use Rattle.pair_casts.specs.declared.target.Target.{Target}
use Rattle.pair_casts.specs.FastShapes.{fast_shape}
use Rattle.pair_casts.specs.PairCasts.{pair_taken}
use Rattle.sweeps.specs.declared.hall.PseudoHit.{PseudoHit}
use Rattle.sweeps.specs.declared.hall.PseudoHitMode.{PseudoHitMode}
use Rattle.sweeps.specs.declared.hall.PseudoHitMode.TheVariants.{Record, Ignore}
use Rattle.sweeps.specs.Env.{Env}

-- the hits that are written, and the least fraction so far
abbrev pub Swept : Type 0
Swept = Written PseudoHit × Float

-- ---- one pair

abbrev pub hit_of : ℕ → Fast → ColliderHandle → Float → PseudoHit
hit_of n f k x = record { result = n; first = f.handle; second = k; fraction = x }

-- the hit of a pair, where there is room, unless such pairs are ignored
abbrev pub noted_by : PseudoHitMode → Fast → ColliderHandle → Float → Written PseudoHit → Written PseudoHit
noted_by (Record n) f k x w = with w (hit_of n f k x)
noted_by Ignore f k x w = w

-- an accepted fraction of a solid pair becomes the body's, that of a pseudo pair is noted
abbrev pub judged : PseudoHitMode → Fast → ColliderHandle → PairKind → Option Float → Swept → Swept
judged m f k p None s = s
judged m f k Solid (Some x) s = (s.0, x)
judged m f k Pseudo (Some x) s = (noted_by m f k x s.0, s.1)

abbrev pub target_of : Answers → Fast → Collider → Option RigidBody → Target
target_of h f c other = record { shape = c.shape; pose = stands_at h c other; pair = pair_kind f.collider c }

-- the cast of a pair, under the fraction that is reached
abbrev pub met : Env → PseudoHitMode → Fast → FastShape → ColliderHandle → Collider → Option RigidBody → Swept → Swept
met e m f q k c other s = judged m f k (pair_kind f.collider c) (pair_taken e.host e.step (target_of e.host f c other) q s.1) s

-- pseudo pairs have no part in a sweep that ignores them
abbrev pub passed_over : PseudoHitMode → Collider → Collider → Bool
passed_over (Record n) a b = false
passed_over Ignore a b = is_pseudo a b

abbrev pub candidate_by : Env → PseudoHitMode → Fast → FastShape → ColliderHandle → Collider → Option RigidBody → Swept → Swept
candidate_by e m f q k c other s = cond (admits e.keeps f k c other && not (passed_over m f.collider c)) (met e m f q k c other s) s

-- a reported collider that is not live is passed over
abbrev pub candidate_in : Env → PseudoHitMode → Fast → FastShape → ColliderHandle → Option Collider → Swept → Swept
candidate_in e m f q k None s = s
candidate_in e m f q k (Some c) s = candidate_by e m f q k c (parent_body e.bodies c.parent) s

abbrev pub candidate_swept : Env → PseudoHitMode → Fast → FastShape → Swept → ColliderHandle → Swept
candidate_swept e m f q s k = candidate_in e m f q k (found e.colliders k.0) s

-- ---- one collider

abbrev pub candidates_swept : Env → PseudoHitMode → Fast → FastShape → Swept → List ColliderHandle → Swept
candidates_swept e m f q s ks = fold (candidate_swept e m f q) s ks

-- the way of a collider that stands at a relative pose of its body
abbrev pub sweep_of : Answers → RigidBody → Pose → Sweep
sweep_of h b r = record { start = h.product b.position r; end = h.product b.next r; centre = h.inverse_point r b.centre }

-- the union of the boxes at start and end
abbrev pub swept_box : Answers → ℕ → Sweep → Aabb
swept_box h s w = merged_of (h.aabb s w.start) (h.aabb s w.end)

-- what the finder reports of a fast collider on its way
abbrev pub report_of : Env → Fast → Sweep → List ColliderHandle
report_of e f w = e.listed (swept_box e.host f.collider.shape w) e.step.prediction

-- `room` candidates find a place; a shape that is never swept is passed over
abbrev pub shape_swept : Env → ℕ → PseudoHitMode → Fast → Sweep → Option FastShape → Swept → Swept
shape_swept e room m f w None s = s
shape_swept e room m f w (Some q) s = candidates_swept e m f q s (take room (report_of e f w))

abbrev pub way_of : Env → Fast → Pose → Sweep
way_of e f r = sweep_of e.host f.body r

-- how the shape of a fast collider is swept on its way
abbrev pub shape_of : Env → Fast → Pose → Option FastShape
shape_of e f r = fast_shape e.host f.collider.shape (way_of e f r) f.body.linvel f.body.angvel

abbrev pub collider_swept : Env → ℕ → PseudoHitMode → Fast → Pose → Swept → Swept
collider_swept e room m f r s = shape_swept e room m f (way_of e f r) (shape_of e f r) s

-- ---- one body

-- disabled colliders are not swept, nor are sensors in a sweep that ignores them
abbrev pub takes_part : PseudoHitMode → Collider → Bool
takes_part (Record n) c = c.enabled
takes_part Ignore c = c.enabled && not c.sensor

abbrev pub part_by : Env → ℕ → PseudoHitMode → Fast → Option ColliderParent → Swept → Swept
part_by e room m f None s = s
part_by e room m f (Some p) s = cond (takes_part m f.collider) (collider_swept e room m f p.relative s) s

abbrev pub part_in : Env → ℕ → PseudoHitMode → RigidBodyHandle → RigidBody → ColliderHandle → Option Collider → Swept → Swept
part_in e room m h b k None s = s
part_in e room m h b k (Some c) s = part_by e room m (fast h b k c) c.parent s

abbrev pub part_swept : Env → ℕ → PseudoHitMode → RigidBodyHandle → RigidBody → Swept → ColliderHandle → Swept
part_swept e room m h b s k = part_in e room m h b k (found e.colliders k.0) s

-- the colliders of a body, in the order of its list
abbrev pub body_swept : Env → ℕ → PseudoHitMode → RigidBodyHandle → RigidBody → Swept → List ColliderHandle → Swept
body_swept e room m h b s ks = fold (part_swept e room m h b) s ks
