-- What the sweep of a body finds. Assumes nothing.
use Rattle.std.specs.Prelude.{◌≡◌, ℕ, ◌+◌, ◌-◌, ◌≤◌, cond, ◌&&◌, List, [], ◌∷◌, length, take, drop, filter, flat_map, Some, None, Option, Float}
use Rattle.std.specs.Float.Ieee.{lt}
use Rattle.std.specs.List.{ContainsAt as Has}
use Rattle.numbers.specs.Constants.{one_f}
use Rattle.geometry.specs.declared.handle.RigidBodyHandle.{RigidBodyHandle}
use Rattle.geometry.specs.declared.handle.ColliderHandle.{ColliderHandle}
use Rattle.hosts.specs.HostLaws.{Lawful as LawfulHost}
use Rattle.spaces.specs.Spaces.{Written}
use Rattle.slots.specs.Store.{found}
use Rattle.records.specs.declared.rigid_body.RigidBody.{RigidBody}
use Rattle.records.specs.declared.collider.Collider.{Collider}
use Rattle.records.specs.declared.collider.ColliderParent.{ColliderParent}
use Rattle.records.specs.Lists.{listed}
use Rattle.search.specs.Laws.{Least}
use Rattle.pairs.specs.Pairs.{Fast, fast, parent_body, admits}
use Rattle.pair_casts.specs.declared.fast_shape.FastShape.{FastShape}
use Rattle.sweeps.specs.declared.hall.PseudoHit.{PseudoHit}
use Rattle.sweeps.specs.declared.hall.PseudoHitMode.{PseudoHitMode}
use Rattle.sweeps.specs.declared.hall.PseudoHitMode.TheVariants.{Record}
use Rattle.sweeps.specs.Env.{Env}
use Rattle.sweeps.specs.Sweeps.{Swept, report_of, way_of, shape_of, body_swept}
use Rattle.sweep_laws.specs.Fractions.{fractions}
use Rattle.sweep_laws.specs.Situations.{situation, Lasts}
use Rattle.sweep_laws.specs.Pairs.{Pair, Admitted, SolidPair, pseudo, impact_of}
use Rattle.sweep_laws.specs.Served.{Found}

-- how far a body comes, by a sweep that starts at the fraction 1
abbrev pub swept_to : Env → ℕ → PseudoHitMode → RigidBodyHandle → RigidBody → Written PseudoHit → Swept
swept_to e room m h b w = body_swept e room m h b (w, one_f) (listed b.colliders)

-- ---- the fraction

-- With a lawful host and any lawful finder that serves the body, its fraction is the least solid impact of its admitted solid
-- pairs, or 1 where there is none, whether pseudo pairs are noted or not.
abbrev pub FractionIsLeast : Type 0
FractionIsLeast =
    (e : Env) (room : ℕ) (m : PseudoHitMode) (h : RigidBodyHandle) (b : RigidBody) (w : Written PseudoHit)
    → LawfulHost e.host → Lasts e.step → Found e b room
    → Least fractions (SolidPair (situation e) h b) (impact_of (situation e) b) (swept_to e room m h b w).1

-- ---- the admitted pairs, in the order of the sweep

abbrev pub pair_of : Fast → ColliderHandle → Collider → Pair
pair_of f k c = record { own = f.handle; part = f.collider; other = k; target = c }

abbrev pub pair_in : Env → Fast → ColliderHandle → Option Collider → List Pair
pair_in e f k None = []
pair_in e f k (Some c) = cond (admits e.keeps f k c (parent_body e.bodies c.parent)) (pair_of f k c ∷ []) []

-- of the reported colliders those that are live and admitted, in the order of the report
abbrev pub pairs_of : Env → Fast → List ColliderHandle → List Pair
pairs_of e f ks = flat_map (λ k. pair_in e f k (found e.colliders k.0)) ks

abbrev pub pairs_if : Env → Fast → ColliderParent → Option FastShape → List Pair
pairs_if e f p None = []
pairs_if e f p (Some q) = pairs_of e f (report_of e f (way_of e f p.relative))

-- of an enabled collider with a body whose shape is swept
abbrev pub pairs_by : Env → Fast → Option ColliderParent → List Pair
pairs_by e f None = []
pairs_by e f (Some p) = cond f.collider.enabled (pairs_if e f p (shape_of e f p.relative)) []

abbrev pub pairs_at : Env → RigidBodyHandle → RigidBody → ColliderHandle → Option Collider → List Pair
pairs_at e h b k None = []
pairs_at e h b k (Some c) = pairs_by e (fast h b k c) c.parent

-- of the colliders of a body, in the order of its list
abbrev pub pairs_from : Env → RigidBodyHandle → RigidBody → List ColliderHandle → List Pair
pairs_from e h b ks = flat_map (λ k. pairs_at e h b k (found e.colliders k.0)) ks

abbrev pub admitted_pairs : Env → RigidBodyHandle → RigidBody → List Pair
admitted_pairs e h b = pairs_from e h b (listed b.colliders)

-- they are exactly the admitted pairs, whatever the finder
pub record PairsAreExact (e : Env) (h : RigidBodyHandle) (b : RigidBody) : Type 0 where
  pub only : (x : Pair) → Has (admitted_pairs e h b) x → Admitted (situation e) h b x
  pub all : (x : Pair) → Admitted (situation e) h b x → Has (admitted_pairs e h b) x

abbrev pub ExactlyTheAdmitted : Type 0
ExactlyTheAdmitted = (e : Env) (room : ℕ) (h : RigidBodyHandle) (b : RigidBody) → LawfulHost e.host → Lasts e.step → Found e b room → PairsAreExact e h b

-- ---- the hits

-- the hit of a pair that has its pseudo impact before a fraction
abbrev pub hit_before : ℕ → Float → Pair → Option Float → List PseudoHit
hit_before n f x None = []
hit_before n f x (Some p) = cond (pseudo x && lt p f) (record { result = n; first = x.own; second = x.other; fraction = p } ∷ []) []

-- the hits of the pseudo pairs of a list whose pseudo impacts lie before a fraction, in order
abbrev pub hits_before : Env → ℕ → RigidBody → Float → List Pair → List PseudoHit
hits_before e n b f xs = flat_map (λ x. hit_before n f x (impact_of (situation e) b x)) xs

-- the hits of a list that lie before a fraction
abbrev pub before : Float → List PseudoHit → List PseudoHit
before f xs = filter (λ x. lt x.fraction f) xs

-- what a sweep noted after the first `count` hits
abbrev pub new_hits : ℕ → Written PseudoHit → List PseudoHit
new_hits count w = take (w.count - count) (drop count w.all)

-- Of what a sweep notes after the hits w, those before the body's fraction are of its admitted pseudo pairs whose pseudo impact lies
-- before it, in the order of the sweep, each under the number of the result. Earlier hits stay, and no more is noted than there are
-- pairs.
pub record HitsNoted (e : Env) (n : ℕ) (h : RigidBodyHandle) (b : RigidBody) (w : Written PseudoHit) (s : Swept) : Type 0 where
  pub earlier : take w.count s.0.all ≡ take w.count w.all
  pub grows : w.count ≤ s.0.count
  pub few : s.0.count ≤ w.count + length (admitted_pairs e h b)
  pub long : length s.0.all ≡ length w.all
  pub noted : before s.1 (new_hits w.count s.0) ≡ hits_before e n b s.1 (admitted_pairs e h b)
  pub numbered : (x : PseudoHit) → Has (new_hits w.count s.0) x → x.result ≡ n

abbrev pub HitsAreTheCrossed : Type 0
HitsAreTheCrossed =
    (e : Env) (room n : ℕ) (h : RigidBodyHandle) (b : RigidBody) (w : Written PseudoHit)
    → LawfulHost e.host → Lasts e.step → Found e b room → w.count + length (admitted_pairs e h b) ≤ length w.all
    → HitsNoted e n h b w (swept_to e room (Record n) h b w)
