-- The pairs that a sweep casts are exactly the admitted ones. Assumes nothing.
use Rattle.std.proofs.Common.{◌≡◌, ℕ, Bool, true, false, cond, not, ◌&&◌, T, List, [], ◌∷◌, Some, None, Option, sym, refl, subst}
use lib.Ieee.{Float}
use Rattle.std.specs.List.{ContainsAt as Has}
use Rattle.std.proofs.lemmas.Bool.{and_parts, and_from, not-true, not_from_false}
use Rattle.geometry.specs.declared.handle.RigidBodyHandle.{RigidBodyHandle}
use Rattle.geometry.specs.declared.handle.ColliderHandle.{ColliderHandle}
use Rattle.geometry.specs.declared.aabb.Aabb.{Aabb}
use Rattle.geometry.specs.Boxes.{loosened_by, meet_of}
use Rattle.geometry.specs.Groups.{agree}
use Rattle.finders.specs.Finders.{box_of, meets}
use Rattle.slots.specs.Store.{found}
use Rattle.records.specs.declared.rigid_body.RigidBody.{RigidBody}
use Rattle.records.specs.declared.collider.Collider.{Collider}
use Rattle.records.specs.declared.collider.ColliderParent.{ColliderParent}
use Rattle.records.specs.Lists.{listed}
use Rattle.search.proofs.Members.{has_first, has_none}
use Rattle.pairs.specs.Pairs.{Fast, fast, parent_body, tier_allows, of_body, filtered_out, admits}
use Rattle.pair_casts.specs.declared.fast_shape.FastShape.{FastShape}
use Rattle.sweeps.specs.Env.{Env}
use Rattle.sweeps.specs.Sweeps.{report_of, way_of, shape_of, swept_box}
use Rattle.sweep_laws.specs.Situations.{situation}
use Rattle.sweep_laws.specs.Pairs.{Pair, Admitted}
use Rattle.sweep_laws.specs.Served.{Found}
use Rattle.sweep_laws.specs.SweepLaws.{pair_of, pair_in, pairs_of, pairs_if, pairs_by, pairs_at, admitted_pairs, PairsAreExact}
use Rattle.sweep_laws.proofs.PairFacts.{PairFacts}
use Rattle.sweep_laws.proofs.Members.{in_has, has_in, has_one, has_joined, joined_has}

-- ---- how a pair stands among them

-- a pair of a fast collider with a reported one
record Cast (e : Env) (f : Fast) (ks : List ColliderHandle) (x : Pair) : Type 0 where
  reported : Has ks x.other
  live : found e.colliders x.other.0 ≡ Some x.target
  admitted : admits e.keeps f x.other x.target (parent_body e.bodies x.target.parent) ≡ true
  whose : pair_of f x.other x.target ≡ x

-- a collider of the body that is swept
record Part (e : Env) (h : RigidBodyHandle) (b : RigidBody) (k : ColliderHandle) (c : Collider) : Type 0 where
  parent : ColliderParent
  shape : FastShape
  live : found e.colliders k.0 ≡ Some c
  enabled : c.enabled ≡ true
  attached : c.parent ≡ Some parent
  swept : shape_of e (fast h b k c) parent.relative ≡ Some shape

-- what is reported of a collider that stands so on its body
abbrev reported_to : Env → RigidBodyHandle → RigidBody → ColliderHandle → Collider → ColliderParent → List ColliderHandle
reported_to e h b k c p = report_of e (fast h b k c) (way_of e (fast h b k c) p.relative)

module _ (e : Env) where
  -- a pair with one reported collider
  cast_in : (f : Fast) (ks : List ColliderHandle) (k : ColliderHandle) (x : Pair) (o : Option Collider) → Has ks k → found e.colliders k.0 ≡ o
      → Has (pair_in e f k o) x → Cast e f ks x
  cast_in f ks k x None l i h = absurd (has_none x h)
  cast_in f ks k x (Some c) l i h = by (admits e.keeps f k c (parent_body e.bodies c.parent)) refl h
    where
      by : (a : Bool) → admits e.keeps f k c (parent_body e.bodies c.parent) ≡ a → Has (cond a (pair_of f k c ∷ []) []) x → Cast e f ks x
      by true a h = subst (Cast e f ks) (has_one x (pair_of f k c) h) (record { reported = l; live = i; admitted = a; whose = refl })
      by false a h = absurd (has_none x h)

  -- what is among the pairs of a report is such a pair, and such a pair is among them
  cast_of : (f : Fast) (ks : List ColliderHandle) (x : Pair) → Has (pairs_of e f ks) x → Cast e f ks x
  cast_of f ks x h =
      let r = has_joined (λ k. pair_in e f k (found e.colliders k.0)) x ks h in
      cast_in f ks r.0 x (found e.colliders r.0.0) r.1 refl r.2

  of_cast : (f : Fast) (ks : List ColliderHandle) (x : Pair) → Cast e f ks x → Has (pairs_of e f ks) x
  of_cast f ks x c =
      joined_has (λ k. pair_in e f k (found e.colliders k.0)) x x.other ks c.reported
      (subst (λ (o : Option Collider). Has (pair_in e f x.other o) x) (sym c.live)
      (subst (λ (a : Bool). Has (cond a (pair_of f x.other x.target ∷ []) []) x) (sym c.admitted)
      (subst (λ (y : Pair). Has (pair_of f x.other x.target ∷ []) y) c.whose (has_first (pair_of f x.other x.target) []))))

  module _ (h : RigidBodyHandle) (b : RigidBody) where
    -- what is among the pairs of a collider is cast of it
    part_of : (k : ColliderHandle) (x : Pair) (o : Option Collider) → found e.colliders k.0 ≡ o → Has (pairs_at e h b k o) x
        → (c : Collider) × (p : Part e h b k c) × Cast e (fast h b k c) (reported_to e h b k c p.parent) x
    part_of k x None i m = absurd (has_none x m)
    part_of k x (Some c) i m = by c.parent refl m
      where
        shaped : (p : ColliderParent) → c.parent ≡ Some p → c.enabled ≡ true → (q : Option FastShape) → shape_of e (fast h b k c) p.relative ≡ q
            → Has (pairs_if e (fast h b k c) p q) x → (c : Collider) × (p : Part e h b k c) × Cast e (fast h b k c) (reported_to e h b k c p.parent) x
        shaped p a n None s m = absurd (has_none x m)
        shaped p a n (Some q) s m =
            (c, record { parent = p; shape = q; live = i; enabled = n; attached = a; swept = s }, cast_of (fast h b k c) (reported_to e h b k c p) x m)

        able : (p : ColliderParent) → c.parent ≡ Some p → (t : Bool) → c.enabled ≡ t
            → Has (cond t (pairs_if e (fast h b k c) p (shape_of e (fast h b k c) p.relative)) []) x
            → (c : Collider) × (p : Part e h b k c) × Cast e (fast h b k c) (reported_to e h b k c p.parent) x
        able p a true n m = shaped p a n (shape_of e (fast h b k c) p.relative) refl m
        able p a false n m = absurd (has_none x m)

        by : (p : Option ColliderParent) → c.parent ≡ p → Has (pairs_by e (fast h b k c) p) x
            → (c : Collider) × (p : Part e h b k c) × Cast e (fast h b k c) (reported_to e h b k c p.parent) x
        by None a m = absurd (has_none x m)
        by (Some p) a m = able p a c.enabled refl m

    -- and what is cast of it is among them
    of_part : (k : ColliderHandle) (c : Collider) (x : Pair) (p : Part e h b k c) → Cast e (fast h b k c) (reported_to e h b k c p.parent) x
        → Has (pairs_at e h b k (found e.colliders k.0)) x
    of_part k c x p m =
        let f = fast h b k c in
        subst (λ (o : Option Collider). Has (pairs_at e h b k o) x) (sym p.live)
        (subst (λ (a : Option ColliderParent). Has (pairs_by e f a) x) (sym p.attached)
        (subst (λ (t : Bool). Has (cond t (pairs_if e f p.parent (shape_of e f p.parent.relative)) []) x) (sym p.enabled)
        (subst (λ (q : Option FastShape). Has (pairs_if e f p.parent q) x) (sym p.swept)
        (of_cast f (reported_to e h b k c p.parent) x m))))

-- ---- what a finder that serves the body reports

-- what meets has a box
meets_some : (o : Option Aabb) (q : Aabb) (p : Float) → T (meets o q p) → (y : Aabb) × (o ≡ Some y) × T (meet_of (loosened_by y p) q)
meets_some None q p t = absurd t
meets_some (Some y) q p t = (y, refl, t)

-- one live collider has one value
some_one : {X : Type 0} (o : Option X) (x y : X) → o ≡ Some x → o ≡ Some y → x ≡ y
some_one o x y a b = cc

module _ (e : Env) (room : ℕ) (b : RigidBody) (fnd : Found e b room) (q : Aabb) (k : ColliderHandle) (c : Collider)
    (live : found e.colliders k.0 ≡ Some c) where
  -- a reported live collider is enabled, and its box at its own pose, loosened, meets
  reported_meets : Has (e.listed q e.step.prediction) k
      → (c.enabled ≡ true) × T (meet_of (loosened_by (e.host.aabb c.shape c.position) e.step.prediction) q)
  reported_meets h =
      let p = e.step.prediction in
      let r = meets_some (box_of fnd.meaning.held k) q p ((fnd.lawful.lists q p).only k (has_in k (e.listed q p) h)) in
      let s = fnd.serves.only k r.0 r.1 in
      let w = some_one (found e.colliders k.0) s.0 c s.1 live in
      subst (λ (d : Collider). (d.enabled ≡ true) × T (meet_of (loosened_by (e.host.aabb d.shape d.position) p) q)) w
      (s.2, subst (λ (y : Aabb). T (meet_of (loosened_by y p) q)) s.3 r.2)

  -- an enabled one that the tier allows and whose box meets is reported
  meets_reported : c.enabled ≡ true → tier_allows b (parent_body e.bodies c.parent) ≡ true
      → T (meet_of (loosened_by (e.host.aabb c.shape c.position) e.step.prediction) q) → Has (e.listed q e.step.prediction) k
  meets_reported n t m =
      let p = e.step.prediction in
      in_has k (e.listed q p)
      ((fnd.lawful.lists q p).all k (subst (λ (o : Option Aabb). T (meets o q p)) (sym (fnd.serves.all k c live n t)) m))

-- ---- admission

-- the four tests of a pair, one by one
admit_parts : (keeps : ColliderHandle → ColliderHandle → Bool) (f : Fast) (k : ColliderHandle) (c : Collider) (o : Option RigidBody) → admits keeps f k c o ≡ true
    → (of_body c.parent f.owner ≡ false) × (tier_allows f.body o ≡ true) × (agree f.collider.collision c.collision ≡ true)
    × (filtered_out keeps f k c ≡ false)
admit_parts keeps f k c o a =
    let p = and_parts (not (of_body c.parent f.owner))
    (tier_allows f.body o && (agree f.collider.collision c.collision && not (filtered_out keeps f k c))) a in
    let q = and_parts (tier_allows f.body o) (agree f.collider.collision c.collision && not (filtered_out keeps f k c)) p.1 in
    let r = and_parts (agree f.collider.collision c.collision) (not (filtered_out keeps f k c)) q.1 in
    (not-true (of_body c.parent f.owner) p.0, q.0, r.0, not-true (filtered_out keeps f k c) r.1)

-- and the whole from the four
admit_from : (keeps : ColliderHandle → ColliderHandle → Bool) (f : Fast) (k : ColliderHandle) (c : Collider) (o : Option RigidBody)
    → of_body c.parent f.owner ≡ false → tier_allows f.body o ≡ true → agree f.collider.collision c.collision ≡ true
    → filtered_out keeps f k c ≡ false → admits keeps f k c o ≡ true
admit_from keeps f k c o p q r s =
    and_from (not (of_body c.parent f.owner)) (tier_allows f.body o && (agree f.collider.collision c.collision && not (filtered_out keeps f k c)))
    (not_from_false (of_body c.parent f.owner) p)
    (and_from (tier_allows f.body o) (agree f.collider.collision c.collision && not (filtered_out keeps f k c)) q
    (and_from (agree f.collider.collision c.collision) (not (filtered_out keeps f k c)) r (not_from_false (filtered_out keeps f k c) s)))

module _ (e : Env) (room : ℕ) (h : RigidBodyHandle) (b : RigidBody) (facts : PairFacts e) (fnd : Found e b room) where
  -- a pair that is cast of a collider of the body is admitted
  cast_admitted : (k : ColliderHandle) (c : Collider) (x : Pair) → Has (listed b.colliders) k → (p : Part e h b k c)
      → Cast e (fast h b k c) (reported_to e h b k c p.parent) x → Admitted (situation e) h b (pair_of (fast h b k c) x.other x.target)
  cast_admitted k c x l p m =
      let f = fast h b k c in
      let r = p.parent.relative in
      let a = facts.known f r p.shape p.swept in
      let t = admit_parts e.keeps f x.other x.target (parent_body e.bodies x.target.parent) m.admitted in
      let n = reported_meets e room b fnd (swept_box e.host c.shape (way_of e f r)) x.other x.target m.live m.reported in
      record {
        parent = p.parent;
        kind = a.0;
        listed_there = l;
        live = p.live;
        enabled = p.enabled;
        attached = p.attached;
        known = a.1;
        swept = a.2;
        other_live = m.live;
        other_enabled = n.0;
        in_the_way = n.1;
        not_its_own = t.0;
        tier = t.1;
        groups = t.2;
        not_dropped = t.3;
      }

  -- each pair that is cast is admitted
  only : (x : Pair) → Has (admitted_pairs e h b) x → Admitted (situation e) h b x
  only x m =
      let r = has_joined (λ k. pairs_at e h b k (found e.colliders k.0)) x (listed b.colliders) m in
      let s = part_of e h b r.0 x (found e.colliders r.0.0) refl r.2 in
      subst (Admitted (situation e) h b) s.2.whose (cast_admitted r.0 s.0 x r.1 s.1 s.2)

  -- each admitted pair is cast
  all : (x : Pair) → Admitted (situation e) h b x → Has (admitted_pairs e h b) x
  all x a =
      let f = fast h b x.own x.part in
      let r = a.parent.relative in
      let s = facts.swept f r a.kind a.known a.swept in
      let p : Part e h b x.own x.part = record {
        parent = a.parent;
        shape = s.0;
        live = a.live;
        enabled = a.enabled;
        attached = a.attached;
        swept = s.1;
      } in
      let m : Cast e f (reported_to e h b x.own x.part a.parent) x = record {
        reported =
            meets_reported e room b fnd (swept_box e.host x.part.shape (way_of e f r)) x.other x.target
            a.other_live a.other_enabled a.tier a.in_the_way;
        live = a.other_live;
        admitted =
            admit_from e.keeps f x.other x.target (parent_body e.bodies x.target.parent)
            a.not_its_own a.tier a.groups a.not_dropped;
        whose = refl;
      } in
      joined_has (λ k. pairs_at e h b k (found e.colliders k.0)) x x.own (listed b.colliders) a.listed_there
      (of_part e h b x.own x.part x p m)

-- the pairs that a sweep casts are exactly the admitted ones
pub exactly : (e : Env) (room : ℕ) (h : RigidBodyHandle) (b : RigidBody) → PairFacts e → Found e b room → PairsAreExact e h b
exactly e room h b facts fnd = record { only = only e room h b facts fnd; all = all e room h b facts fnd }
