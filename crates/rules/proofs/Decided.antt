-- The tests decide the rules. Assumes nothing.
use Rattle.std.proofs.Common.{◌≡◌, ◌<◌, ◌^◌, Bool, true, false, not, ◌&&◌, ◌||◌, eqb, leb, List, length, is_some, Some, None, Decides, Option, refl, subst, arith}
use lib.Ieee.Bits.{is_true}
use Rattle.std.specs.Bool.{passes}
use Rattle.std.proofs.lemmas.Bool.Decides.{Decides-at}
use Rattle.std.proofs.lemmas.Bool.{and_parts, and_from, eqb-true, eq-eqb, leb-true, le-leb}
use Rattle.numbers.specs.Constants.{million}
use Rattle.geometry.specs.declared.handle.RigidBodyHandle.{RigidBodyHandle}
use Rattle.geometry.specs.declared.handle.ColliderHandle.{ColliderHandle}
use Rattle.geometry.specs.declared.rigid_body_type.RigidBodyType.{RigidBodyType}
use Rattle.geometry.specs.declared.rigid_body_type.RigidBodyType.TheVariants.{Dynamic, Fixed, KinematicPositionBased, KinematicVelocityBased}
use Rattle.geometry.specs.Vectors.{ranged_vector}
use Rattle.geometry.specs.Poses.{ranged_pose}
use Rattle.hosts.specs.Hosts.{Answers}
use Rattle.slots.specs.declared.Slot.{Slot}
use Rattle.slots.specs.Store.{State, found}
use Rattle.slots.specs.Rules.{orderly}
use Rattle.slots.proofs.Decided.{orderly_decides}
use Rattle.records.specs.declared.rigid_body.RigidBody.{RigidBody}
use Rattle.records.specs.declared.collider.Collider.{Collider}
use Rattle.records.specs.declared.collider.ColliderParent.{ColliderParent}
use Rattle.records.specs.Bodies.{is_dynamic}
use Rattle.records.specs.Lists.{counted, listed, listed_in}
use Rattle.records.specs.Equality.{same_pose}
use Rattle.records.proofs.Members.{listed_decides}
use Rattle.records.proofs.Values.{same_pose_lem}
use Rattle.rules.specs.Scans.{every_live}
use Rattle.rules.specs.Rules.{ranged_body, markable, distinct, owns_all, list_holds, body_holds, body_rule, carried_by, parent_holds, collider_holds, collider_rule, stores_hold}
use Rattle.rules.specs.Holds.{BodyHolds, ParentHolds, ColliderHolds, StoresHold}
use Rattle.rules.proofs.Scanned.{every_decides}
use Rattle.rules.proofs.Owned.{distinct_decides, owns_all_decides}

-- ---- bodies

mark_out : (m : Bool) (k : RigidBodyType) → (not m || is_dynamic k) ≡ true → m ≡ true → k ≡ Dynamic
mark_out true Dynamic h e = refl
mark_out true Fixed h e = absurd (grind arith)
mark_out true KinematicPositionBased h e = absurd (grind arith)
mark_out true KinematicVelocityBased h e = absurd (grind arith)
mark_out false k h e = absurd (grind arith)

mark_in : (m : Bool) (k : RigidBodyType) → (m ≡ true → k ≡ Dynamic) → (not m || is_dynamic k) ≡ true
mark_in true k h = rw (h refl) refl
mark_in false k h = refl

module _ (cs : List (Slot Collider)) (h : RigidBodyHandle) (b : RigidBody) where
  body_out : body_holds cs h b ≡ true → BodyHolds cs h b
  body_out e =
      let l = b.colliders in
      let p = ranged_pose million b.position in
      let n = ranged_pose million b.next in
      let c = ranged_vector million b.centre in
      let v = ranged_vector million b.linvel in
      let w = ranged_vector million b.angvel in
      let d = distinct (listed l) in
      let o = owns_all cs h (listed l) in
      let e1 = and_parts (ranged_body b) (markable b && list_holds cs h l) e in
      let e2 = and_parts (markable b) (list_holds cs h l) e1.1 in
      let r1 = and_parts p (n && (c && (v && w))) e1.0 in
      let r2 = and_parts n (c && (v && w)) r1.1 in
      let r3 = and_parts c (v && w) r2.1 in
      let r4 = and_parts v w r3.1 in
      let l1 = and_parts (counted l) (d && o) e2.1 in
      let l2 = and_parts d o l1.1 in
      let t = and_parts (eqb (length l.handles) 8) (leb l.count 8) l1.0 in
      record {
        position = passes p r1.0;
        next = passes n r2.0;
        centre = passes c r3.0;
        linvel = passes v r4.0;
        angvel = passes w r4.1;
        marked = mark_out b.marked b.kind e2.0;
        table = eqb-true (length l.handles) 8 t.0;
        few = leb-true l.count 8 t.1;
        once = (distinct_decides (listed l)).0 l2.0;
        owned = (owns_all_decides cs h (listed l)).0 l2.1;
      }

  -- the laws of lists speak of counted ones
  pub counted_list : BodyHolds cs h b → counted b.colliders ≡ true
  counted_list r =
      let l = b.colliders in
      and_from (eqb (length l.handles) 8) (leb l.count 8) (eq-eqb (length l.handles) 8 r.table) (le-leb l.count 8 r.few)

  body_in : BodyHolds cs h b → body_holds cs h b ≡ true
  body_in r =
      let l = b.colliders in
      let p = ranged_pose million b.position in
      let n = ranged_pose million b.next in
      let c = ranged_vector million b.centre in
      let v = ranged_vector million b.linvel in
      let w = ranged_vector million b.angvel in
      let d = distinct (listed l) in
      let o = owns_all cs h (listed l) in
      and_from (ranged_body b) (markable b && list_holds cs h l)
      (and_from p (n && (c && (v && w))) (is_true p r.position)
      (and_from n (c && (v && w)) (is_true n r.next)
      (and_from c (v && w) (is_true c r.centre) (and_from v w (is_true v r.linvel) (is_true w r.angvel)))))
      (and_from (markable b) (list_holds cs h l) (mark_in b.marked b.kind r.marked)
      (and_from (counted l) (d && o) (counted_list r)
      (and_from d o ((distinct_decides (listed l)).1 r.once) ((owns_all_decides cs h (listed l)).1 r.owned))))

  pub body_decides : Decides (body_holds cs h b) (BodyHolds cs h b)
  body_decides = (body_out, body_in)

-- ---- colliders

module _ (a : Answers) (bs : List (Slot RigidBody)) (k : ColliderHandle) (c : Collider) where
  carried_out : (p : ColliderParent) → ranged_pose million p.relative ≡ true → (o : Option RigidBody) → found bs p.body.0 ≡ o → carried_by a k c.position p.relative o ≡ true → ParentHolds a bs k c p
  carried_out p r None f e = absurd (grind arith)
  carried_out p r (Some b) f e =
      let s = listed_in k (listed b.colliders) in
      let m = same_pose c.position (a.product b.position p.relative) in
      let t = and_parts s m e in
      record {
        relative = passes (ranged_pose million p.relative) r;
        body = b;
        live = f;
        stands = (listed_decides k (listed b.colliders)).0 t.0;
        own = (same_pose_lem c.position (a.product b.position p.relative)).0 t.1;
      }

  parent_out : (q : Option ColliderParent) → parent_holds a bs k c.position q ≡ true → (p : ColliderParent) → q ≡ Some p → ParentHolds a bs k c p
  parent_out None e p i = absurd (grind arith)
  parent_out (Some q) e p i =
      let t = and_parts (ranged_pose million q.relative) (carried_by a k c.position q.relative (found bs q.body.0)) e in
      let same : q ≡ p = grind arith in
      subst (λ (x : ColliderParent). ParentHolds a bs k c x) same (carried_out q t.0 (found bs q.body.0) refl t.1)

  carried_in : (p : ColliderParent) → ParentHolds a bs k c p → carried_by a k c.position p.relative (found bs p.body.0) ≡ true
  carried_in p r =
      let b = r.body in
      let s = listed_in k (listed b.colliders) in
      let m = same_pose c.position (a.product b.position p.relative) in
      rw r.live (and_from s m ((listed_decides k (listed b.colliders)).1 r.stands)
      ((same_pose_lem c.position (a.product b.position p.relative)).1 r.own))

  parent_in : (q : Option ColliderParent) → ((p : ColliderParent) → q ≡ Some p → ParentHolds a bs k c p) → parent_holds a bs k c.position q ≡ true
  parent_in None f = refl
  parent_in (Some q) f =
      let r = f q refl in
      and_from (ranged_pose million q.relative) (carried_by a k c.position q.relative (found bs q.body.0))
      (is_true (ranged_pose million q.relative) r.relative) (carried_in q r)

  collider_out : collider_holds a bs k c ≡ true → ColliderHolds a bs k c
  collider_out e =
      let t = and_parts (is_some (a.kind c.shape)) (parent_holds a bs k c.position c.parent) e in
      record { known = t.0; attached = parent_out c.parent t.1 }

  collider_in : ColliderHolds a bs k c → collider_holds a bs k c ≡ true
  collider_in r =
      and_from (is_some (a.kind c.shape)) (parent_holds a bs k c.position c.parent) r.known (parent_in c.parent r.attached)

  pub collider_decides : Decides (collider_holds a bs k c) (ColliderHolds a bs k c)
  collider_decides = (collider_out, collider_in)

-- ---- both stores

module _ (a : Answers) (bs : State RigidBody) (cs : State Collider) where
  stores_out : stores_hold a bs cs ≡ true → StoresHold a bs cs
  stores_out e =
      let nb = leb (length bs.slots) 256 in
      let nc = leb (length cs.slots) 1024 in
      let ob = orderly bs in
      let oc = orderly cs in
      let hb = every_live (body_rule cs.slots) bs.slots in
      let hc = every_live (collider_rule a bs.slots) cs.slots in
      let e1 = and_parts nb (nc && (ob && (oc && (hb && hc)))) e in
      let e2 = and_parts nc (ob && (oc && (hb && hc))) e1.1 in
      let e3 = and_parts ob (oc && (hb && hc)) e2.1 in
      let e4 = and_parts oc (hb && hc) e3.1 in
      let e5 = and_parts hb hc e4.1 in
      let few_bodies = leb-true (length bs.slots) 256 e1.0 in
      let few_colliders = leb-true (length cs.slots) 1024 e2.0 in
      let few : length bs.slots < 2 ^ 32 = omega arith in
      let few' : length cs.slots < 2 ^ 32 = omega arith in
      record {
        few_bodies = few_bodies;
        few_colliders = few_colliders;
        bodies_in_order = (orderly_decides bs).0 e3.0;
        colliders_in_order = (orderly_decides cs).0 e4.0;
        bodies_hold = λ h b f. body_out cs.slots h b ((every_decides (body_rule cs.slots) bs.slots few).0 e5.0 h.0 b f);
        colliders_hold = λ k c f. collider_out a bs.slots k c ((every_decides (collider_rule a bs.slots) cs.slots few').0 e5.1 k.0 c f);
      }

  stores_in : StoresHold a bs cs → stores_hold a bs cs ≡ true
  stores_in r =
      let nb = leb (length bs.slots) 256 in
      let nc = leb (length cs.slots) 1024 in
      let ob = orderly bs in
      let oc = orderly cs in
      let hb = every_live (body_rule cs.slots) bs.slots in
      let hc = every_live (collider_rule a bs.slots) cs.slots in
      let few_bodies = r.few_bodies in
      let few_colliders = r.few_colliders in
      let few : length bs.slots < 2 ^ 32 = omega arith in
      let few' : length cs.slots < 2 ^ 32 = omega arith in
      and_from nb (nc && (ob && (oc && (hb && hc)))) (le-leb (length bs.slots) 256 r.few_bodies)
      (and_from nc (ob && (oc && (hb && hc))) (le-leb (length cs.slots) 1024 r.few_colliders)
      (and_from ob (oc && (hb && hc)) ((orderly_decides bs).1 r.bodies_in_order)
      (and_from oc (hb && hc) ((orderly_decides cs).1 r.colliders_in_order)
      (and_from hb hc
      ((every_decides (body_rule cs.slots) bs.slots few).1 (λ h b f. body_in cs.slots (record { 0 = h }) b (r.bodies_hold (record { 0 = h }) b f)))
      ((every_decides (collider_rule a bs.slots) cs.slots few').1 (λ h c f. collider_in a bs.slots (record { 0 = h }) c (r.colliders_hold (record { 0 = h }) c f)))))))

  pub stores_decide : Decides (stores_hold a bs cs) (StoresHold a bs cs)
  stores_decide = (stores_out, stores_in)

-- what answers as the test does decides the rules too
pub decided : (a : Answers) (bs : State RigidBody) (cs : State Collider) (r : Bool) → r ≡ stores_hold a bs cs → Decides r (StoresHold a bs cs)
decided a bs cs r e = Decides-at r (stores_hold a bs cs) e (stores_decide a bs cs)
