-- Bodies that stop keep the rules. Assumes nothing.
use Rattle.std.proofs.Common.{◌≡◌, T, List, [], ◌∷◌, Some, subst, ⊎_elim}
use lib.Ieee.{Float}
use Rattle.std.specs.List.{ContainsAt as Has}
use Rattle.geometry.specs.declared.handle.RigidBodyHandle.{RigidBodyHandle}
use Rattle.geometry.specs.declared.handle.ColliderHandle.{ColliderHandle}
use Rattle.hosts.specs.Hosts.{Answers}
use Rattle.hosts.specs.HostLaws.{Lawful, Inner, SweepAdmitted}
use Rattle.slots.specs.declared.Slot.{Slot}
use Rattle.slots.specs.Store.{found, written}
use Rattle.search.proofs.Members.{has_first, has_rest}
use Rattle.records.specs.declared.rigid_body.RigidBody.{RigidBody}
use Rattle.records.specs.declared.collider.Collider.{Collider}
use Rattle.records.specs.declared.collider.ColliderParent.{ColliderParent}
use Rattle.records.specs.Lists.{listed}
use Rattle.rules.specs.Holds.{BodyHolds, ParentHolds}
use Rattle.sweeps.specs.declared.hall.BodyContinuousResult.{BodyContinuousResult}
use Rattle.clamps.specs.Clamps.{below, body_sweep, stopped_at, clamped_one, clamped_all}
use Rattle.clamp_laws.specs.ClampLaws.{Standing, ClampsKeepTheRules}
use Rattle.clamp_laws.proofs.Writes.{found_then, found_now}
use Rattle.clamp_laws.proofs.Ones.{one_ways}

module _ (a : Answers) (bs : List (Slot RigidBody)) (cs : List (Slot Collider)) (st : Standing a bs cs) where
  -- the way of a live body is in range and admitted
  pub way_admitted : (h : RigidBodyHandle) (b : RigidBody) → found bs h.0 ≡ Some b → SweepAdmitted a (body_sweep b)
  way_admitted h b e =
      let o = st.bodies_hold h b e in
      record {
        start_range = o.position;
        end_range = o.next;
        start_admitted = st.admitted.positions h b e;
        end_admitted = st.admitted.nexts h b e;
      }

  -- a live body stops strictly inside its way
  module _ (lawful : Lawful a) (h : RigidBodyHandle) (b : RigidBody) (live : found bs h.0 ≡ Some b) (f : Float) (inner : Inner f) where
    abbrev after : List (Slot RigidBody)
    after = written bs h.0 (stopped_at a b f)

    stopped_holds : (k : RigidBodyHandle) → found bs k.0 ≡ Some b → BodyHolds cs k (stopped_at a b f)
    stopped_holds k e =
        let o = st.bodies_hold k b e in
        record {
          position = o.position;
          next = (lawful.inside (body_sweep b) f inner (way_admitted k b e)).0;
          centre = o.centre;
          linvel = o.linvel;
          angvel = o.angvel;
          marked = o.marked;
          table = o.table;
          few = o.few;
          once = o.once;
          owned = o.owned;
        }

    parent_holds_lem : (k : ColliderHandle) (c : Collider) (p : ColliderParent) → ParentHolds a bs k c p → ParentHolds a after k c p
    parent_holds_lem k c p o =
        ⊎_elim
        (λ (m : (o.body ≡ b) × (found after p.body.0 ≡ Some (stopped_at a b f))). record {
          relative = o.relative;
          body = stopped_at a b f;
          live = m.1;
          stands = subst (λ (x : RigidBody). Has (listed x.colliders) k) m.0 o.stands;
          own = subst (λ (x : RigidBody). c.position ≡ a.product x.position p.relative) m.0 o.own;
        })
        (λ (m : found after p.body.0 ≡ Some o.body). record { relative = o.relative; body = o.body; live = m; stands = o.stands; own = o.own })
        (found_now bs h.0 b (stopped_at a b f) live p.body.0 o.body o.live)

    pub stop_stands : Standing a after cs
    stop_stands =
        let then = found_then bs h.0 b (stopped_at a b f) live in
        let m = st.admitted in
        record {
          bodies_hold = λ k x e. then k.0 x e (BodyHolds cs k) (stopped_holds k) (st.bodies_hold k x);
          colliders_hold = λ k c e.
              let o = st.colliders_hold k c e in
              record { known = o.known; attached = λ p q. parent_holds_lem k c p (o.attached p q) };
          admitted = record {
            positions = λ k x e. then k.0 x e (λ z. T (a.admits z.position)) (m.positions k b) (m.positions k x);
            nexts = λ k x e.
                then k.0 x e (λ z. T (a.admits z.next))
                (λ o. (lawful.inside (body_sweep b) f inner (way_admitted k b o)).1)
                (m.nexts k x);
            products = λ k c p x e q g.
                then p.body.0 x g (λ z. T (a.admits (a.product z.position p.relative)))
                (m.products k c p b e q) (m.products k c p x e q);
            next_products = λ k c p x e q g.
                then p.body.0 x g (λ z. T (a.admits (a.product z.next p.relative)))
                (λ o. lawful.inside_products (body_sweep b) f p.relative inner (way_admitted p.body b o)
                ((st.colliders_hold k c e).attached p q).relative
                (m.products k c p b e q o) (m.next_products k c p b e q o))
                (m.next_products k c p x e q);
            alone = m.alone;
          };
        }

-- one result keeps the rules
pub one_stands : (a : Answers) (bs : List (Slot RigidBody)) (cs : List (Slot Collider)) (r : BodyContinuousResult)
    → Lawful a → (T (below r) → Inner r.fraction) → Standing a bs cs → Standing a (clamped_one a bs r) cs
one_stands a bs cs r lawful inner st =
    one_ways a bs r (λ s. Standing a s cs)
    (λ b t e. stop_stands a bs cs st lawful r.handle b e r.fraction (inner t))
    (λ _. st)

-- and so do all, apart or not
pub all_stand : (a : Answers) (bs : List (Slot RigidBody)) (cs : List (Slot Collider)) (rs : List BodyContinuousResult)
    → Lawful a → ((r : BodyContinuousResult) → Has rs r → T (below r) → Inner r.fraction)
    → Standing a bs cs → Standing a (clamped_all a bs rs) cs
all_stand a bs cs [] lawful inner st = st
all_stand a bs cs (r ∷ rs) lawful inner st =
    all_stand a (clamped_one a bs r) cs rs lawful (λ x m. inner x (has_rest r x rs m))
    (one_stands a bs cs r lawful (inner r (has_first r rs)) st)

pub clamps_keep : ClampsKeepTheRules
clamps_keep = all_stand
