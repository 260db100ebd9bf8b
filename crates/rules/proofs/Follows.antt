-- What follows where the rules hold. Assumes nothing.
use Rattle.std.proofs.Common.{◌≡◌, T, List, Some, None, Option, sym, refl, subst, arith}
use Rattle.std.specs.List.{ContainsAt as Has}
use Rattle.std.proofs.lemmas.List.{length-replicate}
use Rattle.geometry.specs.declared.handle.Handle.{Handle}
use Rattle.geometry.specs.declared.handle.RigidBodyHandle.{RigidBodyHandle}
use Rattle.geometry.specs.declared.handle.ColliderHandle.{ColliderHandle}
use Rattle.geometry.specs.declared.pose.Pose.{Pose}
use Rattle.hosts.specs.Hosts.{Answers}
use Rattle.slots.specs.declared.Slot.{Slot}
use Rattle.slots.specs.Store.{State, found, emptied}
use Rattle.slots.proofs.Rules.{kept}
use Rattle.slots.proofs.Maps.{maps}
use Rattle.records.specs.declared.rigid_body.RigidBody.{RigidBody}
use Rattle.records.specs.declared.collider.Collider.{Collider}
use Rattle.records.specs.declared.collider.ColliderParent.{ColliderParent}
use Rattle.records.specs.Lists.{listed}
use Rattle.rules.specs.Holds.{StoresHold}
use Rattle.rules.specs.Admitted.{AllAdmitted}
use Rattle.rules.specs.Laws.{ListsAreExact, EmptyStoresHold, OwnPosesAdmitted}

pub exact_lists : ListsAreExact
exact_lists a bs cs s h b f = record {
  live = (s.bodies_hold h b f).owned;
  whole = λ k n.
      let r = (s.colliders_hold k n.collider n.live).attached n.parent n.has in
      let g = subst (λ (x : RigidBodyHandle). found bs.slots x.0 ≡ Some r.body) n.named r.live in
      let e : r.body ≡ b = grind arith in
      subst (λ (x : RigidBody). Has (listed x.colliders) k) e r.stands;
}

-- ---- stores that were just opened

none_found : {T : Type 0} (P : Type 0) (s : List (Slot T)) (k : Handle) (x : T) → found (emptied s).slots k ≡ Some x → P
none_found P s k x e = let n = maps.opened s k in absurd (grind arith)

pub empty_stores : EmptyStoresHold
empty_stores a bs cs = record {
  rules = λ m n. record {
    few_bodies = rw length-replicate m;
    few_colliders = rw length-replicate n;
    bodies_in_order = kept.opened bs (omega arith);
    colliders_in_order = kept.opened cs (omega arith);
    bodies_hold = λ h b f. none_found _ bs h.0 b f;
    colliders_hold = λ k c f. none_found _ cs k.0 c f;
  };
  poses = record {
    positions = λ h b f. none_found _ bs h.0 b f;
    nexts = λ h b f. none_found _ bs h.0 b f;
    products = λ k c p b f i g. none_found _ cs k.0 c f;
    next_products = λ k c p b f i g. none_found _ cs k.0 c f;
    alone = λ k c f i. none_found _ cs k.0 c f;
  };
}

-- ---- own poses

module _ (a : Answers) (bs : State RigidBody) (cs : State Collider) (s : StoresHold a bs cs) (m : AllAdmitted a bs.slots cs.slots) where
  own_by : (k : ColliderHandle) (c : Collider) → found cs.slots k.0 ≡ Some c → (q : Option ColliderParent) → c.parent ≡ q → T (a.admits c.position)
  own_by k c f None e = m.alone k c f e
  own_by k c f (Some p) e =
      let r = (s.colliders_hold k c f).attached p e in
      subst (λ (x : Pose). T (a.admits x)) (sym r.own) (m.products k c p r.body f e r.live)

pub own_poses : OwnPosesAdmitted
own_poses a bs cs s m k c f = own_by a bs cs s m k c f c.parent refl
