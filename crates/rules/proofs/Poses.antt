-- The test of every pose that is stored decides that each is admitted. Assumes nothing.
use Rattle.std.proofs.Common.{◌≡◌, Bool, true, List, Some, None, Decides, Option, refl, subst}
use lib.Ieee.Bits.{is_true}
use Rattle.std.specs.Bool.{passes}
use Rattle.std.proofs.lemmas.Bool.Decides.{Decides-at}
use Rattle.std.proofs.lemmas.Bool.{and_parts, and_from}
use Rattle.hosts.specs.Hosts.{Answers}
use Rattle.slots.specs.declared.Slot.{Slot}
use Rattle.slots.specs.Store.{found}
use Rattle.records.specs.declared.rigid_body.RigidBody.{RigidBody}
use Rattle.records.specs.declared.collider.Collider.{Collider}
use Rattle.records.specs.declared.collider.ColliderParent.{ColliderParent}
use Rattle.rules.specs.Scans.{every_record}
use Rattle.rules.specs.Admitted.{admitted_body, admitted_from, admitted_by, admitted_at, admitted_collider, all_admitted, AllAdmitted}
use Rattle.rules.proofs.Scanned.{records_decide}

module _ (a : Answers) (bs : List (Slot RigidBody)) (cs : List (Slot Collider)) where
  -- a collider with a live body, and one without
  carried : (c : Collider) (p : ColliderParent) (b : RigidBody) → admitted_collider a bs c ≡ true → c.parent ≡ Some p → found bs p.body.0 ≡ Some b → admitted_from a p.relative b ≡ true
  carried c p b e i f =
      let e1 = subst (λ (q : Option ColliderParent). admitted_at a bs c.position q ≡ true) i e in
      subst (λ (o : Option RigidBody). admitted_by a p.relative o ≡ true) f e1

  lone : (c : Collider) → admitted_collider a bs c ≡ true → c.parent ≡ None → a.admits c.position ≡ true
  lone c e i = subst (λ (q : Option ColliderParent). admitted_at a bs c.position q ≡ true) i e

  by_body : (p : ColliderParent) (o : Option RigidBody) → ((b : RigidBody) → o ≡ Some b → admitted_from a p.relative b ≡ true) → admitted_by a p.relative o ≡ true
  by_body p None f = refl
  by_body p (Some b) f = f b refl

  by_parent : (c : Collider) (q : Option ColliderParent) → (q ≡ None → a.admits c.position ≡ true)
      → ((p : ColliderParent) → q ≡ Some p → (b : RigidBody) → found bs p.body.0 ≡ Some b → admitted_from a p.relative b ≡ true)
      → admitted_at a bs c.position q ≡ true
  by_parent c None f g = f refl
  by_parent c (Some p) f g = by_body p (found bs p.body.0) (g p refl)

  admitted_out : all_admitted a bs cs ≡ true → AllAdmitted a bs cs
  admitted_out e =
      let t = and_parts (every_record (admitted_body a) bs) (every_record (admitted_collider a bs) cs) e in
      let body = (records_decide (admitted_body a) bs).0 t.0 in
      let collider = (records_decide (admitted_collider a bs) cs).0 t.1 in
      record {
        positions = λ h b f. passes (a.admits b.position) (and_parts (a.admits b.position) (a.admits b.next) (body h.0 b f)).0;
        nexts = λ h b f. passes (a.admits b.next) (and_parts (a.admits b.position) (a.admits b.next) (body h.0 b f)).1;
        products = λ k c p b f i g.
            let x = a.admits (a.product b.position p.relative) in
            let y = a.admits (a.product b.next p.relative) in
            passes x (and_parts x y (carried c p b (collider k.0 c f) i g)).0;
        next_products = λ k c p b f i g.
            let x = a.admits (a.product b.position p.relative) in
            let y = a.admits (a.product b.next p.relative) in
            passes y (and_parts x y (carried c p b (collider k.0 c f) i g)).1;
        alone = λ k c f i. passes (a.admits c.position) (lone c (collider k.0 c f) i);
      }

  admitted_in : AllAdmitted a bs cs → all_admitted a bs cs ≡ true
  admitted_in r =
      and_from (every_record (admitted_body a) bs) (every_record (admitted_collider a bs) cs)
      ((records_decide (admitted_body a) bs).1
      (λ h b f.
      let x = a.admits b.position in
      let y = a.admits b.next in
      and_from x y (is_true x (r.positions (record { 0 = h }) b f)) (is_true y (r.nexts (record { 0 = h }) b f))))
      ((records_decide (admitted_collider a bs) cs).1
      (λ h c f.
      by_parent c c.parent
      (λ i. is_true (a.admits c.position) (r.alone (record { 0 = h }) c f i))
      (λ p i b g.
      let x = a.admits (a.product b.position p.relative) in
      let y = a.admits (a.product b.next p.relative) in
      and_from x y (is_true x (r.products (record { 0 = h }) c p b f i g)) (is_true y (r.next_products (record { 0 = h }) c p b f i g)))))

  pub admitted_decide : Decides (all_admitted a bs cs) (AllAdmitted a bs cs)
  admitted_decide = (admitted_out, admitted_in)

-- what answers as the test does decides that all are admitted
pub poses_decided : (a : Answers) (bs : List (Slot RigidBody)) (cs : List (Slot Collider)) (r : Bool) → r ≡ all_admitted a bs cs → Decides r (AllAdmitted a bs cs)
poses_decided a bs cs r e = Decides-at r (all_admitted a bs cs) e (admitted_decide a bs cs)
