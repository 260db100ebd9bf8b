-- What handles find once the record of a live one is written anew, whatever the slots hold. Assumes nothing.
use Rattle.std.proofs.Common.{◌≡◌, true, false, cond, ◌⊎◌, List, Some, sym, refl, ◌∙◌, inl, inr, ⊎_elim, arith}
use Rattle.std.proofs.lemmas.Bool.Decides.{nat_tests}
use Rattle.std.proofs.lemmas.Bool.{cases_Bool}
use Rattle.geometry.specs.declared.handle.Handle.{Handle}
use Rattle.geometry.specs.Handles.{same}
use Rattle.slots.specs.declared.Slot.{Slot}
use Rattle.slots.specs.declared.Slot.TheVariants.{Live}
use Rattle.slots.specs.Store.{found, written}
use Rattle.slots.proofs.Rules.{slot_set}
use Rattle.slots.proofs.Maps.{live_at, found_within}
use Rattle.records.proofs.Members.{same_true, same_self}

module _ {X : Type 0} (s : List (Slot X)) (h : Handle) (x y : X) (live : found s h ≡ Some x) where
  -- the handle finds the new record, and any other handle what it found
  pub found_written : (k : Handle) → found (written s h y) k ≡ cond (same k h) (Some y) (found s k)
  found_written k =
      let e = slot_set s h.slot (Live h.generation y) k.slot (found_within s h x live) in
      let l = live_at s h x live in
      grind (arith, nat_tests)

  pub written_same : found (written s h y) h ≡ Some y
  written_same = found_written h ∙ rw (same_self h) refl

  pub written_other : (k : Handle) → (h ≡ k → ⊥) → found (written s h y) k ≡ found s k
  written_other k apart =
      ⊎_elim
      (λ (b : same k h ≡ true). absurd (apart (sym (same_true k h b))))
      (λ (b : same k h ≡ false). found_written k ∙ rw b refl)
      (cases_Bool (same k h))

  -- what a handle finds is the new record in the place of the old one, or what it found
  pub found_then : (k : Handle) (z : X) → found (written s h y) k ≡ Some z → (P : X → Type 0)
      → (found s k ≡ Some x → P y) → (found s k ≡ Some z → P z) → P z
  found_then k z e P new old =
      ⊎_elim
      (λ (b : same k h ≡ true).
      let i = same_true k h b in
      let n : y ≡ z = let w = written_same in let f : found (written s h y) h ≡ Some z = rw i at e in cc in
      rw n at (new (rw i live)))
      (λ (b : same k h ≡ false). old (sym (found_written k ∙ rw b refl) ∙ e))
      (cases_Bool (same k h))

  -- what a handle found is the old record and the new one is found, or it is found as before
  pub found_now : (k : Handle) (z : X) → found s k ≡ Some z → ((z ≡ x) × (found (written s h y) k ≡ Some y)) ⊎ (found (written s h y) k ≡ Some z)
  found_now k z e =
      ⊎_elim
      (λ (b : same k h ≡ true).
      let i = same_true k h b in
      let f : found s h ≡ Some z = rw i at e in
      inl (cc, rw i written_same))
      (λ (b : same k h ≡ false). inr (found_written k ∙ rw b e))
      (cases_Bool (same k h))
