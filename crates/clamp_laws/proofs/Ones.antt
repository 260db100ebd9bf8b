-- One body stops. Assumes nothing.
use Rattle.std.proofs.Common.{◌≡◌, T, List, length, Some, None, Option, sym, refl, ap, ◌∙◌, subst, T_not, arith}
use Rattle.std.specs.Bool.{passes, fails}
use Rattle.std.proofs.lemmas.Bool.{cond_both}
use Rattle.std.proofs.lemmas.List.{length-set}
use Rattle.geometry.specs.declared.handle.Handle.{Handle}
use Rattle.geometry.specs.declared.handle.RigidBodyHandle.{RigidBodyHandle}
use Rattle.hosts.specs.Hosts.{Answers}
use Rattle.slots.specs.declared.Header.{Header}
use Rattle.slots.specs.declared.Slot.{Slot}
use Rattle.slots.specs.Store.{state, found, written, changed}
use Rattle.slots.specs.Rules.{Valid}
use Rattle.slots.proofs.Rules.{replaced_valid}
use Rattle.records.specs.declared.rigid_body.RigidBody.{RigidBody}
use Rattle.sweeps.specs.declared.hall.BodyContinuousResult.{BodyContinuousResult}
use Rattle.clamps.specs.Clamps.{below, stopped_at, clamped_by, clamped_one}
use Rattle.clamp_laws.proofs.Writes.{written_same, written_other}

-- handles of bodies are equal if what they hold is
pub same_body : (j k : RigidBodyHandle) → j.0 ≡ k.0 → j ≡ k
same_body j k e = let wrap : Handle → RigidBodyHandle = λ h. record { 0 = h } in ap wrap e

module _ (h : Answers) (bs : List (Slot RigidBody)) (r : BodyContinuousResult) where
  -- the body is live and below 1, and is written anew; or it is not, and nothing is written
  pub one_ways : (P : List (Slot RigidBody) → Type 0)
      → ((b : RigidBody) → T (below r) → found bs r.handle.0 ≡ Some b → P (written bs r.handle.0 (stopped_at h b r.fraction)))
      → (((b : RigidBody) → T (below r) → found bs r.handle.0 ≡ Some b → ⊥) → P bs)
      → P (clamped_one h bs r)
  one_ways P stops stays =
      let way : (o : Option RigidBody) → T (below r) → found bs r.handle.0 ≡ o → P (clamped_by h bs r o) = λ o t.
      elim o as (λ v. found bs r.handle.0 ≡ v → P (clamped_by h bs r v)) [
        | None ↦ λ e. stays (λ b _ f. absurd (grind arith))
        | Some b ↦ λ e.
            let P' : Option RigidBody → Type 0 = λ v. P (changed bs r.handle.0 (stopped_at h b r.fraction) v).0 in
            subst P' (sym e) (stops b t e)
      ] in
      cond_both (below r) (clamped_by h bs r (found bs r.handle.0)) bs P
      (λ e. way (found bs r.handle.0) (passes (below r) e) refl)
      (λ e. stays (λ b t _. T_not (below r) (fails (below r) e) t))

  -- a live body below 1 stops
  pub one_stopped : (b : RigidBody) → T (below r) → found bs r.handle.0 ≡ Some b
      → found (clamped_one h bs r) r.handle.0 ≡ Some (stopped_at h b r.fraction)
  one_stopped b t e =
      one_ways (λ s. found s r.handle.0 ≡ Some (stopped_at h b r.fraction))
      (λ x _ f. let i : x ≡ b = cc in
      written_same bs r.handle.0 x (stopped_at h x r.fraction) f ∙ ap (λ (z : RigidBody). Some (stopped_at h z r.fraction)) i)
      (λ n. absurd (n b t e))

  -- any other handle finds what it found
  pub one_other : (k : RigidBodyHandle) → (r.handle ≡ k → T (below r) → ⊥) → found (clamped_one h bs r) k.0 ≡ found bs k.0
  one_other k apart =
      one_ways (λ s. found s k.0 ≡ found bs k.0)
      (λ x t f. written_other bs r.handle.0 x (stopped_at h x r.fraction) f k.0 (λ i. apart (same_body r.handle k i) t))
      (λ _. refl)

  -- the slots are as many, and in order
  pub one_length : length (clamped_one h bs r) ≡ length bs
  one_length = one_ways (λ s. length s ≡ length bs) (λ x t f. simp length-set) (λ _. refl)

  pub one_valid : (d : Header) → Valid (state d bs) → Valid (state d (clamped_one h bs r))
  one_valid d v =
      one_ways (λ s. Valid (state d s))
      (λ x t f. rw f at (replaced_valid (state d bs) v r.handle.0 (stopped_at h x r.fraction)))
      (λ _. v)
