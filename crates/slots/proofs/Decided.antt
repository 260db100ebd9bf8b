-- `orderly` decides the rules.
use Rattle.std.proofs.Common.{◌≡◌, ℕ, zero, suc, ◌+◌, ◌^◌, ◌<◌, ◌≤◌, Bool, true, not, ◌&&◌, ltb, leb, List, [], ◌∷◌, length, Decides, sym, refl, ⊎_elim, arith}
use Rattle.std.proofs.lemmas.Bool.Decides.{nat_tests, Decides-at}
use Rattle.std.proofs.lemmas.Bool.{cases_lt, and_parts, and_from, leb-true, le-leb}
use Rattle.std.proofs.lemmas.List.{get_or_past}
use Rattle.slots.specs.declared.Slot.{Slot}
use Rattle.slots.specs.declared.Slot.TheVariants.{Unused, Free, Retired, Live}
use Rattle.slots.specs.Store.{slot_at, State}
use Rattle.slots.specs.Rules.{is_unused, aged, fitting, laid_out, free_count, walks, orderly, Valid}
use Rattle.slots.proofs.Chains.{chain_walked, walks_chain, count_length, once_each}

-- each slot from number i on may stand where it does
abbrev LaidOut : {T : Type 0} → ℕ → ℕ → List (Slot T) → Type 0
LaidOut u i s = (k : ℕ) → k < length s → fitting (slot_at s k) (ltb (i + k) u) ≡ true

module _ {T : Type 0} where
  laid_at : (u i : ℕ) (s : List (Slot T)) → laid_out u i s ≡ true → LaidOut u i s
  laid_at u i [] h k l = absurd (omega arith)
  laid_at u i (x ∷ s) h zero l = let e : i + 0 ≡ i = omega arith in rw e (grind arith)
  laid_at u i (x ∷ s) h (suc k) l =
      let e : i + suc k ≡ i + 1 + k = omega arith in
      let t : laid_out u (i + 1) s ≡ true = grind arith in rw e (laid_at u (i + 1) s t k (omega arith))

  laid_from : (u i : ℕ) (s : List (Slot T)) → LaidOut u i s → laid_out u i s ≡ true
  laid_from u i [] h = refl
  laid_from u i (x ∷ s) h =
      let e : i + 0 ≡ i = omega arith in
      let a : fitting x (ltb i u) ≡ true = rw e at (h 0 (omega arith)) in
      let r = laid_from u (i + 1) s (λ k l. let d : i + 1 + k ≡ i + suc k = omega arith in rw d (h (suc k) (omega arith))) in
      grind arith

  fitting_unused : (x : Slot T) (u : Bool) → fitting x u ≡ true → is_unused x ≡ not u
  fitting_unused Unused u h = sym h
  fitting_unused (Free g n) u h = grind arith
  fitting_unused Retired u h = grind arith
  fitting_unused (Live g x) u h = grind arith

  fitting_aged : (x : Slot T) (u : Bool) → fitting x u ≡ true → aged x ≡ true
  fitting_aged Unused u h = refl
  fitting_aged (Free g n) u h = grind arith
  fitting_aged Retired u h = refl
  fitting_aged (Live g x) u h = refl

  fitting_from : (x : Slot T) (u : Bool) → is_unused x ≡ not u → aged x ≡ true → fitting x u ≡ true
  fitting_from Unused u h a = sym h
  fitting_from (Free g n) u h a = grind arith
  fitting_from Retired u h a = grind arith
  fitting_from (Live g x) u h a = grind arith

  laid_out_from : (st : State T) → Valid st → LaidOut st.header.used 0 st.slots
  laid_out_from st v i h =
      let u = v.unused i in
      let e : 0 + i ≡ i = omega arith in
      rw e (fitting_from (slot_at st.slots i) (ltb i st.header.used) (grind (arith, nat_tests)) (v.old i))

  walks_from : (st : State T) → Valid st → walks st.slots st.header.free (free_count st.slots) ≡ true
  walks_from st v =
      let w = walks_chain st.slots st.header.free v.chain v.linked in
      let l = count_length st.slots v.chain v.once in rw (← l) w

  module _ (st : State T) (b : st.header.used ≤ length st.slots) (o : (i : ℕ) → i < length st.slots → fitting (slot_at st.slots i) (ltb i st.header.used) ≡ true) where
    unused_from : (i : ℕ) → is_unused (slot_at st.slots i) ≡ leb st.header.used i
    unused_from i =
        ⊎_elim
        (λ h. let e = fitting_unused (slot_at st.slots i) (ltb i st.header.used) (o i h) in grind (arith, nat_tests))
        (λ h. let e = get_or_past st.slots i Unused h in grind (arith, nat_tests))
        (cases_lt i (length st.slots))

    old_from : (i : ℕ) → aged (slot_at st.slots i) ≡ true
    old_from i =
        ⊎_elim
        (λ h. fitting_aged (slot_at st.slots i) (ltb i st.header.used) (o i h))
        (λ h. rw (get_or_past st.slots i Unused h) refl)
        (cases_lt i (length st.slots))

    valid_from : length st.slots < 2 ^ 32 → walks st.slots st.header.free (free_count st.slots) ≡ true → Valid st
    valid_from l w =
        let (is, c, e) = chain_walked st.slots st.header.free (free_count st.slots) w in
        record {
          short = l;
          within = b;
          unused = unused_from;
          old = old_from;
          chain = is;
          linked = c;
          once = once_each st.slots st.header.free is c e;
        }

  pub orderly_decides : (st : State T) → Decides (orderly st) (Valid st)
  orderly_decides st =
      let a = leb (length st.slots) 4294967295 in
      let b = leb st.header.used (length st.slots) in
      let c = laid_out st.header.used 0 st.slots in
      let d = walks st.slots st.header.free (free_count st.slots) in (
        λ h.
            let p = and_parts (a && b && c) d h in
            let q = and_parts (a && b) c p.0 in
            let r = and_parts a b q.0 in
            let m = leb-true (length st.slots) 4294967295 r.0 in
            valid_from st (leb-true st.header.used (length st.slots) r.1)
            (λ i l. let e : 0 + i ≡ i = omega arith in rw e at (laid_at st.header.used 0 st.slots q.1 i l))
            (omega arith) p.1,
        λ v.
            let m = v.short in
            and_from (a && b && c) d
            (and_from (a && b) c
            (and_from a b (le-leb (length st.slots) 4294967295 (omega arith)) (le-leb st.header.used (length st.slots) v.within))
            (laid_from st.header.used 0 st.slots (laid_out_from st v)))
            (walks_from st v),
      )

  -- what answers as `orderly` does decides the rules too
  pub decided : (st : State T) (r : Bool) → r ≡ orderly st → Decides r (Valid st)
  decided st r e = Decides-at r (orderly st) e (orderly_decides st)
