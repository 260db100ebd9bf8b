-- A store is a map from handles to records.
use Rattle.std.proofs.Common.{◌≡◌, ℕ, ◌+◌, ◌<◌, min, true, cond, eqb, ltb, List, length, set, Some, None, Ok, Err, Option, Result, refl, subst, ⊎_elim, arith}
use Rattle.std.proofs.lemmas.Bool.Decides.{nat_tests}
use Rattle.std.proofs.lemmas.Bool.{cases_eq, cond_both}
use Rattle.geometry.specs.declared.handle.Handle.{Handle}
use Rattle.slots.specs.declared.Vacancy.{Vacancy}
use Rattle.slots.specs.declared.fault.Fault.{Fault}
use Rattle.slots.specs.declared.fault.Fault.TheVariants.{Full}
use Rattle.slots.specs.declared.Slot.{Slot}
use Rattle.slots.specs.declared.Slot.TheVariants.{Unused, Free, Retired, Live}
use Rattle.geometry.specs.Handles.{same}
use Rattle.slots.specs.Store.{slot_at, record_in, found, State, state, header, handle, vacancy, reused, extended, vacant_by, filled, freed, removed, replaced}
use Rattle.slots.specs.Rules.{is_unused, Valid}
use Rattle.slots.specs.Laws.{MapAt, IsMap}
use Rattle.slots.proofs.Rules.{within_from, slot_set, cleared_at}

module _ {T : Type 0} where
  -- the slot of a handle that finds a record
  live_in : (y : Slot T) (g : ℕ) (x : T) → record_in y g ≡ Some x → y ≡ Live g x
  live_in Unused g x e = absurd (grind arith)
  live_in (Free f n) g x e = absurd (grind arith)
  live_in Retired g x e = absurd (grind arith)
  live_in (Live f z) g x e = grind (arith, nat_tests)

  pub live_at : (s : List (Slot T)) (h : Handle) (x : T) → found s h ≡ Some x → slot_at s h.slot ≡ Live h.generation x
  live_at s h x e = live_in (slot_at s h.slot) h.generation x e

  pub found_within : (s : List (Slot T)) (h : Handle) (x : T) → found s h ≡ Some x → h.slot < length s
  found_within s h x e = within_from s h.slot (rw (live_at s h x e) refl)

  pub unused_slot : (y : Slot T) → is_unused y ≡ true → y ≡ Unused
  unused_slot Unused e = refl
  unused_slot (Free g n) e = absurd (grind arith)
  unused_slot Retired e = absurd (grind arith)
  unused_slot (Live g x) e = absurd (grind arith)

  -- a slot is written: what handles of that slot find, and what the others do
  found_put : (s : List (Slot T)) (i g : ℕ) (x : T) (k : Handle) → i < length s
      → (k.slot ≡ i → (k.generation ≡ g → ⊥) → found s k ≡ None)
      → found (set s i (Live g x)) k ≡ cond (same k (handle i g)) (Some x) (found s k)
  found_put s i g x k w other =
      let e = slot_set s i (Live g x) k.slot w in
      ⊎_elim
      (λ (p : k.slot ≡ i). ⊎_elim
      (λ (q : k.generation ≡ g). grind (arith, nat_tests))
      (λ (q : k.generation ≡ g → ⊥). let o = other p q in grind (arith, nat_tests))
      (cases_eq k.generation g))
      (λ (p : k.slot ≡ i → ⊥). grind (arith, nat_tests))
      (cases_eq k.slot i)

  found_cut : (s : List (Slot T)) (h : Handle) (y : Slot T) (k : Handle) → h.slot < length s
      → record_in y k.generation ≡ None
      → (k.slot ≡ h.slot → (k.generation ≡ h.generation → ⊥) → found s k ≡ None)
      → found (set s h.slot y) k ≡ cond (same k h) None (found s k)
  found_cut s h y k w none other =
      let e = slot_set s h.slot y k.slot w in
      ⊎_elim
      (λ (p : k.slot ≡ h.slot). ⊎_elim
      (λ (q : k.generation ≡ h.generation). grind (arith, nat_tests))
      (λ (q : k.generation ≡ h.generation → ⊥). let o = other p q in grind (arith, nat_tests))
      (cases_eq k.generation h.generation))
      (λ (p : k.slot ≡ h.slot → ⊥). grind (arith, nat_tests))
      (cases_eq k.slot h.slot)

  -- no handle finds a record in the slot of a live one, but that one
  lone : (s : List (Slot T)) (h : Handle) (x : T) (k : Handle) → found s h ≡ Some x
      → k.slot ≡ h.slot → (k.generation ≡ h.generation → ⊥) → found s k ≡ None
  lone s h x k e p q = let l = live_at s h x e in grind (arith, nat_tests)

  empty_at : (s : List (Slot T)) (i : ℕ) (k : Handle) (y : Slot T) → slot_at s i ≡ y → record_in y k.generation ≡ None
      → k.slot ≡ i → found s k ≡ None
  empty_at s i k y e n p = grind arith

  replaces : (s : List (Slot T)) (h : Handle) (x y : T) → found s h ≡ Some x
      → ((replaced s h y).1 ≡ Ok tt) × ((k : Handle) → found (replaced s h y).0 k ≡ cond (same k h) (Some y) (found s k))
  replaces s h x y e =
      rw e (refl, λ k. found_put s h.slot h.generation y k (found_within s h x e) (lone s h x k e))

  freed_finds : (st : State T) (h : Handle) (x : T) → found st.slots h ≡ Some x → (k : Handle)
      → found (freed st h).slots k ≡ cond (same k h) None (found st.slots k)
  freed_finds st h x e k =
      let w = found_within st.slots h x e in
      cond_both {A = State T} (eqb h.generation 4294967295)
      (state st.header (set st.slots h.slot Retired))
      (state (header (Some h.slot) st.header.used) (set st.slots h.slot (Free (h.generation + 1) st.header.free)))
      (λ t. found t.slots k ≡ cond (same k h) None (found st.slots k))
      (λ _. found_cut st.slots h Retired k w refl (lone st.slots h x k e))
      (λ _. found_cut st.slots h (Free (h.generation + 1) st.header.free) k w refl (lone st.slots h x k e))

  removes : (st : State T) (h : Handle) (x : T) → found st.slots h ≡ Some x
      → ((removed st h).1 ≡ Ok x) × ((k : Handle) → found (removed st h).0.slots k ≡ cond (same k h) None (found st.slots k))
  removes st h x e = rw e (refl, freed_finds st h x e)

  -- an insertion
  Finds : State T → T → State T × Result Handle Fault → Type 0
  Finds st x p = (h : Handle) → p.1 ≡ Ok h
      → (found st.slots h ≡ None) × ((k : Handle) → found p.0.slots k ≡ cond (same k h) (Some x) (found st.slots k))

  module _ (st : State T) (v : Valid st) (x : T) where
    put_finds : (i g : ℕ) (y : Slot T) (d : State T) → slot_at st.slots i ≡ y → ((m : ℕ) → record_in y m ≡ None) → i < length st.slots
        → d.slots ≡ set st.slots i (Live g x) → Finds st x (d, Ok (handle i g))
    unfolding Finds
    put_finds i g y d e none w is h o =
        let q : handle i g ≡ h = grind arith in
        let n = empty_at st.slots i (handle i g) y e (none g) refl in
        let P : Handle → Type 0 = λ j. (found st.slots j ≡ None) × ((k : Handle) → found d.slots k ≡ cond (same k j) (Some x) (found st.slots k)) in
        subst P q (n, λ k. rw is (found_put st.slots i g x k w (λ p _. empty_at st.slots i k y e (none k.generation) p)))

    reused_finds : (i : ℕ) (y : Slot T) → slot_at st.slots i ≡ y → Finds st x (filled st x (reused st.header i y))
    unfolding Finds
    reused_finds i Unused e = λ h o. absurd (grind arith)
    reused_finds i (Free g n) e =
        put_finds i g (Free g n) (state (header n st.header.used) (set st.slots i (Live g x))) e (λ _. refl)
        (within_from st.slots i (rw e refl)) refl
    reused_finds i Retired e = λ h o. absurd (grind arith)
    reused_finds i (Live g z) e = λ h o. absurd (grind arith)

    extended_finds : Finds st x (filled st x (extended st.header (length st.slots)))
    unfolding Finds
    extended_finds =
        let u = st.header.used in
        let d = header st.header.free (u + 1) in
        cond_both {A = Result Vacancy Fault} (ltb u (min (length st.slots) 4294967295)) (Ok (vacancy (handle u 0) d)) (Err Full)
        (λ r. Finds st x (filled st x r))
        (λ t. let w : u < length st.slots = grind (arith, nat_tests) in
        let q = v.unused u in
        put_finds u 0 Unused (state d (set st.slots u (Live 0 x)))
        (unused_slot (slot_at st.slots u) (grind (arith, nat_tests))) (λ _. refl) w refl)
        (λ _ h o. absurd (grind arith))

    placed_finds : (o : Option ℕ) → Finds st x (filled st x (vacant_by st o))
    placed_finds None = extended_finds
    placed_finds (Some i) = reused_finds i (slot_at st.slots i) refl

  pub map_at : (st : State T) → Valid st → MapAt st
  unfolding Finds
  map_at st v = record {
    insertion = λ x. placed_finds st v x st.header.free;
    removal = removes st;
    replacement = replaces st.slots;
  }

  pub maps : IsMap T
  maps = record { opened = λ s k. rw (cleared_at s k.slot) refl; after = map_at }
