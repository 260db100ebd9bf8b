-- What the operations make of one slot, over any sequence: a dead handle stays dead, and a retired slot retired.
use Rattle.std.proofs.Common.{◌≡◌, ℕ, ◌+◌, ◌^◌, ◌<◌, min, Bool, true, false, eqb, ltb, leb, List, [], ◌∷◌, length, set, Some, None, Ok, Err, Option, Result, sym, refl, ap, ◌∙◌, subst, ⊎_elim, arith}
use Rattle.std.proofs.lemmas.Bool.Decides.{nat_tests}
use Rattle.std.proofs.lemmas.Bool.{cases_eq, cond_both, eqb-true, both_ways}
use Rattle.std.proofs.lemmas.List.{get_or-set_same, get_or-set_other}
use Rattle.geometry.specs.declared.handle.Handle.{Handle}
use Rattle.slots.specs.declared.Vacancy.{Vacancy}
use Rattle.slots.specs.declared.fault.Fault.{Fault}
use Rattle.slots.specs.declared.fault.Fault.TheVariants.{Full}
use Rattle.slots.specs.declared.Slot.{Slot}
use Rattle.slots.specs.declared.Slot.TheVariants.{Unused, Free, Retired, Live}
use Rattle.slots.specs.Store.{slot_at, record_in, found, State, state, header, handle, vacancy, reused, extended, vacant_by, filled, inserted, freed, released, removed, changed}
use Rattle.slots.specs.Rules.{Valid}
use Rattle.slots.specs.Laws.{Op, insert, remove, replace, step, run, Dead, DeadForGood, Gone, RetiredForGood}
use Rattle.slots.proofs.Rules.{within_from, removed_valid, step_valid, run_valid}
use Rattle.slots.proofs.Maps.{live_at, found_within, unused_slot, map_at}

-- what is true of a slot and stays so, whatever becomes of the slot next
record Lasting {T : Type 0} (P : Slot T → Type 0) : Type 0 where
  taken : (g : ℕ) (n : Option ℕ) (x : T) → P (Free g n) → P (Live g x)
  begun : (x : T) → P Unused → P (Live 0 x)
  left : (g : ℕ) (x : T) (n : Option ℕ) → P (Live g x) → P (Free (g + 1) n)
  ended : (x : T) → P (Live 4294967295 x) → P Retired
  altered : (g : ℕ) (x y : T) → P (Live g x) → P (Live g y)

-- the two ways to give a slot back
freed_both : {T : Type 0} (Q : List (Slot T) → Type 0) (st : State T) (h : Handle)
    → (h.generation ≡ 4294967295 → Q (set st.slots h.slot Retired))
    → Q (set st.slots h.slot (Free (h.generation + 1) st.header.free))
    → Q (freed st h).slots
freed_both {T} Q st h a b =
    cond_both {A = State T} (eqb h.generation 4294967295)
    (state st.header (set st.slots h.slot Retired))
    (state (header (Some h.slot) st.header.used) (set st.slots h.slot (Free (h.generation + 1) st.header.free)))
    (λ t. Q t.slots) (λ e. a (eqb-true h.generation 4294967295 e)) (λ _. b)

module _ {T : Type 0} (P : Slot T → Type 0) where
  lasts_set : (s : List (Slot T)) (j : ℕ) (y z : Slot T) (i : ℕ) → j < length s → slot_at s j ≡ y → (P y → P z)
      → P (slot_at s i) → P (slot_at (set s j z) i)
  lasts_set s j y z i w e f h =
      ⊎_elim
      (λ (q : i ≡ j). let h' = subst P (ap (slot_at s) q ∙ e) h in
      subst P (sym (ap (slot_at (set s j z)) q ∙ get_or-set_same s j z Unused w)) (f h'))
      (λ (q : i ≡ j → ⊥). rw (get_or-set_other s j i z Unused q) h)
      (cases_eq i j)

  module _ (p : Lasting P) (i : ℕ) where
    reused_lasts : (st : State T) → P (slot_at st.slots i) → (x : T) (j : ℕ) (y : Slot T) → slot_at st.slots j ≡ y
        → P (slot_at (filled st x (reused st.header j y)).0.slots i)
    reused_lasts st h x j Unused e = h
    reused_lasts st h x j (Free g n) e =
        lasts_set st.slots j (Free g n) (Live g x) i (within_from st.slots j (rw e refl)) e (p.taken g n x) h
    reused_lasts st h x j Retired e = h
    reused_lasts st h x j (Live g z) e = h

    extended_lasts : (st : State T) → Valid st → P (slot_at st.slots i) → (x : T)
        → P (slot_at (filled st x (extended st.header (length st.slots))).0.slots i)
    extended_lasts st v h x =
        let u = st.header.used in
        cond_both {A = Result Vacancy Fault} (ltb u (min (length st.slots) 4294967295))
        (Ok (vacancy (handle u 0) (header st.header.free (u + 1)))) (Err Full)
        (λ r. P (slot_at (filled st x r).0.slots i))
        (λ t. let w : u < length st.slots = grind (arith, nat_tests) in
        let q = v.unused u in
        lasts_set st.slots u Unused (Live 0 x) i w (unused_slot (slot_at st.slots u) (grind (arith, nat_tests))) (p.begun x) h)
        (λ _. h)

    placed_lasts : (st : State T) → Valid st → P (slot_at st.slots i) → (x : T) (o : Option ℕ)
        → P (slot_at (filled st x (vacant_by st o)).0.slots i)
    placed_lasts st v h x None = extended_lasts st v h x
    placed_lasts st v h x (Some j) = reused_lasts st h x j (slot_at st.slots j) refl

    released_lasts : (st : State T) → P (slot_at st.slots i) → (k : Handle) (o : Option T) → found st.slots k ≡ o
        → P (slot_at (released st k o).0.slots i)
    released_lasts st h k None e = h
    released_lasts st h k (Some z) e =
        let l = live_at st.slots k z e in
        let w = found_within st.slots k z e in
        freed_both (λ s. P (slot_at s i)) st k
        (λ m. lasts_set st.slots k.slot (Live 4294967295 z) Retired i w (l ∙ ap (λ g. Live g z) m) (p.ended z) h)
        (lasts_set st.slots k.slot (Live k.generation z) (Free (k.generation + 1) st.header.free) i w l
        (p.left k.generation z st.header.free) h)

    changed_lasts : (st : State T) → P (slot_at st.slots i) → (k : Handle) (x : T) (o : Option T) → found st.slots k ≡ o
        → P (slot_at (changed st.slots k x o).0 i)
    changed_lasts st h k x None e = h
    changed_lasts st h k x (Some z) e =
        lasts_set st.slots k.slot (Live k.generation z) (Live k.generation x) i (found_within st.slots k z e)
        (live_at st.slots k z e) (p.altered k.generation z x) h

    step_lasts : (st : State T) → Valid st → P (slot_at st.slots i) → (o : Op T) → P (slot_at (step st o).slots i)
    step_lasts st v h (insert x) = placed_lasts st v h x st.header.free
    step_lasts st v h (remove k) = released_lasts st h k (found st.slots k) refl
    step_lasts st v h (replace k x) = changed_lasts st h k x (found st.slots k) refl

    run_lasts : (st : State T) → Valid st → P (slot_at st.slots i) → (os : List (Op T)) → P (slot_at (run st os).slots i)
    run_lasts st v h [] = h
    run_lasts st v h (o ∷ os) = run_lasts (step st o) (step_valid st v o) (step_lasts st v h o) os

-- the generation that a slot has come to
abbrev age_of : {T : Type 0} → Slot T → ℕ
age_of Unused = 0
age_of (Free g n) = g
age_of Retired = 2 ^ 32
age_of (Live g x) = g

-- whether a slot has had a record at a generation
abbrev spent : {T : Type 0} → ℕ → Slot T → Bool
spent m Unused = false
spent m (Free g n) = ltb m g
spent m Retired = true
spent m (Live g x) = leb m g

module _ {T : Type 0} where
  -- a slot never goes back to an earlier generation
  older_lasts : (m : ℕ) → Lasting {T = T} (λ y. m < age_of y)
  older_lasts m = record {
    taken = λ g n x h. h;
    begun = λ x h. h;
    left = λ g x n h. omega arith;
    ended = λ x h. omega arith;
    altered = λ g x y h. h;
  }

  retired_lasts : Lasting {T = T} (λ y. y ≡ Retired)
  retired_lasts = record {
    taken = λ g n x h. absurd (grind arith);
    begun = λ x h. absurd (grind arith);
    left = λ g x n h. absurd (grind arith);
    ended = λ x h. refl;
    altered = λ g x y h. absurd (grind arith);
  }

  lost_in : (y : Slot T) (g : ℕ) → g < age_of y → record_in y g ≡ None
  lost_in Unused g l = refl
  lost_in (Free f n) g l = refl
  lost_in Retired g l = refl
  lost_in (Live f z) g l = grind (arith, nat_tests)

  -- an insert finds its record by the handle that it answers
  finds_own : (st : State T) → Valid st → (x : T) (h : Handle) → (inserted st x).1 ≡ Ok h → found (step st (insert x)).slots h ≡ Some x
  finds_own st v x h e = let q = ((map_at st v).insertion x h e).1 h in grind (arith, nat_tests)

  none_answered : (st : State T) → Valid st → (x : T) (h : Handle) → found (step st (insert x)).slots h ≡ None → (inserted st x).1 ≡ Ok h → ⊥
  none_answered st v x h n e = let q = finds_own st v x h e in grind arith

  dead : (st : State T) → Valid st → (h : Handle) → h.generation < age_of (slot_at st.slots h.slot) → Dead st h
  dead st v h o = record {
    lost = lost_in (slot_at st.slots h.slot) h.generation o;
    passed = λ x. none_answered st v x h
        (lost_in (slot_at (step st (insert x)).slots h.slot) h.generation
        (step_lasts (λ y. h.generation < age_of y) (older_lasts h.generation) h.slot st v o (insert x)));
  }

  passed_by : (st : State T) (h : Handle) (x : T) → found st.slots h ≡ Some x
      → h.generation < age_of (slot_at (removed st h).0.slots h.slot)
  passed_by st h x e =
      let w = found_within st.slots h x e in
      rw e (freed_both (λ s. h.generation < age_of (slot_at s h.slot)) st h
      (λ m. rw (get_or-set_same st.slots h.slot Retired Unused w) (omega arith))
      (rw (get_or-set_same st.slots h.slot (Free (h.generation + 1) st.header.free) Unused w) (omega arith)))

  removed_dead : (st : State T) → Valid st → (h : Handle) (x : T) → found st.slots h ≡ Some x
      → (os : List (Op T)) → Dead (run (removed st h).0 os) h
  removed_dead st v h x e os =
      let v' = removed_valid st v h in
      dead (run (removed st h).0 os) (run_valid (removed st h).0 v' os) h
      (run_lasts (λ y. h.generation < age_of y) (older_lasts h.generation) h.slot (removed st h).0 v' (passed_by st h x e) os)

  -- an insert answers a generation that the slot has not had
  spent_lasts : (m : ℕ) → Lasting {T = T} (λ y. spent m y ≡ true)
  spent_lasts m = record {
    taken = λ g n x h. grind (arith, nat_tests);
    begun = λ x h. absurd (grind arith);
    left = λ g x n h. grind (arith, nat_tests);
    ended = λ x h. refl;
    altered = λ g x y h. h;
  }

  Unspent : State T → State T × Result Handle Fault → Type 0
  Unspent st p = (h : Handle) → p.1 ≡ Ok h → spent h.generation (slot_at st.slots h.slot) ≡ false

  module _ (st : State T) (v : Valid st) (x : T) where
    unspent_at : (i g : ℕ) (d : State T) → spent g (slot_at st.slots i) ≡ false → Unspent st (d, Ok (handle i g))
    unfolding Unspent
    unspent_at i g d u h e =
        let q : handle i g ≡ h = grind arith in
        let P : Handle → Type 0 = λ k. spent k.generation (slot_at st.slots k.slot) ≡ false in subst P q u

    reused_unspent : (i : ℕ) (y : Slot T) → slot_at st.slots i ≡ y → Unspent st (filled st x (reused st.header i y))
    unfolding Unspent
    reused_unspent i Unused e = λ h o. absurd (grind arith)
    reused_unspent i (Free g n) e =
        unspent_at i g (state (header n st.header.used) (set st.slots i (Live g x))) (rw e (grind (arith, nat_tests)))
    reused_unspent i Retired e = λ h o. absurd (grind arith)
    reused_unspent i (Live g z) e = λ h o. absurd (grind arith)

    extended_unspent : Unspent st (filled st x (extended st.header (length st.slots)))
    unfolding Unspent
    extended_unspent =
        let u = st.header.used in
        let d = header st.header.free (u + 1) in
        cond_both {A = Result Vacancy Fault} (ltb u (min (length st.slots) 4294967295)) (Ok (vacancy (handle u 0) d)) (Err Full)
        (λ r. Unspent st (filled st x r))
        (λ t. let q = v.unused u in
        unspent_at u 0 (state d (set st.slots u (Live 0 x)))
        (rw (unused_slot (slot_at st.slots u) (grind (arith, nat_tests))) refl))
        (λ _ h o. absurd (grind arith))

    placed_unspent : (o : Option ℕ) → Unspent st (filled st x (vacant_by st o))
    placed_unspent None = extended_unspent
    placed_unspent (Some i) = reused_unspent i (slot_at st.slots i) refl

  answered_once : (st : State T) → Valid st → (h : Handle) (x : T) → (inserted st x).1 ≡ Ok h
      → (os : List (Op T)) (y : T) → (inserted (run (inserted st x).0 os) y).1 ≡ Ok h → ⊥
  unfolding Unspent
  answered_once st v h x e os y e' =
      let g = h.generation in
      let v' = step_valid st v (insert x) in
      let l = live_at (step st (insert x)).slots h x (finds_own st v x h e) in
      let t = run_lasts (λ z. spent g z ≡ true) (spent_lasts g) h.slot (inserted st x).0 v' (rw l (grind (arith, nat_tests))) os in
      let u = placed_unspent (run (inserted st x).0 os) (run_valid (inserted st x).0 v' os) y
      (run (inserted st x).0 os).header.free h e' in
      both_ways (spent g (slot_at (run (inserted st x).0 os).slots h.slot)) u t

  pub ends : DeadForGood T
  ends = record { dead = removed_dead; once = answered_once }

  gone : (st : State T) → Valid st → (i : ℕ) → slot_at st.slots i ≡ Retired → Gone st i
  gone st v i r = record {
    retired = r;
    passed = λ x k e q. none_answered st v x k
        (let t = step_lasts (λ y. y ≡ Retired) retired_lasts i st v r (insert x) in
        rw (q, t) refl) e;
  }

  retired_at : (st : State T) (h : Handle) (x : T) → found st.slots h ≡ Some x → h.generation ≡ 4294967295
      → slot_at (removed st h).0.slots h.slot ≡ Retired
  retired_at st h x e m = rw (e, m) (get_or-set_same st.slots h.slot Retired Unused (found_within st.slots h x e))

  pub retires : RetiredForGood T
  retires st v h x e m os =
      let v' = removed_valid st v h in
      gone (run (removed st h).0 os) (run_valid (removed st h).0 v' os) h.slot
      (run_lasts (λ y. y ≡ Retired) retired_lasts h.slot (removed st h).0 v' (retired_at st h x e m) os)
