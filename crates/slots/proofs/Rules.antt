-- Each operation keeps the rules.
use Rattle.std.proofs.Common.{◌≡◌, ℕ, ◌+◌, ◌^◌, ◌<◌, min, Bool, true, false, cond, eqb, ltb, List, [], ◌∷◌, length, set, Some, None, Ok, Err, Option, Result, sym, refl, subst, ⊎_elim, arith}
use Rattle.std.proofs.lemmas.Bool.Decides.{nat_tests}
use Rattle.std.proofs.lemmas.Bool.{cases_eq, cases_lt, cond_both}
use Rattle.std.proofs.lemmas.List.{get_or_past, get_or-replicate, length-replicate, length-set, get_or-set_same, get_or-set_other}
use Rattle.slots.specs.declared.fault.Fault.{Fault}
use Rattle.slots.specs.declared.fault.Fault.TheVariants.{Full, Broken}
use Rattle.slots.specs.declared.Vacancy.{Vacancy}
use Rattle.geometry.specs.declared.handle.Handle.{Handle}
use Rattle.slots.specs.declared.Slot.{Slot}
use Rattle.slots.specs.declared.Slot.TheVariants.{Unused, Free, Retired, Live}
use Rattle.slots.specs.Store.{slot_at, State, state, header, handle, vacancy, emptied, cleared, found, record_in, freed, released, removed, changed, replaced, reused, extended, vacant_by, vacant_in, handle_of, filled, inserted}
use Rattle.slots.specs.Rules.{is_free, is_unused, aged, link, Chain, times, Valid}
use Rattle.slots.specs.Laws.{Op, insert, remove, replace, step, run, is_taken, KeptAt, RulesKept}

handle_err : (r : Result Vacancy Fault) (f : Fault) → handle_of r ≡ Err f → r ≡ Err f
handle_err (Ok p) f e = absurd (grind arith)
handle_err (Err d) f e = grind arith

module _ {T : Type 0} where
  not_free_unused : (x : Slot T) → is_unused x ≡ true → is_free x ≡ false
  not_free_unused Unused h = refl
  not_free_unused (Free g n) h = sym h
  not_free_unused Retired h = refl
  not_free_unused (Live g x) h = refl

  -- A slot is written.
  pub within_from : (s : List (Slot T)) (i : ℕ) → is_unused (slot_at s i) ≡ false → i < length s
  within_from s i h =
      ⊎_elim (λ l. l) (λ l. let e = get_or_past s i Unused l in absurd (grind arith)) (cases_lt i (length s))

  pub slot_set : (s : List (Slot T)) (i : ℕ) (y : Slot T) (k : ℕ) → i < length s → slot_at (set s i y) k ≡ cond (eqb k i) y (slot_at s k)
  slot_set s i y k h =
      ⊎_elim
      (λ e. let d = get_or-set_same s i y Unused h in grind (arith, nat_tests))
      (λ ne. let d = get_or-set_other s i k y Unused ne in grind (arith, nat_tests))
      (cases_eq k i)

  chain_set : (s : List (Slot T)) (o : Option ℕ) (is : List ℕ) (i : ℕ) (y : Slot T)
      → Chain s o is → times i is ≡ 0 → Chain (set s i y) o is
  chain_set s o [] i y c t = c
  chain_set s o (j ∷ is) i y c t =
      let ne : j ≡ i → ⊥ = λ e. absurd (grind (arith, nat_tests)) in
      let t' : times i is ≡ 0 = omega arith in
      let e = get_or-set_other s i j y Unused ne in
      (c.0, rw e c.1, rw e (chain_set s (link (slot_at s j)) is i y c.2 t'))

  module _ (st : State T) (v : Valid st) where
    unlinked : (i : ℕ) → is_free (slot_at st.slots i) ≡ false → times i v.chain ≡ 0
    unlinked i f = rw (v.once i, f) refl

    -- a slot that is not free is written, and stays so
    swapped : (i : ℕ) (y : Slot T) → is_unused (slot_at st.slots i) ≡ false → is_free (slot_at st.slots i) ≡ false
        → is_unused y ≡ false → is_free y ≡ false → aged y ≡ true → Valid (state st.header (set st.slots i y))
    swapped i y u f u' f' a =
        let w = within_from st.slots i u in
        record {
          short = rw length-set v.short;
          within = rw length-set v.within;
          unused = λ k. let e = v.unused k in rw (slot_set st.slots i y k w) (grind (arith, nat_tests));
          old = λ k. let e = v.old k in rw (slot_set st.slots i y k w) (grind (arith, nat_tests));
          chain = v.chain;
          linked = chain_set st.slots st.header.free v.chain i y v.linked (unlinked i f);
          once = λ k. let e = v.once k in rw (slot_set st.slots i y k w) (grind (arith, nat_tests));
        }

    replaced_at : (h : Handle) (x : T) (y : Slot T) → slot_at st.slots h.slot ≡ y
        → Valid (state st.header (changed st.slots h x (record_in y h.generation)).0)
    replaced_at h x Unused e = v
    replaced_at h x (Free g n) e = v
    replaced_at h x Retired e = v
    replaced_at h x (Live g z) e =
        let P : Bool → Type 0 = λ b. Valid (state st.header (changed st.slots h x (cond b (Some z) None)).0) in
        elim (eqb g h.generation) as P
        [ true ↦ swapped h.slot (Live h.generation x) (rw e refl) (rw e refl) refl refl refl | false ↦ v ]

    pub replaced_valid : (h : Handle) (x : T) → Valid (state st.header (replaced st.slots h x).0)
    replaced_valid h x = replaced_at h x (slot_at st.slots h.slot) refl

    -- a slot in use is given back
    freed_valid : (h : Handle) → is_unused (slot_at st.slots h.slot) ≡ false → is_free (slot_at st.slots h.slot) ≡ false
        → Valid (freed st h)
    freed_valid h u f =
        let w = within_from st.slots h.slot u in
        let y : Slot T = Free (h.generation + 1) st.header.free in
        let P : Bool → Type 0 = λ b. Valid (cond b (state st.header (set st.slots h.slot Retired))
        (state (header (Some h.slot) st.header.used) (set st.slots h.slot y))) in
        elim (eqb h.generation 4294967295) as P [
          | true ↦ swapped h.slot Retired u f refl refl refl
          | false ↦ record {
            short = rw length-set v.short;
            within = rw length-set v.within;
            unused = λ k. let e = v.unused k in rw (slot_set st.slots h.slot y k w) (grind (arith, nat_tests));
            old = λ k. let e = v.old k in rw (slot_set st.slots h.slot y k w) (grind (arith, nat_tests));
            chain = h.slot ∷ v.chain;
            linked = (
              refl,
              rw (slot_set st.slots h.slot y h.slot w) (grind (arith, nat_tests)),
              rw (get_or-set_same st.slots h.slot y Unused w)
                  (chain_set st.slots st.header.free v.chain h.slot y v.linked (unlinked h.slot f)),
            );
            once = λ k. let e = v.once k in let d = unlinked h.slot f in
                rw (slot_set st.slots h.slot y k w) (grind (arith, nat_tests));
          }
        ]

    removed_at : (h : Handle) (y : Slot T) → slot_at st.slots h.slot ≡ y
        → Valid (released st h (record_in y h.generation)).0
    removed_at h Unused e = v
    removed_at h (Free g n) e = v
    removed_at h Retired e = v
    removed_at h (Live g z) e =
        let P : Bool → Type 0 = λ b. Valid (released st h (cond b (Some z) None)).0 in
        elim (eqb g h.generation) as P [ true ↦ freed_valid h (rw e refl) (rw e refl) | false ↦ v ]

    pub removed_valid : (h : Handle) → Valid (removed st h).0
    removed_valid h = removed_at h (slot_at st.slots h.slot) refl

    -- the slot that was freed last is taken again
    reused_valid : (i g : ℕ) (n : Option ℕ) (x : T) → slot_at st.slots i ≡ Free g n
        → (is : List ℕ) → Chain st.slots (Some i) is → ((k : ℕ) → times k is ≡ cond (is_free (slot_at st.slots k)) 1 0)
        → Valid (state (header n st.header.used) (set st.slots i (Live g x)))
    reused_valid i g n x e [] c o = absurd (grind (arith, c))
    reused_valid i g n x e (j ∷ is) c o =
        let w = within_from st.slots i (rw e refl) in
        let d : j ≡ i = grind (arith, c.0) in
        let t : times i is ≡ 0 = let q = o i in grind (arith, nat_tests) in
        let l : Chain st.slots n is = let P : ℕ → Type 0 = λ m. Chain st.slots (link (slot_at st.slots m)) is in rw e at (subst P d c.2) in
        let y : Slot T = Live g x in
        record {
          short = rw length-set v.short;
          within = rw length-set v.within;
          unused = λ k. let q = v.unused k in rw (slot_set st.slots i y k w) (grind (arith, nat_tests));
          old = λ k. let q = v.old k in rw (slot_set st.slots i y k w) (grind (arith, nat_tests));
          chain = is;
          linked = chain_set st.slots n is i y l t;
          once = λ k. let q = o k in rw (slot_set st.slots i y k w) (grind (arith, nat_tests));
        }

    reused_at : (i : ℕ) (x : T) (y : Slot T) → slot_at st.slots i ≡ y → st.header.free ≡ Some i
        → Valid (filled st x (reused st.header i y)).0
    reused_at i x Unused e f = v
    reused_at i x (Free g n) e f = reused_valid i g n x e v.chain (rw f at v.linked) v.once
    reused_at i x Retired e f = v
    reused_at i x (Live g z) e f = v

    -- the first slot that was never used is taken
    extended_valid : (x : T) → Valid (filled st x (extended st.header (length st.slots))).0
    extended_valid x =
        let u = st.header.used in
        let y : Slot T = Live 0 x in
        cond_both {A = Result Vacancy Fault} (ltb u (min (length st.slots) 4294967295))
        (Ok (vacancy (handle u 0) (header st.header.free (u + 1)))) (Err Full)
        (λ p. Valid (filled st x p).0)
        (λ t. let w : u < length st.slots = grind (arith, nat_tests) in
        let q = v.unused u in
        let f : is_free (slot_at st.slots u) ≡ false = not_free_unused (slot_at st.slots u) (grind (arith, nat_tests)) in
        record {
          short = rw length-set v.short;
          within = rw length-set (omega arith);
          unused = λ k. let q = v.unused k in rw (slot_set st.slots u y k w) (grind (arith, nat_tests));
          old = λ k. let q = v.old k in rw (slot_set st.slots u y k w) (grind (arith, nat_tests));
          chain = v.chain;
          linked = chain_set st.slots st.header.free v.chain u y v.linked (unlinked u f);
          once = λ k. let q = v.once k in rw (slot_set st.slots u y k w) (grind (arith, nat_tests));
        })
        (λ t. v)

    placed_at : (x : T) (o : Option ℕ) → st.header.free ≡ o → Valid (filled st x (vacant_by st o)).0
    placed_at x None e = extended_valid x
    placed_at x (Some i) e = reused_at i x (slot_at st.slots i) refl e

    pub inserted_valid : (x : T) → Valid (inserted st x).0
    inserted_valid x = placed_at x st.header.free refl

    pub step_valid : (o : Op T) → Valid (step st o)
    step_valid (insert x) = inserted_valid x
    step_valid (remove h) = removed_valid h
    step_valid (replace h x) = replaced_valid h x

    -- a record is refused only for want of a slot
    reused_whole : (i : ℕ) (y : Slot T) → is_free y ≡ true → reused st.header i y ≡ Err Broken → ⊥
    reused_whole i Unused f e = grind arith
    reused_whole i (Free g n) f e = grind arith
    reused_whole i Retired f e = grind arith
    reused_whole i (Live g z) f e = grind arith

    head_free : (i : ℕ) (is : List ℕ) → Chain st.slots (Some i) is → is_free (slot_at st.slots i) ≡ true
    head_free i [] c = absurd (grind (arith, c))
    head_free i (j ∷ is) c = let d : i ≡ j = grind (arith, c.0) in rw d c.1

    extended_whole : extended st.header (length st.slots) ≡ Err Broken → ⊥
    extended_whole e = grind arith

    vacant_whole : (o : Option ℕ) → st.header.free ≡ o → vacant_by st o ≡ Err Broken → ⊥
    vacant_whole None e b = extended_whole b
    vacant_whole (Some i) e b = reused_whole i (slot_at st.slots i) (head_free i v.chain (rw e at v.linked)) b

    -- where an insert finds no slot, none is free, and all are used
    reused_full : (i : ℕ) (y : Slot T) → reused st.header i y ≡ Err Full → ⊥
    reused_full i Unused e = grind arith
    reused_full i (Free g n) e = grind arith
    reused_full i Retired e = grind arith
    reused_full i (Live g z) e = grind arith

    taken_from : (y : Slot T) → is_unused y ≡ false → is_free y ≡ false → is_taken y ≡ true
    taken_from Unused u f = absurd (grind arith)
    taken_from (Free g n) u f = absurd (grind arith)
    taken_from Retired u f = refl
    taken_from (Live g x) u f = refl

    no_chain : (is : List ℕ) → Chain st.slots None is → ((k : ℕ) → times k is ≡ cond (is_free (slot_at st.slots k)) 1 0)
        → (k : ℕ) → is_free (slot_at st.slots k) ≡ false
    no_chain [] c o k = let e = o k in grind arith
    no_chain (i ∷ is) c o k = absurd (grind (arith, c.0))

    vacant_full : (o : Option ℕ) → st.header.free ≡ o → vacant_by st o ≡ Err Full
        → (i : ℕ) → i < length st.slots → is_taken (slot_at st.slots i) ≡ true
    vacant_full None e b i l =
        let s = v.short in
        let w = v.within in
        let u : st.header.used ≡ length st.slots = grind (arith, nat_tests) in
        let q = v.unused i in
        taken_from (slot_at st.slots i) (grind (arith, nat_tests)) (no_chain v.chain (rw e at v.linked) v.once i)
    vacant_full (Some i) e b k l = absurd (reused_full i (slot_at st.slots i) b)

  -- a refusal tells that there is no vacancy
  filled_err : (st : State T) (x : T) (r : Result Vacancy Fault) (f : Fault) → (filled st x r).1 ≡ Err f → r ≡ Err f
  filled_err st x (Ok p) f e = absurd (grind arith)
  filled_err st x (Err d) f e = grind arith

  released_whole : (st : State T) (h : Handle) (o : Option T) → (released st h o).1 ≡ Err Broken → ⊥
  released_whole st h None e = grind arith
  released_whole st h (Some x) e = grind arith

  changed_whole : (s : List (Slot T)) (h : Handle) (x : T) (o : Option T) → (changed s h x o).1 ≡ Err Broken → ⊥
  changed_whole s h x None e = grind arith
  changed_whole s h x (Some y) e = grind arith

  pub run_valid : (st : State T) → Valid st → (os : List (Op T)) → Valid (run st os)
  run_valid st v [] = v
  run_valid st v (o ∷ os) = run_valid (step st o) (step_valid st v o) os

  -- a store that was just opened
  pub cleared_at : (s : List (Slot T)) (i : ℕ) → slot_at (cleared s) i ≡ Unused
  cleared_at s i =
      ⊎_elim
      (λ l. get_or-replicate (length s) i Unused Unused l)
      (λ l. get_or_past (cleared s) i Unused (rw length-replicate l))
      (cases_lt i (length s))

  opened_valid : (s : List (Slot T)) → length s < 2 ^ 32 → Valid (emptied s)
  opened_valid s l = record {
    short = rw length-replicate l;
    within = omega arith;
    unused = λ i. rw (cleared_at s i) (grind (arith, nat_tests));
    old = λ i. rw (cleared_at s i) refl;
    chain = [];
    linked = refl;
    once = λ i. rw (cleared_at s i) refl;
  }

  kept_at : (st : State T) → Valid st → KeptAt st
  kept_at st v = record {
    operation = step_valid st v;
    operations = run_valid st v;
    foretold = λ e. vacant_whole st v st.header.free refl (handle_err (vacant_in st) Broken e);
    insertion = λ x e. vacant_whole st v st.header.free refl (filled_err st x (vacant_in st) Broken e);
    removal = λ h. released_whole st h (found st.slots h);
    replacement = λ h x. changed_whole st.slots h x (found st.slots h);
    full = λ x e. vacant_full st v st.header.free refl (filled_err st x (vacant_in st) Full e);
  }

  pub kept : RulesKept T
  kept = record { opened = opened_valid; after = kept_at }
