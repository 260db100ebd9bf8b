-- The free slots are a stack.
use Rattle.std.proofs.Common.{◌≡◌, ℕ, ◌+◌, min, Bool, true, false, cond, not, ◌&&◌, eqb, ltb, List, [], ◌∷◌, ◌++◌, map, reverse, length, drop, set, is_some, Some, None, Ok, Err, Option, Result, sym, refl, ap, ◌∙◌, subst, arith}
use Rattle.std.proofs.lemmas.Bool.Decides.{nat_tests}
use Rattle.std.proofs.lemmas.Bool.{cond_both}
use Rattle.std.proofs.lemmas.List.{get_or-set_same, get_or-set_other, append_assoc, map-append, reverse-append, length-map, length-reverse}
use Rattle.geometry.specs.declared.handle.Handle.{Handle}
use Rattle.slots.specs.declared.fault.Fault.{Fault}
use Rattle.slots.specs.declared.fault.Fault.TheVariants.{Full}
use Rattle.slots.specs.declared.Vacancy.{Vacancy}
use Rattle.slots.specs.declared.Slot.{Slot}
use Rattle.slots.specs.declared.Slot.TheVariants.{Unused, Free, Retired, Live}
use Rattle.slots.specs.Store.{slot_at, found, State, state, header, handle, vacancy, filled, inserted, released, changed}
use Rattle.slots.specs.Rules.{is_free, Chain, times, Valid}
use Rattle.slots.specs.Laws.{Op, insert, remove, replace, step, run, renewed, Links, Stack, top, restacked, stack_after, Freeable, answered, LastInFirstOut}
use Rattle.slots.proofs.Chains.{chain_once, chain_most}
use Rattle.slots.proofs.Maps.{live_at, found_within}

abbrev slots_of : List Handle → List ℕ
slots_of ks = map (λ (k : Handle). k.slot) ks

ok_renewed : (hs : List Handle) → map {B = Result Handle Fault} Ok (map renewed hs) ≡ map (λ h. Ok (renewed h)) hs
ok_renewed [] = refl
ok_renewed (h ∷ hs) = ap (λ rs. Ok (renewed h) ∷ rs) (ok_renewed hs)

module _ {T : Type 0} where
  -- the stack is the chain of the rules, with the generations
  links_chain : (s : List (Slot T)) (o : Option ℕ) (ks : List Handle) → Links s o ks → Chain s o (slots_of ks)
  links_chain s o [] c = c
  links_chain s o (k ∷ ks) c = (c.1, rw c.2 refl, rw c.2 (links_chain s c.0 ks c.3))

  free_slot : (y : Slot T) → is_free y ≡ true → (g : ℕ) × (n : Option ℕ) × (y ≡ Free g n)
  free_slot Unused f = absurd (grind arith)
  free_slot (Free g n) f = (g, n, refl)
  free_slot Retired f = absurd (grind arith)
  free_slot (Live g x) f = absurd (grind arith)

  chain_links : (s : List (Slot T)) (o : Option ℕ) (is : List ℕ) → Chain s o is → (ks : List Handle) × Links s o ks
  chain_links s o [] c = ([], c)
  chain_links s o (i ∷ is) c =
      let (g, n, e) = free_slot (slot_at s i) c.1 in
      let (ks, l) = chain_links s n is (rw e at c.2) in (handle i g ∷ ks, (n, c.0, e, l))

  links_same : (s : List (Slot T)) (o : Option ℕ) (ks ls : List Handle) → Links s o ks → Links s o ls → ks ≡ ls
  links_same s o [] [] c d = refl
  links_same s o [] (l ∷ ls) c d = absurd (grind (arith, c, d.1))
  links_same s o (k ∷ ks) [] c d = absurd (grind (arith, c.1, d))
  links_same s o (k ∷ ks) (l ∷ ls) c d =
      let e : k.slot ≡ l.slot = grind (arith, c.1, d.1) in
      let f : ◌≡◌ {A = Slot T} (Free k.generation c.0) (Free l.generation d.0) = sym c.2 ∙ ap (slot_at s) e ∙ d.2 in
      let a : k.generation ≡ l.generation = cc in
      let b : c.0 ≡ d.0 = cc in
      let r = links_same s c.0 ks ls c.3 (rw (← b) at d.3) in
      let q : k ≡ l = ap (λ i. handle i k.generation) e ∙ ap (handle l.slot) a in cc

  -- a slot that the links do not pass is written
  links_set : (s : List (Slot T)) (o : Option ℕ) (ks : List Handle) (i : ℕ) (y : Slot T)
      → Links s o ks → times i (slots_of ks) ≡ 0 → Links (set s i y) o ks
  links_set s o [] i y c t = c
  links_set s o (k ∷ ks) i y c t =
      let ne : k.slot ≡ i → ⊥ = λ e. absurd (grind (arith, nat_tests)) in
      let t' : times i (slots_of ks) ≡ 0 = omega arith in
      (c.0, c.1, rw (get_or-set_other s i k.slot y Unused ne) c.2, links_set s c.0 ks i y c.3 t')

  links_past : (s : List (Slot T)) (o : Option ℕ) (ks : List Handle) (i : ℕ) (y : Slot T)
      → Links s o ks → is_free (slot_at s i) ≡ false → Links (set s i y) o ks
  links_past s o ks i y c f =
      let m = chain_most s o (slots_of ks) i (links_chain s o ks c) in links_set s o ks i y c (grind arith)

  top_once : (s : List (Slot T)) (o : Option ℕ) (k : Handle) (ks : List Handle) → Links s o (k ∷ ks) → times k.slot (slots_of ks) ≡ 0
  top_once s o k ks c =
      let m = chain_once s o (slots_of (k ∷ ks)) k.slot (links_chain s o (k ∷ ks) c) in grind (arith, nat_tests)

  not_free : (s : List (Slot T)) (h : Handle) (x : T) → found s h ≡ Some x → is_free (slot_at s h.slot) ≡ false
  not_free s h x e = rw (live_at s h x e) refl

  popped : (st : State T) (k : Handle) (ks : List Handle) → Stack st (k ∷ ks) → (x : T)
      → ((inserted st x).1 ≡ Ok k) × Stack (inserted st x).0 ks
  popped st k ks c x =
      rw (c.1, c.2) (
        refl,
        links_set st.slots c.0 ks k.slot (Live k.generation x) c.3 (top_once st.slots st.header.free k ks c),
      )

  -- an insert
  answers : (st : State T) → Valid st → (ks : List Handle) → Stack st ks → (x : T) → (inserted st x).1 ≡ top st ks
  answers st v [] c x =
      let q = v.short in
      let m : min (length st.slots) 4294967295 ≡ length st.slots = omega arith in
      rw (c, m) (
      elim (ltb st.header.used (length st.slots)) as (λ b.
      (filled (state (header None st.header.used) st.slots) x (cond b (Ok (vacancy (handle st.header.used 0) (header None (st.header.used + 1)))) (Err Full))).1
      ≡ cond b (Ok (handle st.header.used 0)) (Err Full))
      [ true ↦ refl | false ↦ refl ])
  answers st v (k ∷ ks) c x = (popped st k ks c x).0

  inserted_stack : (st : State T) (ks : List Handle) → Stack st ks → (x : T) → Stack (inserted st x).0 (drop 1 ks)
  inserted_stack st [] c x =
      rw c (
      cond_both {A = Result Vacancy Fault} (ltb st.header.used (min (length st.slots) 4294967295))
      (Ok (vacancy (handle st.header.used 0) (header None (st.header.used + 1)))) (Err Full)
      (λ r. (filled (state (header None st.header.used) st.slots) x r).0.header.free ≡ None) (λ _. refl) (λ _. refl))
  inserted_stack st (k ∷ ks) c x = (popped st k ks c x).1

  module _ (st : State T) (ks : List Handle) (c : Stack st ks) where
    removed_stack : (h : Handle) (o : Option T) → found st.slots h ≡ o
        → Stack (released st h o).0 (cond (is_some o && not (eqb h.generation 4294967295)) (renewed h ∷ ks) ks)
    removed_stack h None e = c
    removed_stack h (Some x) e =
        let y : Slot T = Free (h.generation + 1) st.header.free in
        let f = not_free st.slots h x e in
        let P : Bool → Type 0 = λ b. Stack (cond b (state st.header (set st.slots h.slot Retired))
        (state (header (Some h.slot) st.header.used) (set st.slots h.slot y))) (cond (not b) (renewed h ∷ ks) ks) in
        elim (eqb h.generation 4294967295) as P [
          | true ↦ links_past st.slots st.header.free ks h.slot Retired c f
          | false ↦ (
            st.header.free,
            refl,
            get_or-set_same st.slots h.slot y Unused (found_within st.slots h x e),
            links_past st.slots st.header.free ks h.slot y c f,
          )
        ]

    replaced_stack : (h : Handle) (x : T) (o : Option T) → found st.slots h ≡ o
        → Links (changed st.slots h x o).0 st.header.free ks
    replaced_stack h x None e = c
    replaced_stack h x (Some z) e =
        links_past st.slots st.header.free ks h.slot (Live h.generation x) c (not_free st.slots h z e)

    step_stack : (o : Op T) → Stack (step st o) (restacked st ks o)
    step_stack (insert x) = inserted_stack st ks c x
    step_stack (remove h) = removed_stack h (found st.slots h) refl
    step_stack (replace h x) = replaced_stack h x (found st.slots h) refl

  -- sequences
  run_stack : (st : State T) (ks : List Handle) → Stack st ks → (os : List (Op T)) → Stack (run st os) (stack_after st ks os)
  run_stack st ks c [] = c
  run_stack st ks c (o ∷ os) = run_stack (step st o) (restacked st ks o) (step_stack st ks c o) os

  removals : (st : State T) (hs ks : List Handle) → Freeable st hs → Stack st ks
      → Stack (run st (map remove hs)) (map renewed (reverse hs) ++ ks)
  removals st [] ks f c = c
  removals st (h ∷ hs) ks f c =
      let l = f.0 in
      let d : eqb h.generation 4294967295 ≡ false = let g = f.1 in grind (arith, nat_tests) in
      let r = removals (step st (remove h)) hs (renewed h ∷ ks) f.2 (rw (l, d) at (step_stack st ks c (remove h))) in
      let a : map renewed (reverse hs) ++ renewed h ∷ ks ≡ map renewed (reverse (h ∷ hs)) ++ ks
      = sym (ap (λ js. map renewed js ++ ks) (reverse-append (h ∷ []) hs)
      ∙ ap (λ js. js ++ ks) (map-append renewed (reverse hs) (h ∷ []))
      ∙ append_assoc (map renewed (reverse hs)) (renewed h ∷ []) ks) in
      let P : List Handle → Type 0 = λ js. Stack (run st (map remove (h ∷ hs))) js in subst P a r

  insertions : (st : State T) (ks ls : List Handle) (xs : List T) → Stack st (ks ++ ls) → length xs ≡ length ks
      → answered st xs ≡ map Ok ks
  insertions st [] ls [] c l = refl
  insertions st [] ls (x ∷ xs) c l = absurd (omega arith)
  insertions st (k ∷ ks) ls [] c l = absurd (omega arith)
  insertions st (k ∷ ks) ls (x ∷ xs) c l =
      let p = popped st k (ks ++ ls) c x in
      let a = p.0 in
      let r = insertions (inserted st x).0 ks ls xs p.1 (omega arith) in cc

  reversed : (st : State T) → Valid st → (hs : List Handle) → Freeable st hs → (xs : List T) → length xs ≡ length hs
      → answered (run st (map remove hs)) xs ≡ map (λ h. Ok (renewed h)) (reverse hs)
  reversed st v hs f xs l =
      let (ks, c) = chain_links st.slots st.header.free v.chain v.linked in
      let m = length-map (reverse hs) renewed in
      let n = length-reverse hs in
      insertions (run st (map remove hs)) (map renewed (reverse hs)) ks xs (removals st hs ks f c) (omega arith)
      ∙ ok_renewed (reverse hs)

  pub stacks : LastInFirstOut T
  stacks = record {
    stack = λ st v. chain_links st.slots st.header.free v.chain v.linked;
    alone = λ st. links_same st.slots st.header.free;
    answers = answers;
    after = λ st v. run_stack st;
    reversed = reversed;
  }
