-- What a test of every live record decides. Assumes nothing.
use Rattle.std.proofs.Common.{◌≡◌, ℕ, zero, suc, ◌+◌, ◌^◌, ◌<◌, Bool, true, ◌&&◌, List, [], ◌∷◌, length, Some, Decides, refl, ap, arith}
use Rattle.std.proofs.lemmas.Bool.{and_parts, and_from, eq-eqb}
use Rattle.std.specs.List.{list_all}
use Rattle.geometry.specs.declared.handle.Handle.{Handle}
use Rattle.slots.specs.declared.Slot.{Slot}
use Rattle.slots.specs.declared.Slot.TheVariants.{Unused, Free, Retired, Live}
use Rattle.slots.specs.Store.{handle, slot_at, found}
use Rattle.slots.specs.Records.{records_from}
use Rattle.slots.proofs.Maps.{live_at}
use Rattle.slots.proofs.Whole.{records_whole}
use Rattle.rules.specs.Scans.{every_live, every_record}

-- a live slot is found by its own handle
pub found_at : {T : Type 0} (ss : List (Slot T)) (i g : ℕ) (x : T) → slot_at ss i ≡ Live g x → found ss (handle i g) ≡ Some x
found_at ss i g x e = rw (e, eq-eqb g g refl) refl

module _ {T : Type 0} (f : Handle → T → Bool) where
  -- of the slots from number i on
  abbrev passed : ℕ → List (Slot T) → Bool
  passed i ss = list_all (λ r. f r.0 r.1) (records_from i ss)

  later : (i : ℕ) (s : Slot T) (ss : List (Slot T)) → passed i (s ∷ ss) ≡ true → passed (i + 1) ss ≡ true
  later i Unused ss h = h
  later i (Free g n) ss h = h
  later i Retired ss h = h
  later i (Live g x) ss h = (and_parts (f (handle i g) x) (passed (i + 1) ss) h).1

  first : (i : ℕ) (s : Slot T) (ss : List (Slot T)) (g : ℕ) (x : T) → passed i (s ∷ ss) ≡ true → s ≡ Live g x → f (handle i g) x ≡ true
  first i s ss g x h e = (and_parts (f (handle i g) x) (passed (i + 1) ss) (rw e at h)).0

  each_at : (i : ℕ) (ss : List (Slot T)) → passed i ss ≡ true → (k g : ℕ) (x : T) → slot_at ss k ≡ Live g x → f (handle (i + k) g) x ≡ true
  each_at i [] h zero g x e = absurd (grind arith)
  each_at i [] h (suc k) g x e = absurd (grind arith)
  each_at i (s ∷ ss) h zero g x e = let z : i + 0 ≡ i = omega arith in rw z (first i s ss g x h e)
  each_at i (s ∷ ss) h (suc k) g x e =
      let z : i + suc k ≡ i + 1 + k = omega arith in rw z (each_at (i + 1) ss (later i s ss h) k g x e)

  joined : (i : ℕ) (s : Slot T) (ss : List (Slot T)) → ((g : ℕ) (x : T) → s ≡ Live g x → f (handle i g) x ≡ true) → passed (i + 1) ss ≡ true → passed i (s ∷ ss) ≡ true
  joined i Unused ss k h = h
  joined i (Free g n) ss k h = h
  joined i Retired ss k h = h
  joined i (Live g x) ss k h = and_from (f (handle i g) x) (passed (i + 1) ss) (k g x refl) h

  each_from : (i : ℕ) (ss : List (Slot T)) → ((k g : ℕ) (x : T) → slot_at ss k ≡ Live g x → f (handle (i + k) g) x ≡ true) → passed i ss ≡ true
  each_from i [] h = refl
  each_from i (s ∷ ss) h =
      joined i s ss (λ g x e. let z : i + 0 ≡ i = omega arith in rw z at (h 0 g x e))
      (each_from (i + 1) ss (λ k g x e. let z : i + 1 + k ≡ i + suc k = omega arith in rw z (h (suc k) g x e)))

  -- in the words of handles
  passed_decides : (ss : List (Slot T)) → Decides (passed 0 ss) ((h : Handle) (x : T) → found ss h ≡ Some x → f h x ≡ true)
  passed_decides ss = (
    λ e h x m. let z : 0 + h.slot ≡ h.slot = omega arith in rw z at (each_at 0 ss e h.slot h.generation x (live_at ss h x m)),
    λ k. each_from 0 ss (λ i g x e. let z : 0 + i ≡ i = omega arith in rw z (k (handle i g) x (found_at ss i g x e))),
  )

  pub every_decides : (ss : List (Slot T)) → length ss < 2 ^ 32 → Decides (every_live f ss) ((h : Handle) (x : T) → found ss h ≡ Some x → f h x ≡ true)
  every_decides ss l = rw (records_whole ss l) (passed_decides ss)

module _ {T : Type 0} (f : T → Bool) where
  -- the handles do not matter
  every_record_lem : (i : ℕ) (ss : List (Slot T)) → every_record f ss ≡ passed (λ h x. f x) i ss
  every_record_lem i [] = refl
  every_record_lem i (Unused ∷ ss) = every_record_lem (i + 1) ss
  every_record_lem i (Free g n ∷ ss) = every_record_lem (i + 1) ss
  every_record_lem i (Retired ∷ ss) = every_record_lem (i + 1) ss
  every_record_lem i (Live g x ∷ ss) = ap (λ (b : Bool). f x && b) (every_record_lem (i + 1) ss)

  pub records_decide : (ss : List (Slot T)) → Decides (every_record f ss) ((h : Handle) (x : T) → found ss h ≡ Some x → f x ≡ true)
  records_decide ss = rw (every_record_lem 0 ss) (passed_decides (λ h x. f x) ss)
