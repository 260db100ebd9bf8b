-- One step of the walk along the links.
use Rattle.std.proofs.Common.{◌≡◌, ℕ, suc, ◌+◌, ◌-◌, ◌<◌, false, cond, List, Some, Option, refl, arith}
use Rattle.std.specs.Option.{option_map_or}
use Rattle.slots.specs.declared.Slot.{Slot}
use Rattle.slots.specs.declared.Slot.TheVariants.{Unused, Free, Retired, Live}
use Rattle.slots.specs.Store.{slot_at}
use Rattle.slots.specs.Rules.{is_free, link, free_link, walks}

module _ {T : Type 0} (s : List (Slot T)) where
  walks_by : (x : Slot T) (n : ℕ) (r : Option (Option ℕ)) → r ≡ free_link x
      → cond (is_free x) (walks s (link x) n) false ≡ option_map_or (λ m. walks s m n) r false
  walks_by Unused n r e = rw e refl
  walks_by (Free g m) n r e = rw e refl
  walks_by Retired n r e = rw e refl
  walks_by (Live g x) n r e = rw e refl

  -- a walk ends at a slot that is not free, and goes on from a free one
  pub walks_step : (o : Option ℕ) (i turn count : ℕ) (r : Option (Option ℕ)) → o ≡ Some i → r ≡ free_link (slot_at s i) → turn < count
      → walks s o (count - turn) ≡ option_map_or (λ m. walks s m (count - (turn + 1))) r false
  walks_step o i turn count r is e more =
      let n = count - (turn + 1) in
      let d : count - turn ≡ suc n = omega arith in
      rw (is, d) (walks_by (slot_at s i) n r e)
