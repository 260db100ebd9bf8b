-- The laws of what is set. Assumes nothing.
use Rattle.std.proofs.Common.{◌≡◌, ◌<◌, true, length, Some, inl, inr, arith}
use Rattle.std.proofs.lemmas.Grind.{common_steps}
use Rattle.std.proofs.lemmas.List.{set-set}
use Rattle.std.proofs.lemmas.Bool.{cases_Bool}
use Rattle.geometry.specs.declared.handle.ColliderHandle.{ColliderHandle}
use Rattle.geometry.specs.declared.aabb.Aabb.{Aabb}
use Rattle.finders.specs.declared.entry.Entry.{Entry}
use Rattle.finders.specs.Finders.{Meaning, slot_of, entry_of, takes, put_at, set_in}
use Rattle.finders.specs.FinderLaws.{SettingLaws}

takes_again : (m : Meaning) (c : ColliderHandle) (e : Entry) → slot_of c < length m.held → takes (put_at m (slot_of c) (Some e)) c ≡ true
takes_again m c e l = grind (arith, common_steps)

set_twice : (m : Meaning) (c : ColliderHandle) (a b : Aabb) → set_in (set_in m c a).0 c b ≡ set_in m c b
set_twice m c a b =
    elim (cases_Bool (takes m c)) [
      | inl t ↦ grind (arith, set-set, takes_again m c (entry_of c a))
      | inr f ↦ grind arith
    ]

pub setting_laws : SettingLaws
setting_laws = record {
  held = λ m c b e. grind (arith, common_steps);
  replaced = λ m c d b e s n. grind (arith, common_steps);
  others = λ m c d b n. grind (arith, common_steps);
  refused = λ m c b e. grind (arith, common_steps);
  past = λ m c b e. grind (arith, common_steps);
  full = λ m c b e. grind (arith, common_steps);
  twice = set_twice;
  capacity = λ m c b. grind (arith, common_steps);
  slots = λ m c b. grind (arith, common_steps);
  within = λ m c b l. grind (arith, common_steps);
}
