use Rattle.std.proofs.Common.{None, ap, ◌∙◌, take}
use Rattle.finders.specs.Finders.{Held, Meaning}
use Rattle.finders.proofs.Slots.{take_blanks}
use Rattle.finders.proofs.slot_table.SlotTable.new.Goals as goal

pub returns : goal.returns
returns c =
    let say : Held → Meaning = λ h. record { capacity = c.args.limit; held = h } in
    ap say (c.truncate.ensures.items ∙ ap (take c.args.slots) c.from-entries.ensures.0 ∙ take_blanks c.args.slots 1024 None)
