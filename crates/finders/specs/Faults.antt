-- The texts of refusals. Assumes nothing.
use Rattle.std.specs.Prelude.{ℕ, List, codes}
use Rattle.finders.specs.declared.finder_fault.FinderFault.{FinderFault}
use Rattle.finders.specs.declared.finder_fault.FinderFault.TheVariants.{PastTheLastSlot, Full}

abbrev pub fault_text : FinderFault → List ℕ
fault_text PastTheLastSlot = codes "the finder has no such slot"
fault_text Full = codes "the finder is full"
