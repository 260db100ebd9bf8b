use Rattle.std.proofs.Common.{rules, arith}
use Rattle.short_lists.proofs.Blanks.{one_written}
use Rattle.short_lists.proofs.ShortList.push.Goals as goal

pub invariant_of-self : goal.invariant_of-self
invariant_of-self g c = search (rules, arith, one_written)
