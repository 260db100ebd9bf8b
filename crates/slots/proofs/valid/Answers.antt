use Rattle.std.proofs.Common.{rules}
use Rattle.slots.specs.Store.{state}
use Rattle.slots.proofs.Decided.{decided}
use Rattle.slots.proofs.valid.Goals as goal

pub returns-then-laid_out-clause-decides : goal.returns-then-laid_out-clause-decides
returns-then-laid_out-clause-decides g c = decided (state c.args.header.now c.args.slots.now) _ (search rules)

pub returns-else-laid_out-clause-decides : goal.returns-else-laid_out-clause-decides
returns-else-laid_out-clause-decides g c = decided (state c.args.header.now c.args.slots.now) _ (search rules)
