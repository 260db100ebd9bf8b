use Rattle.std.proofs.lemmas.Bool.{eqb-true}
use Rattle.finders.specs.Tables.{table_meaning}
use Rattle.finders.proofs.Slots.{takes_all}
use Rattle.finders.proofs.laws.a_leaf_table_takes_each_slot_below_its_capacity.Goals as goal

pub returns : goal.returns
returns c l = takes_all (table_meaning c.args.table.now.table) c.args.collider (eqb-true _ _ c.args.table.now.allowed) l
