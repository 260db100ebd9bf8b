use Rattle.std.proofs.Common.{sym, ◌∙◌}
use Rattle.slots.proofs.Steps.{walks_step}
use Rattle.slots.proofs.linked.Goals as goal

pub returns-in_default-link_of : goal.returns-in_default-link_of
returns-in_default-link_of g c =
    let e = walks_step c.args.slots.now _ _ _ _ c.link_of.result c.in-Some.is c.link_of.ensures c.loop-turn-test.true in
    sym (rw c.in_default-link_of.is at e) ∙ c.loop-turn.invariant

pub loop-turn-preserved : goal.loop-turn-preserved
loop-turn-preserved g c =
    let e = walks_step c.args.slots.now _ _ _ _ c.link_of.result c.in-Some.is c.link_of.ensures c.loop-turn-test.true in
    sym (rw c.in-Some-link_of.is at e) ∙ c.loop-turn.invariant
