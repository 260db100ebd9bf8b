use Rattle.std.proofs.Common.{rules, ◌∙◌, sym, ap, subst}
use Rattle.geometry.specs.declared.handle.ColliderHandle.{ColliderHandle}
use Rattle.spaces.specs.Spaces.{Written}
use Rattle.finders.specs.Tables.{table_meaning, offered}
use Rattle.finders.proofs.Fronts.{Reported, reported}
use Rattle.finders.proofs.table.TableFinder.report.Goals as goal

pub returns : goal.returns
returns g c =
    let out = c.args.out.now in
    let cs = g.O.Order.listed (table_meaning c.args.self.now.table).held c.args.aabb c.args.p in
    let e = c.offer_all.ensures.written ∙ ap (λ (w : Written ColliderHandle). offered w cs) c.new-space.ensures.nothing in
    let r = subst (Reported out cs) (sym e) (reported out cs) in
    let front = r.front in
    let rest = r.rest in
    record { count = c.count.ensures ∙ r.count; front = search rules; rest = search rules }
