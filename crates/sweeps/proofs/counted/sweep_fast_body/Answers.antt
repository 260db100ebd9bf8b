use Rattle.std.proofs.Common.{rules, length}
use Rattle.spaces.specs.Spaces.{state}
use Rattle.records.specs.Lists.{listed}
use Rattle.sweeps.specs.Env.{hall_of}
use Rattle.sweeps.specs.Sweeps.{Swept, body_swept}
use Rattle.sweeps.proofs.FullSpaces.{body_full, told}
use Rattle.sweeps.proofs.counted.sweep_fast_body.Goals as goal

pub returns : goal.returns
returns g c =
    let e = hall_of g.H.Host g.D.Finder g.F.Filter c.args.hall.now in
    let room = length c.args.candidates.now in
    let body = c.args.body.now in
    let ks = listed body.colliders in
    let call = c.run-fraction in
    told (λ (s : Swept). body_swept e room c.args.mode c.args.owner body s ks) (body_full e room c.args.mode c.args.owner body ks)
    c.args.hits.now _ c.args.start.hits c.count-opened.result c.count.result c.args.start.fraction call.result
    (state c.after-space.result) (state call.new.hits) c.after-space.ensures.written call.ensures.value c.count-opened.ensures c.count.ensures (search rules)
