use Rattle.std.proofs.Common.{rules}
use Rattle.pairs.specs.Pairs.{fast_of}
use Rattle.spaces.specs.Spaces.{state}
use Rattle.sweeps.specs.Env.{hall_of}
use Rattle.sweeps.specs.Sweeps.{Swept, candidate_swept}
use Rattle.sweeps.proofs.FullSpaces.{candidate_full, told}
use Rattle.sweeps.proofs.counted.handle_candidate.Goals as goal

pub returns : goal.returns
returns g c =
    let e = hall_of g.H.Host g.D.Finder g.F.Filter c.args.hall.now in
    let fast = fast_of c.args.fast.now in
    let call = c.handle_candidate-fraction in
    told (λ (s : Swept). candidate_swept e c.args.mode fast c.args.shape.now s c.args.handle) (candidate_full e c.args.mode fast c.args.shape.now c.args.handle)
    c.args.hits.now _ c.args.reached.hits c.count-opened.result c.count.result c.args.reached.fraction call.result
    (state c.after-space.result) (state call.new.hits) c.after-space.ensures.written call.ensures.value c.count-opened.ensures c.count.ensures (search rules)
