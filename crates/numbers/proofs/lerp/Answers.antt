-- `lerp` is `along`, whose laws are proved in `Coordinates`.
use Rattle.std.proofs.Common.{◌≡◌, true, refl, rules}
use lib.Ieee.{fits, binary32}
use Rattle.numbers.proofs.Coordinates.{coordinate, fractional, interpolation}
use Rattle.numbers.proofs.lerp.Goals as goal

pub returns : goal.returns
returns c =
    let s : fits binary32 c.args.s ≡ true = search rules in
    let e : fits binary32 c.args.e ≡ true = search rules in
    let f : fits binary32 c.args.f ≡ true = search rules in
    let t = c.args.f in
    record {
      value = refl;
      law = λ S E F.
          let R = fractional t f F in
          let laws = interpolation c.args.s c.args.e (coordinate c.args.s s S) (coordinate c.args.e e E) S E in
          record {
            stays_finite = laws.stays_finite t R F;
            within = λ h. laws.keeps_within t R F.0 h;
            ahead = λ o h. laws.inside_ahead t R F.0 h o;
            behind = λ o h. laws.inside_behind t R F.0 h o;
          };
    }
