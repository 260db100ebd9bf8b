use lib.Ieee.{binary32}
use Rattle.numbers.proofs.Quotient as Q
use Rattle.numbers.proofs.laws.quotients_keep_sign_and_order.Goals as goal

pub returns : goal.returns
returns c = record {
  number = Q.div_number binary32;
  sign = Q.div_sign binary32;
  above = Q.div_above binary32;
  below = Q.div_below binary32;
  mono = Q.div_mono binary32;
  to_one = Q.div_unit binary32;
  below_one = Q.div_proper binary32;
}
