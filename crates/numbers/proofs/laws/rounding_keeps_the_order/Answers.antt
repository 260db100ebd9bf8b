use lib.Ieee.{binary32}
use Rattle.numbers.proofs.Arithmetic as A
use Rattle.numbers.proofs.Rounding.{neg_anti, neg_neg}
use Rattle.numbers.proofs.laws.rounding_keeps_the_order.Goals as goal

pub returns : goal.returns
returns c = record {
  add_number = A.add_number binary32;
  sub_number = A.sub_number binary32;
  mul_number = A.mul_number binary32;
  add_mono = A.add_mono binary32;
  sub_mono = A.sub_mono binary32;
  sub_anti = A.sub_anti binary32;
  mul_mono = A.mul_mono binary32;
  mul_anti = A.mul_anti binary32;
  add_zero = A.add_zero binary32;
  mul_one = A.mul_one_same binary32;
  neg_anti = neg_anti;
  neg_neg = neg_neg;
  sub_positive = A.sub_positive binary32;
  sub_negative = A.sub_negative binary32;
}
