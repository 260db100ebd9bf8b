use lib.Ieee.{binary32}
use Rattle.std.specs.Float.Order.{le_refl, le_trans, lt_of_lt_of_le, lt_of_le_of_lt}
use Rattle.numbers.proofs.Order.{le_or_lt, not_both}
use Rattle.numbers.proofs.Units.{same_of_test, test_of_same, antisym}
use Rattle.numbers.proofs.laws.order_is_total.Goals as goal

pub returns : goal.returns
returns c = record { refl = le_refl; chain = le_trans; chain_left = lt_of_lt_of_le; chain_right = lt_of_le_of_lt; total = le_or_lt; apart = not_both; test = same_of_test; tested = test_of_same; one_value = antisym binary32 }
