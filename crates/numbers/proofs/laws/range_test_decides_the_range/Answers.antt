use Rattle.numbers.proofs.Ranges.{in_range, ranged_within}
use Rattle.numbers.proofs.laws.range_test_decides_the_range.Goals as goal

pub returns : goal.returns
returns c = record { passed = in_range; passes = ranged_within }
