use lib.Ieee.{binary32}
use Rattle.numbers.proofs.Least.{least_is, least_falls, least_shuffled, proper_plain}
use Rattle.numbers.proofs.laws.least_is_attained_and_lowest.Goals as goal

pub returns : goal.returns
returns c = record { is = least_is; falls = least_falls; any_order = least_shuffled binary32; proper = proper_plain binary32 }
