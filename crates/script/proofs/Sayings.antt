-- Lines and what they say, by evaluation. Assumes nothing.
use Rattle.std.proofs.Common.{refl}
use lib.Ieee.{of_bits, of_int, div, neg, is_nan}
use Rattle.script.specs.Laws.{Sayings}

pub sayings : Sayings
unfolding of_bits of_int div neg is_nan
sayings = record {
  empty = refl;
  comment = refl;
  hall = refl;
  hall_unnamed = refl;
  hall_of_two_words = refl;
  host = refl;
  cuboid = refl;
  two_sides = refl;
  worse_than_two_sides = refl;
  no_children_lem = refl;
  no_child = refl;
  no_shape = refl;
  no_pose = refl;
  seventeen = refl;
  no_kind = refl;
  row = refl;
  largest_shape = refl;
  no_larger_shape = refl;
  cast = refl;
  not_yet = refl;
  unknown = refl;
}
