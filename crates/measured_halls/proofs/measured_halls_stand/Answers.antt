use Rattle.std.proofs.Common.{refl}
use lib.Ieee.{of_bits, fits, neg, add, sub, mul, div, lt, le, eq, is_nan, to_bits}
use Rattle.std.specs.Float.{is_sign_negative}
use Rattle.measured_halls.proofs.measured_halls_stand.Goals as goal

pub returns : goal.returns
unfolding of_bits fits neg add sub mul div lt le eq is_nan to_bits is_sign_negative
returns c = record {
  all_halls = (
    record { whole = refl; over_list = refl; over_finder = refl },
    (
      record { whole = refl; over_list = refl; over_finder = refl },
      (
        record { whole = refl; over_list = refl; over_finder = refl },
        (
          record { whole = refl; over_list = refl; over_finder = refl },
          (
            record { whole = refl; over_list = refl; over_finder = refl },
            (
              record { whole = refl; over_list = refl; over_finder = refl },
              (
                record { whole = refl; over_list = refl; over_finder = refl },
                (
                  record { whole = refl; over_list = refl; over_finder = refl },
                  (
                    record { whole = refl; over_list = refl; over_finder = refl },
                    (
                      record { whole = refl; over_list = refl; over_finder = refl },
                      (
                        record { whole = refl; over_list = refl; over_finder = refl },
                        (
                          record { whole = refl; over_list = refl; over_finder = refl },
                          (record { whole = refl; over_list = refl; over_finder = refl }, tt),
                        ),
                      ),
                    ),
                  ),
                ),
              ),
            ),
          ),
        ),
      ),
    ),
  );
  at_one = refl;
  at_zero = refl;
  at_least = refl;
}
