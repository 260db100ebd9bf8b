use Rattle.std.proofs.Common.{refl}
use lib.Ieee.{of_bits, fits, neg, add, sub, mul, div, lt, le, eq}
use Rattle.std.specs.Float.{is_sign_negative}
use Rattle.measured.proofs.measured_casts_stand.Goals as goal

pub returns : goal.returns
unfolding of_bits fits neg add sub mul div lt le eq is_sign_negative
returns c = record {
  casts = (
    record { answers = refl; stops = refl; crosses = refl },
    (
      record { answers = refl; stops = refl; crosses = refl },
      (
        record { answers = refl; stops = refl; crosses = refl },
        (
          record { answers = refl; stops = refl; crosses = refl },
          (
            record { answers = refl; stops = refl; crosses = refl },
            (record { answers = refl; stops = refl; crosses = refl }, tt),
          ),
        ),
      ),
    ),
  );
  clamped = refl;
  nearer_last = refl;
  nearer_first = refl;
  groups_agree = (refl, (refl, (refl, (refl, tt))));
}
