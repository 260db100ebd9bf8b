use Rattle.std.proofs.Common.{rules}
use Rattle.records.proofs.Values.{same_bits}
use Rattle.records.proofs.equality.same_number.Goals as goal

pub returns : goal.returns
returns c = rw (c.f32_to_bits_with_nan.ensures, c.f32_to_bits_with_nan-2.ensures) (same_bits c.args.a c.args.b (search rules) (search rules))
