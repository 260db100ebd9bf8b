use Rattle.std.proofs.Common.{◌≡◌, ◌≤◌, drop}
use Rattle.texts.specs.Digits.{radix_of, read_digits}
use Rattle.texts.proofs.digits.value.Given as goal

abbrev pub invariant-loop-b : goal.invariant-loop-b
invariant-loop-b l = record {
  bound : l.sum ≤ 4294967296;
  same : read_digits (radix_of l.base) l.sum (drop l.b-index l.text) ≡ read_digits (radix_of l.base) l.start l.text;
}
