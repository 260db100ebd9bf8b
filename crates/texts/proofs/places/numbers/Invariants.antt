use Rattle.std.proofs.Common.{◌≡◌, ◌≤◌, length, drop}
use Rattle.texts.specs.Cuts.{parts_of}
use Rattle.texts.specs.Places.{kept_of}
use Rattle.texts.proofs.PartSteps.{kept_after}
use Rattle.texts.proofs.places.numbers.Given as goal

abbrev pub invariant-loop-part : goal.invariant-loop-part
invariant-loop-part l = record {
  few : length l.numbers.items ≤ 8;
  same : kept_after l.numbers.items (drop (length l.yielded) (parts_of 44 l.word)) ≡ kept_of (parts_of 44 l.word);
}
