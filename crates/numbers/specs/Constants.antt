-- The constants of the rules, by their bits, as the code has them. Assumes nothing.
use Rattle.std.specs.Prelude.{from_bits, Float}
use Rattle.std.specs.Float.{binary32}

abbrev pub zero_f : Float
zero_f = from_bits binary32 0

abbrev pub one_f : Float
one_f = from_bits binary32 0x3f80_0000

-- a million, the size up to which a number that is handed in goes
abbrev pub million : Float
million = from_bits binary32 0x4974_2400

-- four million, the size up to which the hosts delivered admit a place
abbrev pub reach_f : Float
reach_f = from_bits binary32 0x4a74_2400
