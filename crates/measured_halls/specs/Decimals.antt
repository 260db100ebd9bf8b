-- The numbers of the measured halls, by their bits: x4·5 is 4.5. Assumes nothing.
use Rattle.std.specs.Prelude.{ℕ, from_bits, Float}
use Rattle.std.specs.Float.{binary32}

abbrev bits : ℕ → Float
bits n = from_bits binary32 n

-- the least number above 0, 2^-149
abbrev pub least : Float
least = bits 1

abbrev pub x0·1875 : Float
x0·1875 = bits 0x3e40_0000

abbrev pub x0·25 : Float
x0·25 = bits 0x3e80_0000

abbrev pub x0·4375 : Float
x0·4375 = bits 0x3ee0_0000

abbrev pub x0·5625 : Float
x0·5625 = bits 0x3f10_0000

abbrev pub x1 : Float
x1 = bits 0x3f80_0000

abbrev pub x1·5 : Float
x1·5 = bits 0x3fc0_0000

abbrev pub x2 : Float
x2 = bits 0x4000_0000

abbrev pub x2·5 : Float
x2·5 = bits 0x4020_0000

abbrev pub x3·25 : Float
x3·25 = bits 0x4050_0000

abbrev pub x3·5 : Float
x3·5 = bits 0x4060_0000

abbrev pub x4 : Float
x4 = bits 0x4080_0000

abbrev pub x4·5 : Float
x4·5 = bits 0x4090_0000

abbrev pub x7 : Float
x7 = bits 0x40e0_0000

abbrev pub x8 : Float
x8 = bits 0x4100_0000

abbrev pub x9 : Float
x9 = bits 0x4110_0000

abbrev pub x10 : Float
x10 = bits 0x4120_0000

abbrev pub minus_6 : Float
minus_6 = bits 0xc0c0_0000
