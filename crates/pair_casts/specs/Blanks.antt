-- What stands in the places of a list of pieces that are not used. Assumes nothing.
use Rattle.geometry.specs.Vectors.{origin}
use Rattle.geometry.specs.Poses.{placed}
use Rattle.pair_casts.specs.declared.fast_shape.FastSubShape.{FastSubShape}

abbrev pub no_piece : FastSubShape
no_piece = record { shape = 0; sweep = record { start = placed origin; end = placed origin; centre = origin } }
