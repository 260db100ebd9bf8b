-- Words that are one of a few. Assumes nothing.
use Rattle.std.specs.Prelude.{ℕ, Bool, true, false, cond, List, Some, None, Ok, Err, codes, Option, Result, Float}
use Rattle.std.specs.Str.{bytes_eq}
use Rattle.geometry.specs.declared.shape_kind.ShapeKind.{ShapeKind}
use Rattle.geometry.specs.declared.shape_kind.ShapeKind.TheVariants.{Proxy, Compound, TriMesh, Polyline, HeightField, Voxels, Other}
use Rattle.outcomes.specs.declared.cast_outcome.CastOutcome.{CastOutcome}
use Rattle.outcomes.specs.declared.cast_outcome.CastOutcome.TheVariants.{Hit, Failed, Overlapped, Separated}
use Rattle.outcomes.specs.declared.pair_kind.PairKind.{PairKind}
use Rattle.outcomes.specs.declared.pair_kind.PairKind.TheVariants.{Solid, Pseudo}
use Rattle.texts.specs.declared.trouble.Trouble.{Trouble}
use Rattle.texts.specs.declared.trouble.Trouble.TheVariants.{NotAKind, NotAStatus, NotAHost, NotAPair, NotAnOverlap}
use Rattle.texts.specs.Reals.{number_of}
use Rattle.texts.specs.Places.{and_then}
use Rattle.script.specs.declared.command.HostChoice.{HostChoice}
use Rattle.script.specs.declared.command.HostChoice.TheVariants.{Slide, Recorded}

abbrev pub host_of : List ℕ → Result HostChoice Trouble
host_of w =
    cond (bytes_eq w (codes "slide")) (Ok Slide)
    (cond (bytes_eq w (codes "recorded")) (Ok Recorded) (Err NotAHost))

abbrev pub kind_of : List ℕ → Result ShapeKind Trouble
kind_of w =
    cond (bytes_eq w (codes "proxy")) (Ok Proxy)
    (cond (bytes_eq w (codes "compound")) (Ok Compound)
    (cond (bytes_eq w (codes "trimesh")) (Ok TriMesh)
    (cond (bytes_eq w (codes "polyline")) (Ok Polyline)
    (cond (bytes_eq w (codes "heightfield")) (Ok HeightField)
    (cond (bytes_eq w (codes "voxels")) (Ok Voxels)
    (cond (bytes_eq w (codes "other")) (Ok Other) (Err NotAKind)))))))

-- how a cast ended, of which the fraction is told after it
abbrev pub status_of : List ℕ → Result (Float → CastOutcome) Trouble
status_of w =
    cond (bytes_eq w (codes "hit")) (Ok Hit)
    (cond (bytes_eq w (codes "failed")) (Ok Failed)
    (cond (bytes_eq w (codes "overlapped")) (Ok Overlapped)
    (cond (bytes_eq w (codes "separated")) (Ok Separated) (Err NotAStatus))))

-- a turning time, or none
abbrev pub time_of : List ℕ → Result (Option Float) Trouble
time_of w = cond (bytes_eq w (codes "-")) (Ok None) (and_then (number_of w) (λ x. Ok (Some x)))

abbrev pub overlap_of : List ℕ → Result (Option Bool) Trouble
overlap_of w =
    cond (bytes_eq w (codes "yes")) (Ok (Some true))
    (cond (bytes_eq w (codes "no")) (Ok (Some false))
    (cond (bytes_eq w (codes "-")) (Ok None) (Err NotAnOverlap)))

abbrev pub pair_of : List ℕ → Result PairKind Trouble
pair_of w =
    cond (bytes_eq w (codes "solid")) (Ok Solid)
    (cond (bytes_eq w (codes "pseudo")) (Ok Pseudo) (Err NotAPair))
