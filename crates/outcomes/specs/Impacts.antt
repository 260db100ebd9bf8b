-- What a pair takes of a cast at a cap, and the cap law. Assumes nothing.
use Rattle.std.specs.Prelude.{◌≡◌, Bool, true, cond, not, ◌&&◌, T, Some, None, Option, Ok, Err, ◌==◌, is_nan, Float}
use Rattle.std.specs.Float.Ieee.{div, eq, lt, le, fits}
use Rattle.std.specs.Float.Ieee.Scale.{finite}
use Rattle.std.specs.Float.{is_sign_negative, binary32}
use Rattle.numbers.specs.Constants.{zero_f, one_f}
use Rattle.numbers.specs.Reals.{is_zero}
use Rattle.outcomes.specs.declared.pair_kind.PairKind.{PairKind}
use Rattle.outcomes.specs.declared.pair_kind.PairKind.TheVariants.{Solid, Pseudo}
use Rattle.outcomes.specs.declared.cast_outcome.CastOutcome.{CastOutcome}
use Rattle.outcomes.specs.Outcomes.{TurningOutcome, status_number, fraction_of}

-- a value of single precision that is neither NaN nor minus zero
abbrev pub clean : Float → Bool
clean f = fits binary32 f && (not (is_nan f) && not (is_sign_negative f && is_zero f))

-- what a cap may be: from 0 to 1, and clean
abbrev pub Cap : Float → Type 0
Cap c = T (le zero_f c) × T (le c one_f) × T (clean c)

-- a fraction strictly between 0 and the cap
abbrev pub strictly : Float → Float → Option Float
strictly f c = cond (lt zero_f f && lt f c) (Some f) None

-- a fraction of at most the cap
abbrev pub upto : Float → Float → Option Float
upto f c = cond (le f c) (Some f) None

-- ---- proxy and composite casts

-- a solid pair takes a fraction strictly between 0 and the cap, whatever the status
abbrev pub solid_of : CastOutcome → Float → Option Float
solid_of o c = strictly (fraction_of o) c

-- a pseudo pair takes a fraction of at most the cap, unless the status is Separated
abbrev pub pseudo_of : CastOutcome → Float → Option Float
pseudo_of o c = cond (status_number o == 3) None (upto (fraction_of o) c)

abbrev pub taken_of : PairKind → CastOutcome → Float → Option Float
taken_of Solid o c = solid_of o c
taken_of Pseudo o c = pseudo_of o c

-- the same, where a cast may answer nothing
abbrev pub solid_at : Option CastOutcome → Float → Option Float
solid_at None c = None
solid_at (Some o) c = solid_of o c

abbrev pub pseudo_at : Option CastOutcome → Float → Option Float
pseudo_at None c = None
pseudo_at (Some o) c = pseudo_of o c

-- the solid and the pseudo impact of a cast, which is known by its answer at each cap: what is taken at the cap 1
abbrev pub solid_impact : (Float → Option CastOutcome) → Option Float
solid_impact cast = solid_at (cast one_f) one_f

abbrev pub pseudo_impact : (Float → Option CastOutcome) → Option Float
pseudo_impact cast = pseudo_at (cast one_f) one_f

-- ---- turning casts

-- the time as a fraction of dt; none where dt is 0, of either sign
abbrev pub quotient : TurningOutcome → Float → Option Float
quotient (Ok (Some t)) dt = cond (eq dt zero_f) None (Some (div binary32 t dt))
quotient (Ok None) dt = None
quotient (Err u) dt = None

abbrev pub taken_at : PairKind → Float → Float → Option Float
taken_at Solid f c = strictly f c
taken_at Pseudo f c = upto f c

abbrev pub taken_if : PairKind → Option Float → Float → Option Float
taken_if p None c = None
taken_if p (Some f) c = taken_at p f c

-- what a pair takes of a turning cast at a cap; its impact is what it takes at the cap 1
abbrev pub turned_of : PairKind → TurningOutcome → Float → Float → Option Float
turned_of p o dt c = taken_if p (quotient o dt) c

-- ---- the cap law

-- an impact that lies below the cap, or at most at the cap
abbrev pub below : Option Float → Float → Option Float
below None c = None
below (Some s) c = cond (lt s c) (Some s) None

abbrev pub at_most : Option Float → Float → Option Float
at_most None c = None
at_most (Some p) c = cond (le p c) (Some p) None

-- what is left of an impact under a cap
abbrev pub under : PairKind → Option Float → Float → Option Float
under Solid i c = below i c
under Pseudo i c = at_most i c

-- At each cap, what a solid pair takes is the solid impact if that lies below the cap, and nothing otherwise.
pub record SolidLaw (cast : Float → Option CastOutcome) : Type 0 where
  pub capped : (c : Float) → Cap c → solid_at (cast c) c ≡ below (solid_impact cast) c

-- At each cap, what a pseudo pair takes is the pseudo impact if that is at most the cap, and nothing otherwise. It is not below 0.
pub record PseudoLaw (cast : Float → Option CastOutcome) : Type 0 where
  pub capped : (c : Float) → Cap c → pseudo_at (cast c) c ≡ at_most (pseudo_impact cast) c
  pub from_zero : (p : Float) → pseudo_impact cast ≡ Some p → T (le zero_f p)

-- No fraction is NaN or minus zero.
pub record CleanLaw (cast : Float → Option CastOutcome) : Type 0 where
  pub fraction : (c : Float) → Cap c → (o : CastOutcome) → cast c ≡ Some o → T (clean (fraction_of o))

-- a time is finite, and plain 0 or above
abbrev pub Timed : Float → Type 0
Timed t = T (finite t) × T (clean t) × T (le zero_f t)

-- The cap law of a turning cast that lasts dt: what is taken at a cap is what is left of the impact, no impact is NaN, minus zero or below 0, and none is there where dt is 0.
pub record TurningLaw (o : TurningOutcome) (dt : Float) : Type 0 where
  pub capped : (p : PairKind) (c : Float) → Cap c → turned_of p o dt c ≡ under p (turned_of p o dt one_f) c
  pub impact : (p : PairKind) (i : Float) → T (finite dt) → T (le zero_f dt) → turned_of p o dt one_f ≡ Some i → T (clean i) × T (le zero_f i)
  pub still : (p : PairKind) (c : Float) → eq dt zero_f ≡ true → turned_of p o dt c ≡ None

-- every answer whose time, if it has one, is finite and plain 0 or above keeps it
abbrev pub TurnsUnderCaps : Type 0
TurnsUnderCaps = (o : TurningOutcome) (dt : Float) → ((t : Float) → o ≡ Ok (Some t) → Timed t) → TurningLaw o dt
