-- What a flight answers. Assumes nothing.
use Rattle.std.specs.Prelude.{◌≡◌, ℕ, Bool, true, false, cond, T, ◌⊎◌, List, [], ◌∷◌, map, filter, Some, None, Ok, Err, MatchBool, Option, Result, Float}
use Rattle.std.specs.List.{filter_map}
use Rattle.numbers.specs.Constants.{one_f}
use Rattle.numbers.specs.Least.{least}
use Rattle.geometry.specs.declared.pose.Pose.{Pose}
use Rattle.geometry.specs.declared.shape_kind.ShapeKind as Kinds
use Rattle.geometry.specs.declared.shape_kind.ShapeKind.{ShapeKind}
use Rattle.geometry.specs.Poses.{InRange}
use Rattle.outcomes.specs.declared.pair_kind.PairKind.{PairKind}
use Rattle.outcomes.specs.declared.pair_kind.PairKind.TheVariants.{Solid, Pseudo}
use Rattle.outcomes.specs.declared.cast_outcome.CastOutcome.{CastOutcome}
use Rattle.outcomes.specs.Outcomes.{TurningOutcome}
use Rattle.outcomes.specs.Impacts.{turned_of}
use Rattle.hosts.specs.declared.questions.Child.{Child}
use Rattle.hosts.specs.declared.questions.Sweep.{Sweep}
use Rattle.hosts.specs.Hosts.{Answers}
use Rattle.casts.specs.declared.flight.Flight.{Flight}
use Rattle.casts.specs.declared.refusal.CastRefusal.{CastRefusal}
use Rattle.casts.specs.declared.refusal.CastRefusal.TheVariants.{NumberOutOfRange, PoseNotAdmitted, ShapeUnknown}
use Rattle.casts.specs.declared.pieces.TargetKind.{TargetKind}
use Rattle.casts.specs.declared.report.Casts.{Casts}
use Rattle.casts.specs.declared.report.Casts.TheVariants as casts
use Rattle.casts.specs.declared.report.Report.{Report}
use Rattle.casts.specs.Flights.{ranged_flight, admitted_flight, sweep_of, query_of, turning_query, checked}
use Rattle.casts.specs.Pieces.{is_proxy, is_turning, swept_by, target_kind_of, child_sweep, cast_at}
use Rattle.casts.specs.Reports.{took_of, impact_of}

-- ---- the casts

-- the cast of one piece, at the cap 1
abbrev pub piece_cast : Answers → Flight → TargetKind → ℕ → Sweep → Option CastOutcome
piece_cast h f t s w = cast_at h (query_of f s w) t f.pair one_f

-- the pieces of a fast shape, with their ways: the shape itself, or the children of a Compound that are pieces
abbrev pub child_pieces : Answers → Sweep → List Child → List (ℕ × Sweep)
child_pieces h w cs = map (λ (c : Child). (c.shape, child_sweep h w c)) (filter (λ (c : Child). is_proxy (h.kind c.shape)) cs)

abbrev pub pieces_of : Answers → ShapeKind → ℕ → Sweep → List (ℕ × Sweep)
pieces_of h Kinds.TheVariants.Proxy s w = (s, w) ∷ []
pieces_of h Kinds.TheVariants.Compound s w = child_pieces h w (h.children s)
pieces_of h Kinds.TheVariants.TriMesh s w = []
pieces_of h Kinds.TheVariants.Polyline s w = []
pieces_of h Kinds.TheVariants.HeightField s w = []
pieces_of h Kinds.TheVariants.Voxels s w = []
pieces_of h Kinds.TheVariants.Other s w = []

-- the casts of the pieces, in order
abbrev pub casts_of_pieces : Answers → Flight → TargetKind → List (ℕ × Sweep) → List (Option CastOutcome)
casts_of_pieces h f t ps = map (λ (p : ℕ × Sweep). piece_cast h f t p.0 p.1) ps

abbrev pub turning_answer : Answers → Flight → TurningOutcome
turning_answer h f = h.turning_cast (turning_query f) f.pair

-- a pair gets one turning cast of the whole where the fast shape is of the kind Other, or the target takes no casts of pieces
abbrev pub turns : ShapeKind → TargetKind → Bool
turns Kinds.TheVariants.Proxy t = is_turning t
turns Kinds.TheVariants.Compound t = is_turning t
turns Kinds.TheVariants.TriMesh t = is_turning t
turns Kinds.TheVariants.Polyline t = is_turning t
turns Kinds.TheVariants.HeightField t = is_turning t
turns Kinds.TheVariants.Voxels t = is_turning t
turns Kinds.TheVariants.Other t = true

-- the casts that a pair gets, by the kinds of both shapes
abbrev pub casts_of : Answers → Flight → ShapeKind → TargetKind → Casts
casts_of h f a t =
    cond (swept_by h f.fast a)
    (cond (turns a t) (casts.Turning (turning_answer h f)) (casts.Pieces (record { items = casts_of_pieces h f t (pieces_of h a f.fast (sweep_of f)) })))
    casts.NeverSwept

-- ---- the report

abbrev pub settled_by : Answers → Flight → PairKind → Option Float → Pose
settled_by h f Solid None = f.end
settled_by h f Solid (Some t) = h.pose_at (sweep_of f) t
settled_by h f Pseudo i = f.end

-- a solid impact stops the shape, a pseudo one does not
abbrev pub settled : Answers → Flight → Option Float → Pose
settled h f i = settled_by h f f.pair i

-- the report of casts: what the pair takes of them, and where the shape then stands
abbrev pub reported : Answers → Flight → Casts → Report
reported h f c = record { casts = c; impact = impact_of f.pair c; stands = settled h f (impact_of f.pair c) }

abbrev pub flown_by : Answers → Flight → Result (ShapeKind × ShapeKind) CastRefusal → Result Report CastRefusal
flown_by h f (Err e) = Err e
flown_by h f (Ok k) = Ok (reported h f (casts_of h f k.0 (target_kind_of k.1)))

abbrev pub flown : Answers → Flight → Result Report CastRefusal
flown h f = flown_by h f (checked h f)

-- ---- what it means

-- nothing cast, and the shape at a pose
abbrev pub empty_report : Pose → Report
empty_report e = record { casts = casts.NeverSwept; impact = None; stands = e }

-- the impacts of the pieces' casts, of those that have one
abbrev pub impacts_of : Answers → Flight → TargetKind → List (ℕ × Sweep) → List Float
impacts_of h f t ps = filter_map (took_of f.pair) (casts_of_pieces h f t ps)

-- Of casts of pieces: they are those of the pieces, in order, and the pair's impact is the least of theirs.
pub record ByPieces (h : Answers) (f : Flight) (t : TargetKind) (ps : List (ℕ × Sweep)) (r : Report) : Type 0 where
  pub all_cast : r.casts ≡ casts.Pieces (record { items = casts_of_pieces h f t ps })
  pub least_impact : r.impact ≡ least (impacts_of h f t ps)

-- Of one turning cast: the pair's impact is its time over the time unit, where that lies in the pair's range.
pub record ByTurning (h : Answers) (f : Flight) (r : Report) : Type 0 where
  pub one_cast : r.casts ≡ casts.Turning (turning_answer h f)
  pub its_impact : r.impact ≡ turned_of f.pair (turning_answer h f) one_f one_f

-- what was found of a shape that is swept
abbrev pub FoundBy : Answers → Flight → ShapeKind → TargetKind → Report → Type 0
FoundBy h f a t r = MatchBool (turns a t) (ByTurning h f r) (ByPieces h f t (pieces_of h a f.fast (sweep_of f)) r)

-- What a flight of two known shapes finds: nothing where the fast shape is never swept, else by pieces or by one turning cast. A solid impact, and nothing else, stops the shape on its way, and where it stands is in range and admitted.
pub record Found (h : Answers) (f : Flight) (a b : ShapeKind) (r : Report) : Type 0 where
  pub never_swept : swept_by h f.fast a ≡ false → r ≡ empty_report f.end
  pub swept : swept_by h f.fast a ≡ true → FoundBy h f a (target_kind_of b) r
  pub stopped : (t : Float) → f.pair ≡ Solid → r.impact ≡ Some t → r.stands ≡ h.pose_at (sweep_of f) t
  pub not_stopped : r.impact ≡ None → r.stands ≡ f.end
  pub noted_only : f.pair ≡ Pseudo → r.stands ≡ f.end
  pub in_reach : InRange r.stands × T (h.admits r.stands)

-- why a flight was refused, each only where the ones before are in order
abbrev pub Refused : Answers → Flight → CastRefusal → Type 0
Refused h f NumberOutOfRange = ranged_flight f ≡ false
Refused h f PoseNotAdmitted = (ranged_flight f ≡ true) × (admitted_flight h f ≡ false)
Refused h f ShapeUnknown = (ranged_flight f ≡ true) × (admitted_flight h f ≡ true) × ((h.kind f.fast ≡ None) ⊎ (h.kind f.target ≡ None))

abbrev pub Flown : Answers → Flight → Result Report CastRefusal → Type 0
Flown h f (Err e) = Refused h f e
Flown h f (Ok r) = (a : ShapeKind) × (b : ShapeKind) × (h.kind f.fast ≡ Some a) × (h.kind f.target ≡ Some b) × Found h f a b r
