-- The laws of a host. Assumes nothing.
use Rattle.std.specs.Prelude.{◌≡◌, ℕ, ◌≤◌, T, length, Some, Ok, Float}
use Rattle.std.specs.Float.{binary32}
use Rattle.std.specs.Float.Ieee.{fits, lt}
use Rattle.std.specs.List.{AllByRecursion}
use Rattle.numbers.specs.Constants.{zero_f, one_f}
use Rattle.geometry.specs.declared.pose.Pose.{Pose}
use Rattle.geometry.specs.declared.shape_kind.ShapeKind.{ShapeKind}
use Rattle.geometry.specs.declared.shape_kind.ShapeKind.TheVariants.{Compound}
use Rattle.geometry.specs.Poses.{InRange}
use Rattle.geometry.specs.Boxes.{FiniteBox}
use Rattle.outcomes.specs.declared.pair_kind.PairKind.{PairKind}
use Rattle.outcomes.specs.declared.pair_kind.PairKind.TheVariants.{Solid, Pseudo}
use Rattle.outcomes.specs.Impacts.{SolidLaw, PseudoLaw, CleanLaw, TurningLaw, Timed}
use Rattle.hosts.specs.declared.questions.Child.{Child}
use Rattle.hosts.specs.declared.questions.Sweep.{Sweep}
use Rattle.hosts.specs.declared.questions.CastQuery.{CastQuery}
use Rattle.hosts.specs.declared.questions.TurningQuery.{TurningQuery}
use Rattle.hosts.specs.Hosts.{Answers}

-- a fraction strictly inside a sweep
abbrev pub Inner : Float → Type 0
Inner t = T (fits binary32 t) × T (lt zero_f t) × T (lt t one_f)

-- both ends of a sweep are in range and admitted
pub record SweepAdmitted (h : Answers) (w : Sweep) : Type 0 where
  pub start_range : InRange w.start
  pub end_range : InRange w.end
  pub start_admitted : T (h.admits w.start)
  pub end_admitted : T (h.admits w.end)

-- a child of a Compound stands at a pose in range, and is a known shape that is no Compound
pub record SoundChild (h : Answers) (c : Child) : Type 0 where
  pub range : InRange c.pose
  pub kind : ShapeKind
  pub known : h.kind c.shape ≡ Some kind
  pub simple : kind ≡ Compound → ⊥

pub record Lawful (h : Answers) : Type 0 where
  -- the cap law of proxy and composite casts, and no fraction NaN or minus zero
  pub proxy_solid : (q : CastQuery) → SolidLaw (λ c. Some (h.proxy_cast q c))
  pub proxy_pseudo : (q : CastQuery) → PseudoLaw (λ c. Some (h.proxy_cast q c))
  pub proxy_clean : (q : CastQuery) → CleanLaw (λ c. Some (h.proxy_cast q c))
  pub composite_solid : (q : CastQuery) → SolidLaw (λ c. h.composite_cast q Solid c)
  pub composite_pseudo : (q : CastQuery) → PseudoLaw (λ c. h.composite_cast q Pseudo c)
  pub composite_clean : (q : CastQuery) (p : PairKind) → CleanLaw (λ c. h.composite_cast q p c)
  -- a turning cast's time is finite, and plain 0 or above; the cap law follows
  pub times : (q : TurningQuery) (p : PairKind) (t : Float) → h.turning_cast q p ≡ Ok (Some t) → Timed t
  pub turning : (q : TurningQuery) (p : PairKind) → TurningLaw (h.turning_cast q p) q.dt
  -- a Compound has 1 to 16 children, each of them sound, and what has children is a Compound
  pub few : (s : ℕ) → h.kind s ≡ Some Compound → (1 ≤ length (h.children s)) × (length (h.children s) ≤ 16)
  pub children : (s : ℕ) → AllByRecursion (SoundChild h) (h.children s)
  pub childless : (s : ℕ) → 1 ≤ length (h.children s) → h.kind s ≡ Some Compound
  -- the box of a known shape at an admitted pose is finite, and that of a child at the product with its pose
  pub boxes : (s : ℕ) (k : ShapeKind) (p : Pose) → h.kind s ≡ Some k → T (h.admits p) → FiniteBox (h.aabb s p)
  pub child_boxes : (s : ℕ) (p : Pose) → T (h.admits p) → AllByRecursion (λ c. FiniteBox (h.aabb c.shape (h.product p c.pose))) (h.children s)
  -- a pose strictly inside a sweep is in range and admitted if both ends are, and its products with a pose in range are admitted if those of both ends are
  pub inside : (w : Sweep) (t : Float) → Inner t → SweepAdmitted h w → InRange (h.pose_at w t) × T (h.admits (h.pose_at w t))
  pub inside_products : (w : Sweep) (t : Float) (r : Pose) → Inner t → SweepAdmitted h w → InRange r → T (h.admits (h.product w.start r)) → T (h.admits (h.product w.end r)) → T (h.admits (h.product (h.pose_at w t) r))
