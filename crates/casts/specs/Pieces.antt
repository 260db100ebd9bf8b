-- Which shapes are swept, in which pieces, and which cast a target takes. Assumes nothing.
use Rattle.std.specs.Prelude.{ℕ, Bool, true, false, List, Some, None, Option, Float}
use Rattle.std.specs.List.{list_any}
use Rattle.geometry.specs.declared.shape_kind.ShapeKind as Kinds
use Rattle.geometry.specs.declared.shape_kind.ShapeKind.{ShapeKind}
use Rattle.outcomes.specs.declared.pair_kind.PairKind.{PairKind}
use Rattle.outcomes.specs.declared.cast_outcome.CastOutcome.{CastOutcome}
use Rattle.hosts.specs.declared.questions.Child.{Child}
use Rattle.hosts.specs.declared.questions.Sweep.{Sweep}
use Rattle.hosts.specs.declared.questions.CastQuery.{CastQuery}
use Rattle.hosts.specs.Hosts.{Answers}
use Rattle.casts.specs.declared.pieces.TargetKind.{TargetKind}
use Rattle.casts.specs.declared.pieces.TargetKind.TheVariants.{Proxy, Composite, Turning}

-- a known shape that is one piece
abbrev pub is_proxy : Option ShapeKind → Bool
is_proxy (Some Kinds.TheVariants.Proxy) = true
is_proxy _ = false

-- some child is a piece
abbrev pub has_proxy : Answers → List Child → Bool
has_proxy h cs = list_any (λ c. is_proxy (h.kind c.shape)) cs

-- swept as the moving shape: a piece, a Compound with a piece, or what only a turning cast can judge
abbrev pub swept_by : Answers → ℕ → ShapeKind → Bool
swept_by h s Kinds.TheVariants.Proxy = true
swept_by h s Kinds.TheVariants.Compound = has_proxy h (h.children s)
swept_by h s Kinds.TheVariants.TriMesh = false
swept_by h s Kinds.TheVariants.Polyline = false
swept_by h s Kinds.TheVariants.HeightField = false
swept_by h s Kinds.TheVariants.Voxels = false
swept_by h s Kinds.TheVariants.Other = true

abbrev pub target_kind_of : ShapeKind → TargetKind
target_kind_of Kinds.TheVariants.Proxy = Proxy
target_kind_of Kinds.TheVariants.Compound = Composite
target_kind_of Kinds.TheVariants.TriMesh = Composite
target_kind_of Kinds.TheVariants.Polyline = Composite
target_kind_of Kinds.TheVariants.HeightField = Composite
target_kind_of Kinds.TheVariants.Voxels = Turning
target_kind_of Kinds.TheVariants.Other = Turning

abbrev pub is_turning : TargetKind → Bool
is_turning Proxy = false
is_turning Composite = false
is_turning Turning = true

-- the way of a child: both ends times its pose, and the centre as seen from it
abbrev pub child_sweep : Answers → Sweep → Child → Sweep
child_sweep h w c = record { start = h.product w.start c.pose; end = h.product w.end c.pose; centre = h.inverse_point c.pose w.centre }

-- the cast of one piece at a cap
abbrev pub cast_at : Answers → CastQuery → TargetKind → PairKind → Float → Option CastOutcome
cast_at h q Proxy p c = Some (h.proxy_cast q c)
cast_at h q Composite p c = h.composite_cast q p c
cast_at h q Turning p c = None
