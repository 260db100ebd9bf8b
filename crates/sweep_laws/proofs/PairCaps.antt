-- The cap law of a pair, and when a shape is swept. Assumes nothing.
use Rattle.std.proofs.Common.{◌≡◌, ℕ, Bool, true, false, cond, not, T, eqb, List, [], ◌∷◌, map, length, Some, None, Option, sym, refl, ap, ◌∙◌, subst}
use lib.Ieee.{Float, lt, le}
use Rattle.std.proofs.lemmas.Simd.{map-map}
use Rattle.std.proofs.lemmas.Bool.{both_ways}
use Rattle.numbers.specs.Constants.{one_f}
use Rattle.geometry.specs.declared.shape_kind.ShapeKind as Kinds
use Rattle.geometry.specs.declared.shape_kind.ShapeKind.{ShapeKind}
use Rattle.outcomes.specs.declared.pair_kind.PairKind.{PairKind}
use Rattle.outcomes.specs.declared.pair_kind.PairKind.TheVariants.{Solid, Pseudo}
use Rattle.hosts.specs.declared.questions.Motion.{Motion}
use Rattle.hosts.specs.declared.questions.Sweep.{Sweep}
use Rattle.hosts.specs.Hosts.{Answers}
use Rattle.hosts.specs.HostLaws.{Lawful as LawfulHost}
use Rattle.records.specs.declared.rigid_body.RigidBody.{RigidBody}
use Rattle.records.specs.declared.collider.ColliderParent.{ColliderParent}
use Rattle.search.specs.Searches.{accepted, sought, least_of}
use Rattle.search.proofs.Impacts.{least_present}
use Rattle.search.proofs.Finds.{composed}
use Rattle.casts.specs.declared.pieces.TargetKind.{TargetKind}
use Rattle.casts.specs.Pieces.{has_proxy, swept_by, target_kind_of, is_turning}
use Rattle.casts.specs.Singles.{turns, child_pieces, pieces_of}
use Rattle.pair_casts.specs.declared.fast_shape.FastShape.{FastShape}
use Rattle.pair_casts.specs.declared.fast_shape.FastShapeKind.{FastShapeKind}
use Rattle.pair_casts.specs.declared.fast_shape.FastShapeKind.TheVariants.{Convex, Compound, Nonlinear}
use Rattle.pair_casts.specs.declared.fast_shape.FastSubShape.{FastSubShape}
use Rattle.pair_casts.specs.declared.target.Target.{Target}
use Rattle.pair_casts.specs.FastShapes.{sub_shape, pieces, compound_of, kind_of, motion_of, shape_by, fast_shape}
use Rattle.pair_casts.specs.PairCasts.{sub_shape_taken, turning_taken, taken_by, taken_at}
use Rattle.sweeps.specs.Env.{Env}
use Rattle.sweeps.specs.Sweeps.{sweep_of, way_of}
use Rattle.sweep_laws.specs.Fractions.{is_fraction, fractions}
use Rattle.sweep_laws.specs.Situations.{Situation, situation, Lasts}
use Rattle.sweep_laws.specs.Pairs.{Pair, pseudo, target_in, impacts_by, impacts_at, impact_of}
use Rattle.sweep_laws.specs.SweepLaws.{pair_of}
use Rattle.sweep_laws.proofs.PairFacts.{test_for, PairFacts}
use Rattle.sweep_laws.proofs.OneCasts.{test_of, accepts, Marked, piece_impact, piece_marked, piece_capped, turning_impact, turning_capped, turning_marked}
use Rattle.sweep_laws.proofs.Tables.{piece_of, pieces_all, pieces_none}

-- ---- a shape is swept exactly if its kind says so

-- what is swept is swept in some way
shape_is : (s : ℕ) (m : Motion) (z : Option FastShapeKind) (q : FastShape) → shape_by s m z ≡ Some q
    → (y : FastShapeKind) × (z ≡ Some y) × (q ≡ record { shape = s; kind = y; motion = m })
shape_is s m None q e = cc
shape_is s m (Some y) q e = (y, refl, cc)

-- and the host knows it
shape_known : (h : Answers) (s : ℕ) (w : Sweep) (m : Motion) (a : Option ShapeKind) (q : FastShape) → shape_by s m (kind_of h s w a) ≡ Some q
    → (k : ShapeKind) × (a ≡ Some k)
shape_known h s w m None q e = cc
shape_known h s w m (Some k) q e = (k, refl)

module _ (ps : List FastSubShape) (p : Bool) (e : eqb (length ps) 0 ≡ not p) where
  abbrev compound : FastShapeKind
  compound = Compound (record { items = ps })

  -- a Compound is swept if some child is a piece
  some_pieces : p ≡ true → (y : FastShapeKind) × (compound_of ps ≡ Some y)
  some_pieces i = (compound, ap (λ (b : Bool). cond b None (Some compound)) (e ∙ ap not i))

  -- and only then
  pieces_some : (y : FastShapeKind) → compound_of ps ≡ Some y → (p ≡ true) × (compound ≡ y)
  pieces_some y k = by p (ap (λ (b : Bool). cond b None (Some compound)) (sym e) ∙ k)
    where
      by : (b : Bool) → ◌≡◌ {A = Option FastShapeKind} (cond (not b) None (Some compound)) (Some y) → (b ≡ true) × (compound ≡ y)
      by true i = (refl, cc)
      by false i = cc

module _ (h : Answers) (L : LawfulHost h) (s : ℕ) (w : Sweep) where
  -- a Compound has no piece exactly if no child is one
  none_there : h.kind s ≡ Some Kinds.TheVariants.Compound → eqb (length (pieces h w (h.children s))) 0 ≡ not (has_proxy h (h.children s))
  none_there e = pieces_none h w (h.children s) (L.few s e).1

  -- a shape of a kind that is swept is swept in some way
  kind_swept : (a : ShapeKind) → h.kind s ≡ Some a → swept_by h s a ≡ true → (y : FastShapeKind) × (kind_of h s w (Some a) ≡ Some y)
  kind_swept Kinds.TheVariants.Proxy e t = (Convex (sub_shape s w), refl)
  kind_swept Kinds.TheVariants.Compound e t = some_pieces (pieces h w (h.children s)) (has_proxy h (h.children s)) (none_there e) t
  kind_swept Kinds.TheVariants.TriMesh e t = absurd (both_ways false refl t)
  kind_swept Kinds.TheVariants.Polyline e t = absurd (both_ways false refl t)
  kind_swept Kinds.TheVariants.HeightField e t = absurd (both_ways false refl t)
  kind_swept Kinds.TheVariants.Voxels e t = absurd (both_ways false refl t)
  kind_swept Kinds.TheVariants.Other e t = (Nonlinear, refl)

  -- and what is swept is of a kind that is swept
  swept_kind : (a : ShapeKind) → h.kind s ≡ Some a → (y : FastShapeKind) → kind_of h s w (Some a) ≡ Some y → swept_by h s a ≡ true
  swept_kind Kinds.TheVariants.Proxy e y k = refl
  swept_kind Kinds.TheVariants.Compound e y k = (pieces_some (pieces h w (h.children s)) (has_proxy h (h.children s)) (none_there e) y k).0
  swept_kind Kinds.TheVariants.TriMesh e y k = cc
  swept_kind Kinds.TheVariants.Polyline e y k = cc
  swept_kind Kinds.TheVariants.HeightField e y k = cc
  swept_kind Kinds.TheVariants.Voxels e y k = cc
  swept_kind Kinds.TheVariants.Other e y k = refl

  module _ (m : Motion) where
    shape_swept_lem : (a : ShapeKind) → h.kind s ≡ Some a → swept_by h s a ≡ true → (q : FastShape) × (shape_by s m (kind_of h s w (h.kind s)) ≡ Some q)
    shape_swept_lem a e t =
        let y = kind_swept a e t in
        (record { shape = s; kind = y.0; motion = m }, ap (λ (x : Option ShapeKind). shape_by s m (kind_of h s w x)) e ∙ ap (shape_by s m) y.1)

    swept_shape : (q : FastShape) → shape_by s m (kind_of h s w (h.kind s)) ≡ Some q → (a : ShapeKind) × (h.kind s ≡ Some a) × (swept_by h s a ≡ true)
    swept_shape q e =
        let a = shape_known h s w m (h.kind s) q e in
        let y = shape_is s m (kind_of h s w (h.kind s)) q e in
        (a.0, a.1, swept_kind a.0 a.1 y.0 (sym (ap (kind_of h s w) a.1) ∙ y.1))

-- ---- the impacts of a pair

-- the least of one impact is that impact
least_one : (x : Option Float) → least_of le (x ∷ []) ≡ x
least_one None = refl
least_one (Some m) = refl

-- the least of impacts is an impact of a pair if each of them is
least_marked : {Q : Type 0} (p : PairKind) (impact : Q → Option Float) → ((q : Q) (m : Float) → impact q ≡ Some m → Marked p m)
    → (qs : List Q) (m : Float) → least_of le (map impact qs) ≡ Some m → Marked p m
least_marked p impact marks qs m e =
    let g = (least_present fractions impact (λ q n i. (marks q n i).0) qs m e).0 in
    marks g.0 m g.2

module _ (s : Situation) (L : LawfulHost s.host) (b : RigidBody) (x : Pair) where
  abbrev aim : Target
  aim = target_in s x

  module _ (w : Sweep) where
    abbrev way : Motion
    way = motion_of w b.linvel b.angvel

    abbrev turning : Option Float
    turning = turning_impact s.host s.step aim x.part.shape way

    abbrev impact_at : TargetKind → ℕ × Sweep → Option Float
    impact_at k q = piece_impact s.host s.step aim k (piece_of q)

    -- ---- each of them is a fraction that the test accepts at the cap 1

    module _ (l : Lasts s.step) where
      -- of one turning cast, or of all pieces
      either_marked : (t : Bool) (k : TargetKind) (ps : List (ℕ × Sweep)) (m : Float) → least_of le (cond t (turning ∷ []) (map (impact_at k) ps)) ≡ Some m → Marked aim.pair m
      either_marked true k ps m e = turning_marked s.host L s.step aim x.part.shape way l m (sym (least_one turning) ∙ e)
      either_marked false k ps m e = least_marked aim.pair (impact_at k) (λ q n i. piece_marked s.host L s.step aim k (piece_of q) n i) ps m e

      by_marked : (a k : Option ShapeKind) (m : Float) → least_of le (impacts_by s b x w a k) ≡ Some m → Marked aim.pair m
      by_marked None k m e = cc
      by_marked (Some a) None m e = cc
      by_marked (Some a) (Some k) m e = either_marked (turns a (target_kind_of k)) (target_kind_of k) (pieces_of s.host a x.part.shape w) m e

    -- ---- the cap law

    module _ (c : Float) (d : T (is_fraction c)) where
      abbrev left : List (Option Float) → Option Float
      left is = accepted (test_of aim.pair) (least_of le is) c

      abbrev turns_taken : Option Float
      turns_taken = turning_taken s.host s.step aim x.part.shape way c

      -- of the turning cast, of one piece, and of all pieces what is taken is what is left of the least impact
      turning_left : turns_taken ≡ left (turning ∷ [])
      turning_left =
          turning_capped s.host L s.step aim x.part.shape way c d
          ∙ sym (ap (λ (i : Option Float). accepted (test_of aim.pair) i c) (least_one turning))

      one_left : (k : TargetKind) (q : ℕ × Sweep) → sub_shape_taken s.host s.step aim k (piece_of q) c ≡ left (impact_at k q ∷ [])
      one_left k q =
          (piece_capped s.host L s.step aim k).capped (piece_of q) c d
          ∙ sym (ap (λ (i : Option Float). accepted (test_of aim.pair) i c) (least_one (impact_at k q)))

      all_left : (k : TargetKind) (ps : List (ℕ × Sweep)) → sought (sub_shape_taken s.host s.step aim k) c None (map piece_of ps) ≡ left (map (impact_at k) ps)
      all_left k ps =
          composed fractions (test_of aim.pair) (sub_shape_taken s.host s.step aim k) (piece_impact s.host s.step aim k) (accepts aim.pair)
          (piece_capped s.host L s.step aim k) (map piece_of ps) c d
          ∙ ap left (map-map (piece_impact s.host s.step aim k) piece_of ps)

      either_left : (t : Bool) (y : Option Float) (is : List (Option Float)) → y ≡ left is → cond t turns_taken y ≡ left (cond t (turning ∷ []) is)
      either_left true y is e = turning_left
      either_left false y is e = e

      abbrev shape_in : FastShapeKind → FastShape
      shape_in y = record { shape = x.part.shape; kind = y; motion = way }

      -- by the kinds of both shapes
      kinds_left : (a : ShapeKind) → s.host.kind x.part.shape ≡ Some a → (y : FastShapeKind) → kind_of s.host x.part.shape w (Some a) ≡ Some y → (k : ShapeKind)
          → taken_by s.host s.step aim (shape_in y) (target_kind_of k) y c ≡ left (impacts_by s b x w (Some a) (Some k))
      kinds_left Kinds.TheVariants.Proxy e y i k =
          let same : Convex (sub_shape x.part.shape w) ≡ y = cc in
          let t = target_kind_of k in
          subst (λ (v : FastShapeKind). taken_by s.host s.step aim (shape_in v) t v c ≡ left (impacts_by s b x w (Some Kinds.TheVariants.Proxy) (Some k))) same
          (either_left (is_turning t) (sub_shape_taken s.host s.step aim t (sub_shape x.part.shape w) c) (impact_at t (x.part.shape, w) ∷ []) (one_left t (x.part.shape, w)))
      kinds_left Kinds.TheVariants.Compound e y i k =
          let h = s.host in
          let cs = h.children x.part.shape in
          let same = (pieces_some (pieces h w cs) (has_proxy h cs) (none_there h L x.part.shape w e) y i).1 in
          let t = target_kind_of k in
          let ask = sub_shape_taken h s.step aim t in
          let qs = pieces h w cs in
          let held = pieces_all h w cs (L.few x.part.shape e).1 in
          subst (λ (v : FastShapeKind). taken_by h s.step aim (shape_in v) t v c ≡ left (impacts_by s b x w (Some Kinds.TheVariants.Compound) (Some k))) same
          (either_left (is_turning t) (sought ask c None qs) (map (impact_at t) (child_pieces h w cs)) (ap (sought ask c None) held ∙ all_left t (child_pieces h w cs)))
      kinds_left Kinds.TheVariants.TriMesh e y i k = cc
      kinds_left Kinds.TheVariants.Polyline e y i k = cc
      kinds_left Kinds.TheVariants.HeightField e y i k = cc
      kinds_left Kinds.TheVariants.Voxels e y i k = cc
      kinds_left Kinds.TheVariants.Other e y i k =
          let same : Nonlinear ≡ y = cc in
          let t = target_kind_of k in
          subst (λ (v : FastShapeKind). taken_by s.host s.step aim (shape_in v) t v c ≡ left (impacts_by s b x w (Some Kinds.TheVariants.Other) (Some k))) same turning_left

      -- a target that the host does not know has no impact
      known_left : (a : ShapeKind) → s.host.kind x.part.shape ≡ Some a → (y : FastShapeKind) → kind_of s.host x.part.shape w (Some a) ≡ Some y → (k : Option ShapeKind)
          → taken_at s.host s.step aim (shape_in y) k c ≡ left (impacts_by s b x w (Some a) k)
      known_left a e y i None = refl
      known_left a e y i (Some k) = kinds_left a e y i k

      -- what a pair takes at a cap is what is left of its impact
      shape_left : (q : FastShape) → fast_shape s.host x.part.shape w b.linvel b.angvel ≡ Some q → (k : Option ShapeKind)
          → taken_at s.host s.step aim q k c ≡ left (impacts_by s b x w (s.host.kind x.part.shape) k)
      shape_left q e k =
          let h = s.host in
          let n = x.part.shape in
          let a = shape_known h n w way (h.kind n) q e in
          let y = shape_is n way (kind_of h n w (h.kind n)) q e in
          subst (λ (v : FastShape). taken_at h s.step aim v k c ≡ left (impacts_by s b x w (h.kind n) k)) (sym y.2)
          (subst (λ (v : Option ShapeKind). taken_at h s.step aim (shape_in y.0) k c ≡ left (impacts_by s b x w v k)) (sym a.1)
          (known_left a.0 a.1 y.0 (sym (ap (kind_of h n w) a.1) ∙ y.1) k))

  -- ---- the impact of the pair

  at_marked : Lasts s.step → (p : Option ColliderParent) (m : Float) → least_of le (impacts_at s b x p) ≡ Some m → Marked aim.pair m
  at_marked l None m e = cc
  at_marked l (Some p) m e = by_marked (sweep_of s.host b p.relative) l (s.host.kind x.part.shape) (s.host.kind x.target.shape) m e

  pair_marked : Lasts s.step → (m : Float) → impact_of s b x ≡ Some m → Marked aim.pair m
  pair_marked l m e = at_marked l x.part.parent m e

-- ---- all of it

-- the test of a pair is that of its kind
test_same : (t : Bool) → test_of (cond t Pseudo Solid) ≡ test_for t
test_same true = refl
test_same false = refl

-- what the test of a solid pair accepts at the cap 1 lies below 1
solid_below : (t : Bool) (m : Float) → t ≡ false → T (test_of (cond t Pseudo Solid) m one_f) → T (lt m one_f)
solid_below true m e k = absurd (both_ways true e refl)
solid_below false m e k = k

pub pair_facts : (e : Env) → LawfulHost e.host → Lasts e.step → PairFacts e
pair_facts e L l = record {
  capped = λ f p q k c i j x d. (
      let s = situation e in
      let y = pair_of f k c in
      let w = way_of e f p.relative in
      shape_left s L f.body y w x d q j (e.host.kind c.shape)
      ∙ ap (λ (t : Float → Float → Bool). accepted t (least_of le (impacts_at s f.body y (Some p))) x) (test_same (pseudo y))
      ∙ sym (ap (λ (o : Option ColliderParent). accepted (test_for (pseudo y)) (least_of le (impacts_at s f.body y o)) x) i));
  marks = λ b x m i. (pair_marked (situation e) L b x l m i).0;
  below_one = λ b x m t i. solid_below (pseudo x) m t (pair_marked (situation e) L b x l m i).1;
  swept = λ f r a i t. shape_swept_lem e.host L f.collider.shape (way_of e f r) (motion_of (way_of e f r) f.body.linvel f.body.angvel) a i t;
  known = λ f r q i. swept_shape e.host L f.collider.shape (way_of e f r) (motion_of (way_of e f r) f.body.linvel f.body.angvel) q i;
}
