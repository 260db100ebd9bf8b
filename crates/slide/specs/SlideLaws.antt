-- Proofs: the slide host keeps the laws of a host, whatever is listed. A ghost member cites the last of them, so they stand here. Assumes nothing.
use Rattle.std.specs.Prelude.{◌≡◌, ℕ, ◌≤◌, Bool, true, false, cond, ◌&&◌, T, List, [], ◌∷◌, length, Some, None, Option, Ok, Err, option_map, fold, nat_lt, refl, Float}
use Rattle.std.proofs.Common.{sym, ap, ◌∙◌, subst, arith, ltb-true, lt-ltb}
use Rattle.std.specs.List.{slice_get, list_all}
use Rattle.std.specs.Float.Ieee.{le, lt}
use Rattle.std.specs.Float.Ieee.Scale.{finite}
use Rattle.numbers.specs.Along.{reach}
use Rattle.numbers.specs.Constants.{zero_f, million}
use Rattle.numbers.proofs.Ranges.{first_of, second_of}
use Rattle.geometry.specs.declared.vector.Vector.{Vector}
use Rattle.geometry.specs.declared.pose.Pose.{Pose}
use Rattle.geometry.specs.declared.aabb.Aabb.{Aabb}
use Rattle.geometry.specs.declared.shape_kind.ShapeKind.{ShapeKind}
use Rattle.geometry.specs.declared.shape_kind.ShapeKind.TheVariants.{Proxy, Compound}
use Rattle.geometry.specs.Vectors.{origin, ranged_vector, sum_of}
use Rattle.geometry.specs.Poses.{is_identity, ranged_pose, InRange}
use Rattle.geometry.specs.Boxes.{around_of, merged_of, FiniteBox}
use Rattle.outcomes.specs.declared.pair_kind.PairKind.{PairKind}
use Rattle.outcomes.specs.declared.pair_kind.PairKind.TheVariants.{Solid, Pseudo}
use Rattle.outcomes.specs.Outcomes.{TurningOutcome}
use Rattle.outcomes.specs.Impacts.{Timed}
use Rattle.outcomes.proofs.Turns.{turns_under_caps}
use Rattle.hosts.specs.declared.questions.Child.{Child}
use Rattle.hosts.specs.declared.questions.CastQuery.{CastQuery}
use Rattle.hosts.specs.HostLaws.{Lawful, SoundChild}
use Rattle.hosts.proofs.Parts.{part_short, passing_short, passing_pass, each_passes}
use Rattle.hosts.specs.Turnless.{admitted, product_of, stroke_of}
use Rattle.hosts.proofs.Places.{Bounded, one_m}
use Rattle.hosts.proofs.Insides.{Each, each_finite, all_finite, in_million_all, in_reach_all, in_five_all, sum_in_five, place_ranged, origin_in, around_finite, inside_a_sweep}
use Rattle.strokes.specs.Strokes.{meeting_of, counted_for, sooner_of}
use Rattle.strokes.specs.Laws.{Met}
use Rattle.strokes.proofs.CapLaws.{proxy_solid_law, proxy_pseudo_law, proxy_clean_law, composite_solid_law, composite_pseudo_law, composite_clean_law}
use Rattle.strokes.proofs.Meetings.{meeting_met, counted_met, sooner_met}
use Rattle.slide.specs.declared.shapes.Shape.{Shape}
use Rattle.slide.specs.declared.shapes.Shape.TheVariants.{Cuboid, Group}
use Rattle.slide.specs.Slides.{slide_answers, sided, half_of, half_sides, fits_at, cuboid_at, child_fits, listed_of, parts_of, children_of, kind_from, half_or, child_box, union_of, box_or, box_from, met_boxes, first_meeting, met_children}

-- ---- meetings

boxes_met : (q : CastQuery) (a b : Option Aabb) → Met (met_boxes q a b)
boxes_met q None b = tt
boxes_met q (Some a) None = tt
boxes_met q (Some a) (Some b) = meeting_met a b (stroke_of q.sweep)

first_met : (ss : List Shape) (f : Aabb) (q : CastQuery) (p : PairKind) (best : Option Float) (l : List Child) → Met best → Met (first_meeting ss f q p best l)
first_met ss f q p best [] m = m
first_met ss f q p best (c ∷ l) m =
    let b = child_box ss q.pose c in
    let o = meeting_of f b (stroke_of q.sweep) in
    first_met ss f q p (sooner_of best (counted_for o p)) l (sooner_met best (counted_for o p) m (counted_met o p (meeting_met f b (stroke_of q.sweep))))

children_met : (ss : List Shape) (l : List Child) (q : CastQuery) (p : PairKind) (a : Option Aabb) → Met (met_children ss l q p a)
children_met ss l q p None = tt
children_met ss l q p (Some f) = first_met ss f q p None l tt

-- ---- children

by_test : (n : ℕ) (b : Bool) → nat_lt 0 n ≡ b → ◌≡◌ {A = Option ShapeKind} (cond b (Some Compound) None) (Some Compound) → 1 ≤ n
by_test n true t e = ltb-true 0 n t
by_test n false t e = let z : ◌≡◌ {A = ℕ} 0 1 = cc in absurd (omega arith)

some_children : (a : Option Vector) (l : List Child) → kind_from a l ≡ Some Compound → 1 ≤ length l
some_children (Some v) l e = let z : ◌≡◌ {A = ℕ} 0 1 = cc in absurd (omega arith)
some_children None l e = by_test (length l) (nat_lt 0 (length l)) refl e

listed_short : (cs : List Child) (s : Option Shape) → length (listed_of cs s) ≤ 16
listed_short cs None = omega arith
listed_short cs (Some (Cuboid v)) = omega arith
listed_short cs (Some (Group f n)) = part_short cs f n

short : (ss : List Shape) (cs : List Child) (s : Option Shape) → length (parts_of ss cs s) ≤ 16
short ss cs s = passing_short (child_fits ss) (listed_of cs s) (listed_short cs s)

parts_fit : (ss : List Shape) (cs : List Child) (s : Option Shape) → T (list_all (child_fits ss) (parts_of ss cs s))
parts_fit ss cs s = passing_pass (child_fits ss) (listed_of cs s)

-- a box has no children, so what has some is a Compound
compound_by : (s : Option Shape) (l : List Child) → 1 ≤ length l → (half_of s ≡ None) → kind_from (half_of s) l ≡ Some Compound
compound_by s l h e = ap (λ (o : Option Vector). kind_from o l) e ∙ ap (λ (b : Bool). cond b (Some Compound) None) (lt-ltb 0 (length l) h)

compound : (ss : List Shape) (cs : List Child) (s : Option Shape) → 1 ≤ length (parts_of ss cs s) → kind_from (half_of s) (parts_of ss cs s) ≡ Some Compound
compound ss cs None h = absurd (omega arith)
compound ss cs (Some (Cuboid v)) h = absurd (omega arith)
compound ss cs (Some (Group f n)) h = compound_by (Some (Group f n)) (parts_of ss cs (Some (Group f n))) h refl

known_box : (o : Option Vector) (p : Pose) (l : List Child) → T (fits_at o p) → kind_from o l ≡ Some Proxy
known_box None p l h = absurd h
known_box (Some v) p l h = refl

fit_range : (o : Option Vector) (p : Pose) → T (fits_at o p) → InRange p
fit_range None p h = absurd h
fit_range (Some v) p h = first_of (ranged_pose million p) (is_identity p.rotation) h

proxy_only : Proxy ≡ Compound → ⊥
proxy_only e = let z : ◌≡◌ {A = ℕ} 0 1 = cc in omega arith

sound : (ss : List Shape) (cs : List Child) (c : Child) → T (child_fits ss c) → SoundChild (slide_answers ss cs) c
sound ss cs c h = record {
  range = fit_range (half_sides ss c.shape) c.pose h;
  kind = Proxy;
  known = known_box (half_sides ss c.shape) c.pose (children_of ss cs c.shape) h;
  simple = proxy_only;
}

-- ---- boxes

sided_in : (v : Vector) → T (sided v) → Each (Bounded one_m) v
sided_in v h = in_million_all v (first_of (ranged_vector million v) (le zero_f v.x && (le zero_f v.y && le zero_f v.z)) h)

half_by : (v : Vector) (b : Bool) → sided v ≡ b → Each (Bounded one_m) (half_or (cond b (Some v) None))
half_by v true e = sided_in v (subst T (sym e) tt)
half_by v false e = origin_in

half_in : (s : Option Shape) → Each (Bounded one_m) (half_or (half_of s))
half_in None = origin_in
half_in (Some (Cuboid v)) = half_by v (sided v) refl
half_in (Some (Group f n)) = origin_in

fit_place : (o : Option Vector) (p : Pose) → T (fits_at o p) → Each (Bounded one_m) p.translation
fit_place o p h = in_million_all p.translation (place_ranged p (fit_range o p h))

child_finite : (ss : List Shape) (p : Pose) (c : Child) → Each (Bounded reach) p.translation → T (child_fits ss c) → FiniteBox (child_box ss p c)
child_finite ss p c a h =
    around_finite (sum_of p.translation c.pose.translation) (half_or (half_sides ss c.shape))
    (sum_in_five p.translation c.pose.translation a (fit_place (half_sides ss c.shape) c.pose h))
    (half_in (slice_get ss c.shape))

either_finite : (a b : Float) → T (finite a) → T (finite b) → (t : Bool) → T (finite (cond t b a))
either_finite a b p q true = q
either_finite a b p q false = p

merged_finite : (a b : Aabb) → FiniteBox a → FiniteBox b → FiniteBox (merged_of a b)
merged_finite a b p q =
    let l = each_finite a.mins p.0 in
    let m = each_finite b.mins q.0 in
    let g = each_finite a.maxs p.1 in
    let h = each_finite b.maxs q.1 in (
      all_finite (merged_of a b).mins (either_finite a.mins.x b.mins.x l.0 m.0 (lt b.mins.x a.mins.x)) (either_finite a.mins.y b.mins.y l.1 m.1 (lt b.mins.y a.mins.y)) (either_finite a.mins.z b.mins.z l.2 m.2 (lt b.mins.z a.mins.z)),
      all_finite (merged_of a b).maxs (either_finite a.maxs.x b.maxs.x g.0 h.0 (lt a.maxs.x b.maxs.x)) (either_finite a.maxs.y b.maxs.y g.1 h.1 (lt a.maxs.y b.maxs.y)) (either_finite a.maxs.z b.maxs.z g.2 h.2 (lt a.maxs.z b.maxs.z)),
    )

abbrev FiniteIfAny : Option Aabb → Type 0
FiniteIfAny None = Unit {0}
FiniteIfAny (Some b) = FiniteBox b

union_from : (ss : List Shape) (p : Pose) (u : Aabb) (l : List Child) → Each (Bounded reach) p.translation → FiniteBox u → T (list_all (child_fits ss) l) → FiniteBox (fold (λ (b : Aabb) d. merged_of b (child_box ss p d)) u l)
union_from ss p u [] a f h = f
union_from ss p u (c ∷ l) a f h =
    union_from ss p (merged_of u (child_box ss p c)) l a
    (merged_finite u (child_box ss p c) f (child_finite ss p c a (first_of (child_fits ss c) (list_all (child_fits ss) l) h)))
    (second_of (child_fits ss c) (list_all (child_fits ss) l) h)

union_finite : (ss : List Shape) (p : Pose) (l : List Child) → Each (Bounded reach) p.translation → T (list_all (child_fits ss) l) → FiniteIfAny (union_of ss p l)
union_finite ss p [] a h = tt
union_finite ss p (c ∷ l) a h =
    union_from ss p (child_box ss p c) l a (child_finite ss p c a (first_of (child_fits ss c) (list_all (child_fits ss) l) h))
    (second_of (child_fits ss c) (list_all (child_fits ss) l) h)

or_finite : (u : Option Aabb) (p : Pose) → Each (Bounded reach) p.translation → FiniteIfAny u → FiniteBox (box_or u p)
or_finite None p a f = around_finite p.translation origin (in_five_all p.translation a) origin_in
or_finite (Some b) p a f = f

box_finite : (ss : List Shape) (l : List Child) (p : Pose) (o : Option Vector) → T (list_all (child_fits ss) l) → Each (Bounded one_m) (half_or o) → T (admitted p) → FiniteBox (box_from ss l p (option_map (around_of p.translation) o))
box_finite ss l p None h k a = let r = in_reach_all p a in or_finite (union_of ss p l) p r (union_finite ss p l r h)
box_finite ss l p (Some v) h k a = around_finite p.translation v (in_five_all p.translation (in_reach_all p a)) k

-- the box of a child at the product with its pose
fit_box_finite : (ss : List Shape) (l : List Child) (p q : Pose) (o : Option Vector) → T (fits_at o q) → Each (Bounded one_m) (half_or o) → T (admitted p) → FiniteBox (box_from ss l (product_of p q) (option_map (around_of (product_of p q).translation) o))
fit_box_finite ss l p q None h k a = absurd h
fit_box_finite ss l p q (Some v) h k a =
    around_finite (sum_of p.translation q.translation) v
    (sum_in_five p.translation q.translation (in_reach_all p a) (fit_place (Some v) q h)) k

-- ---- all laws

abbrev cannot_tell : TurningOutcome
cannot_tell = Err (record {})

no_time : (t : Float) → cannot_tell ≡ Ok (Some t) → Timed t
no_time t e = let z : ◌≡◌ {A = ℕ} 0 1 = cc in absurd (omega arith)

pub slide_lawful : (ss : List Shape) (cs : List Child) → Lawful (slide_answers ss cs)
slide_lawful ss cs = record {
  proxy_solid = λ q. let a = cuboid_at ss q.fast q.sweep.start in let b = cuboid_at ss q.target q.pose in proxy_solid_law (met_boxes q a b) (boxes_met q a b);
  proxy_pseudo = λ q. let a = cuboid_at ss q.fast q.sweep.start in let b = cuboid_at ss q.target q.pose in proxy_pseudo_law (met_boxes q a b) (boxes_met q a b);
  proxy_clean = λ q. let a = cuboid_at ss q.fast q.sweep.start in let b = cuboid_at ss q.target q.pose in proxy_clean_law (met_boxes q a b) (boxes_met q a b);
  composite_solid = λ q. let a = cuboid_at ss q.fast q.sweep.start in let l = children_of ss cs q.target in composite_solid_law (met_children ss l q Solid a) (children_met ss l q Solid a);
  composite_pseudo = λ q. let a = cuboid_at ss q.fast q.sweep.start in let l = children_of ss cs q.target in composite_pseudo_law (met_children ss l q Pseudo a) (children_met ss l q Pseudo a);
  composite_clean = λ q p. let a = cuboid_at ss q.fast q.sweep.start in let l = children_of ss cs q.target in composite_clean_law (met_children ss l q p a) (children_met ss l q p a);
  times = λ q p t e. no_time t e;
  turning = λ q p. turns_under_caps cannot_tell q.dt no_time;
  few = λ s e. (some_children (half_sides ss s) (children_of ss cs s) e, short ss cs (slice_get ss s));
  children = λ s. each_passes (child_fits ss) (SoundChild (slide_answers ss cs)) (sound ss cs) (children_of ss cs s) (parts_fit ss cs (slice_get ss s));
  childless = λ s h. compound ss cs (slice_get ss s) h;
  boxes = λ s k p e a. box_finite ss (children_of ss cs s) p (half_sides ss s) (parts_fit ss cs (slice_get ss s)) (half_in (slice_get ss s)) a;
  child_boxes = λ s p a. each_passes (child_fits ss) (λ c. FiniteBox ((slide_answers ss cs).aabb c.shape (product_of p c.pose))) (λ c h. fit_box_finite ss (children_of ss cs c.shape) p c.pose (half_sides ss c.shape) h (half_in (slice_get ss c.shape)) a) (children_of ss cs s) (parts_fit ss cs (slice_get ss s));
  inside = λ w t I A. let k = inside_a_sweep w t I A.start_range A.end_range in (k.range, k.admitted_there);
  inside_products = λ w t r I A R a b. (inside_a_sweep w t I A.start_range A.end_range).product r R;
}
