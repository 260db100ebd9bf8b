-- Proofs: the recorded host keeps the laws of a host, whatever is listed. A ghost member cites the last of them, so they stand here. Assumes nothing.
use Rattle.std.specs.Prelude.{◌≡◌, ℕ, ◌≤◌, Bool, true, false, cond, not, ◌&&◌, T, List, [], ◌∷◌, length, Some, None, Option, Ok, ◌==◌, ◌≢◌, is_nan, refl, Float}
use Rattle.std.proofs.Common.{sym, ap, ◌∙◌, subst, arith, T_not, ne_eqb}
use Rattle.std.specs.Float.Ieee.{of_bits, fits, le, lt}
use Rattle.std.specs.Float.Ieee.Scale.{finite}
use Rattle.std.proofs.lemmas.Bool.{eqb-false}
use Rattle.std.specs.Float.{is_sign_negative, binary32}
use Rattle.std.specs.List.{slice_get, list_all}
use Rattle.std.specs.Bool.{passes, fails}
use Rattle.std.specs.Float.Order.{lt_irrefl, le_of_lt, le_right}
use Rattle.numbers.specs.Constants.{zero_f, one_f, million}
use Rattle.numbers.specs.Reals.{is_zero}
use Rattle.numbers.proofs.Order.{not_both, finite_between}
use Rattle.numbers.proofs.Ranges.{both, first_of, second_of}
use Rattle.geometry.specs.declared.pose.Pose.{Pose}
use Rattle.geometry.specs.declared.shape_kind.ShapeKind.{ShapeKind}
use Rattle.geometry.specs.declared.shape_kind.ShapeKind.TheVariants.{Proxy, Compound, TriMesh, Polyline, HeightField, Voxels, Other}
use Rattle.geometry.specs.Vectors.{origin, ranged_vector}
use Rattle.geometry.specs.Poses.{is_identity, ranged_pose, InRange}
use Rattle.geometry.specs.Boxes.{FiniteBox}
use Rattle.outcomes.specs.declared.cast_outcome.CastOutcome.{CastOutcome}
use Rattle.outcomes.specs.declared.cast_outcome.CastOutcome.TheVariants.{Hit, Failed, Overlapped, Separated}
use Rattle.outcomes.specs.Outcomes.{TurningOutcome, fraction_of}
use Rattle.outcomes.specs.Impacts.{clean, Cap, strictly, upto, below, at_most, solid_of, pseudo_of, SolidLaw, PseudoLaw, CleanLaw, Timed}
use Rattle.outcomes.proofs.Caps.{on, off, strictly_none, strictly_under, not_left}
use Rattle.outcomes.proofs.Turns.{turns_under_caps}
use Rattle.hosts.specs.declared.questions.Child.{Child}
use Rattle.hosts.specs.Children.{part_of, passing}
use Rattle.hosts.specs.HostLaws.{Lawful, SoundChild}
use Rattle.hosts.specs.Turnless.{admitted, product_of}
use Rattle.hosts.proofs.Parts.{part_short, short_or_none, passing_short, passing_pass, each_passes}
use Rattle.hosts.proofs.Places.{Bounded, one_m, five_m}
use Rattle.hosts.proofs.Insides.{Each, in_million_all, in_reach_all, in_five_all, sum_in_five, place_ranged, origin_in, sum_finite, around_finite, inside_a_sweep}
use Rattle.recorded.specs.declared.rows.Listed.{Listed}
use Rattle.recorded.specs.declared.rows.Row.{Row}
use Rattle.recorded.specs.Records.{recorded_answers, ranged_box, only_ranged, entry_of, is_compound, is_piece, child_fits, listed_of, parts_of, children_of, known_of, shape_of, kind_of, box_at, from_zero, time_fits, row_fits, counts, row_of, at_cap, cast_of, time_of}

-- ---- numbers from 0

-- clean, not below 0, at most the limit
abbrev FromZero : Float → Float → Type 0
FromZero m t = T (clean t) × T (le zero_f t) × T (le t m)

from_zero_is : (m t : Float) → T (from_zero m t) → FromZero m t
from_zero_is m t h =
    let n = not (is_sign_negative t) in
    let f = first_of (fits binary32 t) (le zero_f t && (le t m && n)) h in
    let h' = second_of (fits binary32 t) (le zero_f t && (le t m && n)) h in
    let l = first_of (le zero_f t) (le t m && n) h' in
    let h'' = second_of (le zero_f t) (le t m && n) h' in (
      both (fits binary32 t) (not (is_nan t) && not (is_sign_negative t && is_zero t)) f
          (both (not (is_nan t)) (not (is_sign_negative t && is_zero t)) (le_right zero_f t l) (not_left (is_sign_negative t) (is_zero t) (second_of (le t m) n h''))),
      l,
      first_of (le t m) n h'',
    )

-- ---- rows

abbrev InRow : Option Row → Type 0
InRow None = Unit {0}
InRow (Some r) = T (row_fits r)

row_by : (r : Row) (f t : ℕ) (o : Option Row) → InRow o → (b : Bool) → counts r f t ≡ b → InRow (cond b (Some r) o)
row_by r f t o m true e = second_of (r.target == t) (row_fits r) (second_of (r.fast == f) (r.target == t && row_fits r) (passes (counts r f t) e))
row_by r f t o m false e = m

in_row : (rs : List Row) (f t : ℕ) → InRow (row_of rs f t)
in_row [] f t = tt
in_row (r ∷ rs) f t = row_by r f t (row_of rs f t) (in_row rs f t) (counts r f t) refl

-- ---- the cap law of one recorded cast

module _ (o : CastOutcome) (m : FromZero one_f (fraction_of o)) where
  at_one : at_cap o one_f ≡ o
  at_one = ap (λ (b : Bool). cond b (Separated one_f) o) (off (lt one_f (fraction_of o)) (λ h. not_both (fraction_of o) one_f m.2 h))

  solid_by : (c : Float) → Cap c → (b : Bool) → lt c (fraction_of o) ≡ b → solid_of (cond b (Separated c) o) c ≡ below (strictly (fraction_of o) one_f) c
  solid_by c C true e =
      strictly_none c c (lt_irrefl c)
      ∙ (sym (strictly_none (fraction_of o) c (λ h. not_both (fraction_of o) c (le_of_lt (fraction_of o) c h) (passes (lt c (fraction_of o)) e)))
      ∙ strictly_under (fraction_of o) c C.1)
  solid_by c C false e = strictly_under (fraction_of o) c C.1

  row_solid : (c : Float) → Cap c → solid_of (at_cap o c) c ≡ below (solid_of (at_cap o one_f) one_f) c
  row_solid c C = solid_by c C (lt c (fraction_of o)) refl ∙ sym (ap (λ (x : CastOutcome). below (solid_of x one_f) c) at_one)

  -- of a cast that is not separated
  module _ (takes : (c : Float) → pseudo_of o c ≡ upto (fraction_of o) c) where
    pseudo_by : (c : Float) (b : Bool) → lt c (fraction_of o) ≡ b → pseudo_of (cond b (Separated c) o) c ≡ upto (fraction_of o) c
    pseudo_by c true e = sym (ap (λ (b : Bool). cond b (Some (fraction_of o)) None) (off (le (fraction_of o) c) (λ h. not_both (fraction_of o) c h (passes (lt c (fraction_of o)) e))))
    pseudo_by c false e = takes c

    one_is : pseudo_of (at_cap o one_f) one_f ≡ Some (fraction_of o)
    one_is =
        ap (λ (x : CastOutcome). pseudo_of x one_f) at_one
        ∙ (takes one_f ∙ ap (λ (b : Bool). cond b (Some (fraction_of o)) None) (on (le (fraction_of o) one_f) m.2))

    taken : (c : Float) → pseudo_of (at_cap o c) c ≡ at_most (pseudo_of (at_cap o one_f) one_f) c
    taken c = pseudo_by c (lt c (fraction_of o)) refl ∙ sym (ap (λ (x : Option Float). at_most x c) one_is)

    taken_low : (p : Float) → pseudo_of (at_cap o one_f) one_f ≡ Some p → T (le zero_f p)
    taken_low p e = let i = one_is in let same : fraction_of o ≡ p = cc in subst (λ (x : Float). T (le zero_f x)) same m.1

  clean_by : (c : Float) → Cap c → (b : Bool) → T (clean (fraction_of (cond b (Separated c) o)))
  clean_by c C true = C.2
  clean_by c C false = m.0

-- a separated one is never taken
apart : (f c : Float) (b : Bool) → pseudo_of (cond b (Separated c) (Separated f)) c ≡ None
apart f c true = refl
apart f c false = refl

row_pseudo : (o : CastOutcome) → FromZero one_f (fraction_of o) → (c : Float) → pseudo_of (at_cap o c) c ≡ at_most (pseudo_of (at_cap o one_f) one_f) c
row_pseudo (Hit f) m c = taken (Hit f) m (λ x. refl) c
row_pseudo (Failed f) m c = taken (Failed f) m (λ x. refl) c
row_pseudo (Overlapped f) m c = taken (Overlapped f) m (λ x. refl) c
row_pseudo (Separated f) m c = apart f c (lt c f) ∙ sym (ap (λ (x : Option Float). at_most x c) (apart f one_f (lt one_f f)))

row_low : (o : CastOutcome) → FromZero one_f (fraction_of o) → (p : Float) → pseudo_of (at_cap o one_f) one_f ≡ Some p → T (le zero_f p)
row_low (Hit f) m p e = taken_low (Hit f) m (λ x. refl) p e
row_low (Failed f) m p e = taken_low (Failed f) m (λ x. refl) p e
row_low (Overlapped f) m p e = taken_low (Overlapped f) m (λ x. refl) p e
row_low (Separated f) m p e =
    let i = apart f one_f (lt one_f f) in
    let z : ◌≡◌ {A = ℕ} 0 1 = cc in
    absurd (omega arith)

-- ---- the cap law with or without a row

fraction_in : (r : Row) → T (row_fits r) → FromZero one_f (fraction_of r.cast)
fraction_in r h = from_zero_is one_f (fraction_of r.cast) (first_of (from_zero one_f (fraction_of r.cast)) (time_fits r.time) h)

solid_all : (o : Option Row) → InRow o → (c : Float) → Cap c → solid_of (cast_of o c) c ≡ below (solid_of (cast_of o one_f) one_f) c
solid_all None m c C = strictly_none c c (lt_irrefl c) ∙ sym (ap (λ (x : Option Float). below x c) (strictly_none one_f one_f (lt_irrefl one_f)))
solid_all (Some r) m c C = row_solid r.cast (fraction_in r m) c C

pseudo_all : (o : Option Row) → InRow o → (c : Float) → Cap c → pseudo_of (cast_of o c) c ≡ at_most (pseudo_of (cast_of o one_f) one_f) c
pseudo_all None m c C = refl
pseudo_all (Some r) m c C = row_pseudo r.cast (fraction_in r m) c

low_all : (o : Option Row) → InRow o → (p : Float) → pseudo_of (cast_of o one_f) one_f ≡ Some p → T (le zero_f p)
low_all None m p e = let z : ◌≡◌ {A = ℕ} 0 1 = cc in absurd (omega arith)
low_all (Some r) m p e = row_low r.cast (fraction_in r m) p e

clean_all : (o : Option Row) → InRow o → (c : Float) → Cap c → T (clean (fraction_of (cast_of o c)))
clean_all None m c C = C.2
clean_all (Some r) m c C = clean_by r.cast (fraction_in r m) c C (lt c (fraction_of r.cast))

solid_law : (rs : List Row) (f t : ℕ) → SolidLaw (λ c. Some (cast_of (row_of rs f t) c))
solid_law rs f t = record { capped = solid_all (row_of rs f t) (in_row rs f t) }

pseudo_law : (rs : List Row) (f t : ℕ) → PseudoLaw (λ c. Some (cast_of (row_of rs f t) c))
pseudo_law rs f t = record { capped = pseudo_all (row_of rs f t) (in_row rs f t); from_zero = low_all (row_of rs f t) (in_row rs f t) }

clean_law : (rs : List Row) (f t : ℕ) → CleanLaw (λ c. Some (cast_of (row_of rs f t) c))
clean_law rs f t = record {
  fraction = λ c C a e. let same : cast_of (row_of rs f t) c ≡ a = cc in subst (λ (x : CastOutcome). T (clean (fraction_of x))) same (clean_all (row_of rs f t) (in_row rs f t) c C);
}

-- ---- times

zero_finite : T (finite zero_f)
unfolding of_bits
zero_finite = tt

million_finite : T (finite million)
unfolding of_bits
million_finite = tt

abbrev told : Option Float → TurningOutcome
told u = Ok u

told_timed : (u : Option Float) → T (time_fits u) → (t : Float) → told u ≡ Ok (Some t) → Timed t
told_timed None h t e = let z : ◌≡◌ {A = ℕ} 0 1 = cc in absurd (omega arith)
told_timed (Some s) h t e =
    let same : s ≡ t = cc in
    let k = from_zero_is million s h in
    subst Timed same (finite_between zero_f s million zero_finite million_finite k.1 k.2, k.0, k.1)

time_of_lem : (o : Option Row) → InRow o → (t : Float) → time_of o ≡ Ok (Some t) → Timed t
time_of_lem None m t e = let z : ◌≡◌ {A = ℕ} 0 1 = cc in absurd (omega arith)
time_of_lem (Some r) m t e = told_timed r.time (second_of (from_zero one_f (fraction_of r.cast)) (time_fits r.time) m) t e

time_law : (rs : List Row) (f g : ℕ) (t : Float) → time_of (row_of rs f g) ≡ Ok (Some t) → Timed t
time_law rs f g = time_of_lem (row_of rs f g) (in_row rs f g)

-- ---- children

compound_kind : (k : ShapeKind) → is_compound k ≡ true → k ≡ Compound
compound_kind Proxy e = absurd (passes false e)
compound_kind Compound e = refl
compound_kind TriMesh e = absurd (passes false e)
compound_kind Polyline e = absurd (passes false e)
compound_kind HeightField e = absurd (passes false e)
compound_kind Voxels e = absurd (passes false e)
compound_kind Other e = absurd (passes false e)

listed_short : (cs : List Child) (o : Option Listed) → length (listed_of cs o) ≤ 16
listed_short cs None = omega arith
listed_short cs (Some l) = short_or_none (part_of cs l.first l.count) (is_compound l.kind) (part_short cs l.first l.count)

short : (ss : List Listed) (cs : List Child) (o : Option Listed) → length (parts_of ss cs o) ≤ 16
short ss cs o = passing_short (child_fits ss) (listed_of cs o) (listed_short cs o)

parts_fit : (ss : List Listed) (cs : List Child) (o : Option Listed) → T (list_all (child_fits ss) (parts_of ss cs o))
parts_fit ss cs o = passing_pass (child_fits ss) (listed_of cs o)

-- a Compound that is known has children
some_by : (s : Listed) (n : ℕ) (b e : Bool) → (n == 0) ≡ e → is_compound s.kind ≡ b → kind_of (cond (b && e) None (Some s)) ≡ Some Compound → 1 ≤ n
some_by s n b false z k h = let ne = eqb-false n 0 z in omega arith
some_by s n true true z k h = let z : ◌≡◌ {A = ℕ} 0 1 = cc in absurd (omega arith)
some_by s n false true z k h =
    let same : s.kind ≡ Compound = cc in
    absurd (fails true (sym (ap is_compound same) ∙ k))

some_children : (o : Option Listed) (l : List Child) → kind_of (known_of o l) ≡ Some Compound → 1 ≤ length l
some_children None l h = let z : ◌≡◌ {A = ℕ} 0 1 = cc in absurd (omega arith)
some_children (Some s) l h = some_by s (length l) (is_compound s.kind) (length l == 0) refl refl h

-- what has children is a Compound
compound_by : (f : Child → Bool) (s : Listed) (l : List Child) (b : Bool) → is_compound s.kind ≡ b → 1 ≤ length (passing f (cond b l [])) → kind_of (cond (is_compound s.kind && length (passing f (cond b l [])) == 0) None (Some s)) ≡ Some Compound
compound_by f s l false k h = absurd (omega arith)
compound_by f s l true k h =
    ap (λ (b : Bool). kind_of (cond (b && length (passing f l) == 0) None (Some s))) k
    ∙ (ap (λ (b : Bool). kind_of (cond b None (Some s))) (ne_eqb (length (passing f l)) 0 (λ q. omega arith))
    ∙ ap (λ (k : ShapeKind). Some k) (compound_kind s.kind k))

compound : (ss : List Listed) (cs : List Child) (o : Option Listed) → 1 ≤ length (parts_of ss cs o) → kind_of (known_of o (parts_of ss cs o)) ≡ Some Compound
compound ss cs None h = absurd (omega arith)
compound ss cs (Some s) h = compound_by (child_fits ss) s (part_of cs s.first s.count) (is_compound s.kind) refl h

-- a child that fits: its entry, which is no Compound
abbrev Piece : Option Listed → Type 0
Piece o = (s : Listed) × (o ≡ Some s) × (is_compound s.kind ≡ false)

piece : (o : Option Listed) → T (is_piece o) → Piece o
piece None h = absurd h
piece (Some s) h = (s, refl, off (is_compound s.kind) (T_not (is_compound s.kind) h))

piece_of : (ss : List Listed) (c : Child) → T (child_fits ss c) → Piece (entry_of ss c.shape)
piece_of ss c h = piece (entry_of ss c.shape) (first_of (is_piece (entry_of ss c.shape)) (ranged_pose million c.pose && is_identity c.pose.rotation) h)

fit_range : (ss : List Listed) (c : Child) → T (child_fits ss c) → InRange c.pose
fit_range ss c h =
    first_of (ranged_pose million c.pose) (is_identity c.pose.rotation)
    (second_of (is_piece (entry_of ss c.shape)) (ranged_pose million c.pose && is_identity c.pose.rotation) h)

-- whatever its own children are
known_piece : (o : Option Listed) (l : List Child) (k : Piece o) → kind_of (known_of o l) ≡ Some k.0.kind
known_piece o l k =
    ap (λ (x : Option Listed). kind_of (known_of x l)) k.1
    ∙ ap (λ (b : Bool). kind_of (cond (b && length l == 0) None (Some k.0))) k.2

simple_piece : (s : Listed) → is_compound s.kind ≡ false → s.kind ≢ Compound
simple_piece s n e = fails true (sym (ap is_compound e) ∙ n)

sound : (ss : List Listed) (cs : List Child) (rs : List Row) (c : Child) → T (child_fits ss c) → SoundChild (recorded_answers ss cs rs) c
sound ss cs rs c h =
    let k = piece_of ss c h in record {
      range = fit_range ss c h;
      kind = k.0.kind;
      known = known_piece (entry_of ss c.shape) (children_of ss cs c.shape) k;
      simple = simple_piece k.0 k.2;
    }

-- ---- boxes

abbrev Sized : Option Listed → Type 0
Sized None = Unit {0}
Sized (Some l) = T (ranged_box l.aabb)

sized_by : (l : Listed) (b : Bool) → ranged_box l.aabb ≡ b → Sized (cond b (Some l) None)
sized_by l true e = passes (ranged_box l.aabb) e
sized_by l false e = tt

sized : (o : Option Listed) → Sized (only_ranged o)
sized None = tt
sized (Some l) = sized_by l (ranged_box l.aabb) refl

still_sized : (s : Listed) (b : Bool) → T (ranged_box s.aabb) → Sized (cond b None (Some s))
still_sized s true h = tt
still_sized s false h = h

known_sized : (o : Option Listed) (l : List Child) → Sized o → Sized (known_of o l)
known_sized None l h = tt
known_sized (Some s) l h = still_sized s (is_compound s.kind && length l == 0) h

shape_sized : (ss : List Listed) (cs : List Child) (i : ℕ) → Sized (shape_of ss cs i)
shape_sized ss cs i = known_sized (entry_of ss i) (children_of ss cs i) (sized (slice_get ss i))

box_finite : (o : Option Listed) (p : Pose) → Sized o → Each (Bounded five_m) p.translation → FiniteBox (box_at o p)
box_finite None p h a = around_finite p.translation origin a origin_in
box_finite (Some l) p h a =
    let b = l.aabb in
    let ordered = le b.mins.x b.maxs.x && (le b.mins.y b.maxs.y && le b.mins.z b.maxs.z) in
    let rest = ranged_vector million b.maxs && ordered in (
      sum_finite p.translation b.mins a (in_million_all b.mins (first_of (ranged_vector million b.mins) rest h)),
      sum_finite p.translation b.maxs a (in_million_all b.maxs (first_of (ranged_vector million b.maxs) ordered (second_of (ranged_vector million b.mins) rest h))),
    )

fit_place : (ss : List Listed) (c : Child) → T (child_fits ss c) → Each (Bounded one_m) c.pose.translation
fit_place ss c h = in_million_all c.pose.translation (place_ranged c.pose (fit_range ss c h))

child_finite : (ss : List Listed) (cs : List Child) (p : Pose) (c : Child) → T (admitted p) → T (child_fits ss c) → FiniteBox (box_at (shape_of ss cs c.shape) (product_of p c.pose))
child_finite ss cs p c a h =
    box_finite (shape_of ss cs c.shape) (product_of p c.pose) (shape_sized ss cs c.shape)
    (sum_in_five p.translation c.pose.translation (in_reach_all p a) (fit_place ss c h))

-- ---- all laws

pub recorded_lawful : (ss : List Listed) (cs : List Child) (rs : List Row) → Lawful (recorded_answers ss cs rs)
recorded_lawful ss cs rs = record {
  proxy_solid = λ q. solid_law rs q.fast q.target;
  proxy_pseudo = λ q. pseudo_law rs q.fast q.target;
  proxy_clean = λ q. clean_law rs q.fast q.target;
  composite_solid = λ q. solid_law rs q.fast q.target;
  composite_pseudo = λ q. pseudo_law rs q.fast q.target;
  composite_clean = λ q p. clean_law rs q.fast q.target;
  times = λ q p. time_law rs q.fast q.target;
  turning = λ q p. turns_under_caps (time_of (row_of rs q.fast q.target)) q.dt (time_law rs q.fast q.target);
  few = λ s e. (some_children (entry_of ss s) (children_of ss cs s) e, short ss cs (entry_of ss s));
  children = λ s. each_passes (child_fits ss) (SoundChild (recorded_answers ss cs rs)) (sound ss cs rs) (children_of ss cs s) (parts_fit ss cs (entry_of ss s));
  childless = λ s h. compound ss cs (entry_of ss s) h;
  boxes = λ s k p e a. box_finite (shape_of ss cs s) p (shape_sized ss cs s) (in_five_all p.translation (in_reach_all p a));
  child_boxes = λ s p a. each_passes (child_fits ss) (λ c. FiniteBox (box_at (shape_of ss cs c.shape) (product_of p c.pose))) (λ c. child_finite ss cs p c a) (children_of ss cs s) (parts_fit ss cs (entry_of ss s));
  inside = λ w t I A. let k = inside_a_sweep w t I A.start_range A.end_range in (k.range, k.admitted_there);
  inside_products = λ w t r I A R a b. (inside_a_sweep w t I A.start_range A.end_range).product r R;
}
