-- What a flight finds, of every lawful host. Assumes nothing.
use Rattle.std.proofs.Common.{◌≡◌, ℕ, Bool, true, false, cond, ◌&&◌, T, List, [], ◌∷◌, Some, None, Err, MatchBool, Option, sym, refl, ap, ◌∙◌, subst, inl, inr, arith}
use lib.Ieee.{Float, binary32, of_bits, fits, lt, le}
use lib.Ieee.Scale.{finite}
use Rattle.std.specs.List.{best_of, cons_option, AllByRecursion}
use Rattle.std.specs.Bool.{passes}
use Rattle.numbers.specs.Constants.{zero_f, one_f, million}
use Rattle.numbers.specs.Least.{least}
use Rattle.numbers.proofs.Ranges.{first_of, second_of}
use Rattle.geometry.specs.declared.pose.Pose.{Pose}
use Rattle.geometry.specs.declared.shape_kind.ShapeKind.{ShapeKind}
use Rattle.geometry.specs.Poses.{ranged_pose, InRange}
use Rattle.outcomes.specs.declared.pair_kind.PairKind.{PairKind}
use Rattle.outcomes.specs.declared.pair_kind.PairKind.TheVariants.{Solid, Pseudo}
use Rattle.outcomes.specs.declared.cast_outcome.CastOutcome.{CastOutcome}
use Rattle.outcomes.specs.Outcomes.{fraction_of}
use Rattle.outcomes.specs.Impacts.{clean, turned_of, quotient, taken_if, strictly}
use Rattle.outcomes.proofs.Caps.{cap_one, strictly_is, clean_fits}
use Rattle.hosts.specs.declared.questions.Sweep.{Sweep}
use Rattle.hosts.specs.declared.questions.CastQuery.{CastQuery}
use Rattle.hosts.specs.Hosts.{Answers}
use Rattle.hosts.specs.HostLaws.{Lawful, Inner, SweepAdmitted}
use Rattle.casts.specs.declared.flight.Flight.{Flight}
use Rattle.casts.specs.declared.refusal.CastRefusal.TheVariants.{NumberOutOfRange, PoseNotAdmitted}
use Rattle.casts.specs.declared.pieces.TargetKind.{TargetKind}
use Rattle.casts.specs.declared.pieces.TargetKind.TheVariants.{Proxy, Composite, Turning}
use Rattle.casts.specs.declared.report.Casts.{Casts}
use Rattle.casts.specs.declared.report.Casts.TheVariants as casts
use Rattle.casts.specs.Flights.{ranged_flight, admitted_flight, sweep_of, query_of, turning_query, both_known}
use Rattle.casts.specs.Pieces.{swept_by, target_kind_of, cast_at}
use Rattle.casts.specs.Reports.{took_of, impact_of}
use Rattle.casts.specs.Singles.{piece_cast, casts_of_pieces, pieces_of, turning_answer, turns, settled_by, reported, flown_by, flown, impacts_of, ByPieces, ByTurning, Found, Flown}

-- ---- a solid impact lies strictly inside the sweep

one_finite : T (finite one_f)
unfolding of_bits
one_finite = tt

one_above : T (le zero_f one_f)
unfolding of_bits le
one_above = tt

strictly_inner : (f s : Float) → T (clean f) → strictly f one_f ≡ Some s → Inner s
strictly_inner f s k e = let i = strictly_is f one_f s e in (subst (λ (x : Float). T (fits binary32 x)) i.2 (clean_fits f k), i.0, i.1)

took_inner : (o : Option CastOutcome) → ((c : CastOutcome) → o ≡ Some c → T (clean (fraction_of c))) → (s : Float) → took_of Solid o ≡ Some s → Inner s
took_inner None k s e = let z : ◌≡◌ {A = ℕ} 0 1 = cc in absurd (omega arith)
took_inner (Some c) k s e = strictly_inner (fraction_of c) s (k c refl) e

module _ (h : Answers) (L : Lawful h) where
  cast_clean : (q : CastQuery) (t : TargetKind) (p : PairKind) (c : CastOutcome) → cast_at h q t p one_f ≡ Some c → T (clean (fraction_of c))
  cast_clean q Proxy p c e = (L.proxy_clean q).fraction one_f cap_one c e
  cast_clean q Composite p c e = (L.composite_clean q p).fraction one_f cap_one c e
  cast_clean q Turning p c e = let z : ◌≡◌ {A = ℕ} 0 1 = cc in absurd (omega arith)

  module _ (f : Flight) (t : TargetKind) (solid : f.pair ≡ Solid) where
    piece_inner : (p : ℕ × Sweep) (s : Float) → took_of f.pair (piece_cast h f t p.0 p.1) ≡ Some s → Inner s
    piece_inner p s e =
        took_inner (piece_cast h f t p.0 p.1) (λ c k. cast_clean (query_of f p.0 p.1) t f.pair c k) s
        (ap (λ (x : PairKind). took_of x (piece_cast h f t p.0 p.1)) (sym solid) ∙ e)

    found_inner : (o : Option Float) (is : List Float) → ((s : Float) → o ≡ Some s → Inner s) → AllByRecursion Inner is → AllByRecursion Inner (cons_option o is)
    found_inner None is k a = a
    found_inner (Some i) is k a = (k i refl, a)

    all_inner : (ps : List (ℕ × Sweep)) → AllByRecursion Inner (impacts_of h f t ps)
    all_inner [] = tt
    all_inner (p ∷ ps) = found_inner (took_of f.pair (piece_cast h f t p.0 p.1)) (impacts_of h f t ps) (piece_inner p) (all_inner ps)

  either_inner : (a b : Float) → Inner a → Inner b → (t : Bool) → Inner (cond t a b)
  either_inner a b p q true = p
  either_inner a b p q false = q

  best_inner : (b : Float) (is : List Float) → Inner b → AllByRecursion Inner is → Inner (best_of lt b is)
  best_inner b [] p a = p
  best_inner b (i ∷ is) p a = best_inner (cond (lt i b) i b) is (either_inner i b a.0 p (lt i b)) a.1

  least_inner : (is : List Float) (s : Float) → AllByRecursion Inner is → least is ≡ Some s → Inner s
  least_inner [] s a e = let z : ◌≡◌ {A = ℕ} 0 1 = cc in absurd (omega arith)
  least_inner (i ∷ is) s a e = let same : best_of lt i is ≡ s = cc in subst Inner same (best_inner i is a.0 a.1)

  turned_inner : (f : Flight) (s : Float) → f.pair ≡ Solid → turned_of f.pair (turning_answer h f) one_f one_f ≡ Some s → Inner s
  turned_inner f s solid e =
      let e' = ap (λ (p : PairKind). turned_of p (turning_answer h f) one_f one_f) (sym solid) ∙ e in
      let k = (L.turning (turning_query f) f.pair).impact Solid s one_finite one_above e' in
      let i = solid_lies (quotient (turning_answer h f) one_f) s e' in
      (clean_fits s k.0, i.0, i.1)
    where
      solid_lies : (q : Option Float) (s : Float) → taken_if Solid q one_f ≡ Some s → T (lt zero_f s) × T (lt s one_f)
      solid_lies None s e = let z : ◌≡◌ {A = ℕ} 0 1 = cc in absurd (omega arith)
      solid_lies (Some q) s e = let i = strictly_is q one_f s e in (i.0, i.1)

  -- ---- what is found of a shape that is swept

  module _ (f : Flight) (t : TargetKind) where
    -- the casts of a shape that is swept: one turning cast, or one of each piece
    abbrev cast_by : List (ℕ × Sweep) → Bool → Casts
    cast_by ps b = cond b (casts.Turning (turning_answer h f)) (casts.Pieces (record { items = casts_of_pieces h f t ps }))

    found_by : (ps : List (ℕ × Sweep)) (b : Bool) → MatchBool b (ByTurning h f (reported h f (cast_by ps b))) (ByPieces h f t ps (reported h f (cast_by ps b)))
    found_by ps true = record { one_cast = refl; its_impact = refl }
    found_by ps false = record { all_cast = refl; least_impact = refl }

    impact_inner : (ps : List (ℕ × Sweep)) (b : Bool) (s : Float) → f.pair ≡ Solid → impact_of f.pair (cast_by ps b) ≡ Some s → Inner s
    impact_inner ps true s p i = turned_inner f s p i
    impact_inner ps false s p i = least_inner (impacts_of h f t ps) s (all_inner f t p ps) i

  -- ---- where the shape then stands

  module _ (f : Flight) where
    abbrev Reached : Pose → Type 0
    Reached p = InRange p × T (h.admits p)

    module _ (R : ranged_flight f ≡ true) (A : admitted_flight h f ≡ true) where
      ends : SweepAdmitted h (sweep_of f)
      ends =
          let r = passes (ranged_flight f) R in
          let a = passes (admitted_flight h f) A in
          let re = ranged_pose million f.end && ranged_pose million f.pose in
          let ae = h.admits f.end && h.admits f.pose in
          record {
            start_range = first_of (ranged_pose million f.start) re r;
            end_range = first_of (ranged_pose million f.end) (ranged_pose million f.pose) (second_of (ranged_pose million f.start) re r);
            start_admitted = first_of (h.admits f.start) ae a;
            end_admitted = first_of (h.admits f.end) (h.admits f.pose) (second_of (h.admits f.start) ae a);
          }

      end_reached : Reached f.end
      end_reached = (ends.end_range, ends.end_admitted)

      settled_reached : (p : PairKind) (i : Option Float) → ((s : Float) → p ≡ Solid → i ≡ Some s → Inner s) → Reached (settled_by h f p i)
      settled_reached Solid None k = end_reached
      settled_reached Solid (Some t) k = L.inside (sweep_of f) t (k t refl refl) ends
      settled_reached Pseudo i k = end_reached

    stopped_by : (p : PairKind) (i : Option Float) (t : Float) → p ≡ Solid → i ≡ Some t → settled_by h f p i ≡ h.pose_at (sweep_of f) t
    stopped_by p i t e k = ap (λ (x : PairKind). settled_by h f x i) e ∙ ap (settled_by h f Solid) k

    free_by : (p : PairKind) → settled_by h f p None ≡ f.end
    free_by Solid = refl
    free_by Pseudo = refl

    never_impact : (p : PairKind) (i : Option Float) → i ≡ None → settled_by h f p i ≡ f.end
    never_impact p i e = ap (settled_by h f p) e ∙ free_by p

    pseudo_free : (p : PairKind) (i : Option Float) → p ≡ Pseudo → settled_by h f p i ≡ f.end
    pseudo_free p i e = ap (λ (x : PairKind). settled_by h f x i) e

    -- ---- all of it

    module _ (R : ranged_flight f ≡ true) (A : admitted_flight h f ≡ true) where
      reported_found : (a b : ShapeKind) (s : Bool) → swept_by h f.fast a ≡ s
          → Found h f a b (reported h f (cond s (cast_by f (target_kind_of b) (pieces_of h a f.fast (sweep_of f)) (turns a (target_kind_of b))) casts.NeverSwept))
      reported_found a b true e =
          let ps = pieces_of h a f.fast (sweep_of f) in
          let t = target_kind_of b in
          let i = impact_of f.pair (cast_by f t ps (turns a t)) in
          record {
            never_swept = λ n. (let z : ◌≡◌ {A = Bool} true false = sym e ∙ n in cc);
            swept = λ _. found_by f t ps (turns a t);
            stopped = λ s p k. stopped_by f.pair i s p k;
            not_stopped = λ k. never_impact f.pair i k;
            noted_only = λ p. pseudo_free f.pair i p;
            in_reach = settled_reached R A f.pair i (λ s p k. impact_inner f t ps (turns a t) s p k);
          }
      reported_found a b false e = record {
        never_swept = λ _. ap (λ (p : Pose). record { casts = casts.NeverSwept; impact = None; stands = p }) (free_by f.pair);
        swept = λ k. (let z : ◌≡◌ {A = Bool} true false = sym k ∙ e in cc);
        stopped = λ t p k. (let z : ◌≡◌ {A = Option Float} None (Some t) = k in cc);
        not_stopped = λ _. free_by f.pair;
        noted_only = λ _. free_by f.pair;
        in_reach = settled_reached R A f.pair None (λ s p k. (let z : ◌≡◌ {A = Option Float} None (Some s) = k in cc));
      }

    flown_by_lem : (r a : Bool) → ranged_flight f ≡ r → admitted_flight h f ≡ a → (x y : Option ShapeKind) → h.kind f.fast ≡ x → h.kind f.target ≡ y
        → Flown h f (flown_by h f (cond r (cond a (both_known x y) (Err PoseNotAdmitted)) (Err NumberOutOfRange)))
    flown_by_lem false a R A x y k l = R
    flown_by_lem true false R A x y k l = (R, A)
    flown_by_lem true true R A None y k l = (R, A, inl k)
    flown_by_lem true true R A (Some x) None k l = (R, A, inr l)
    flown_by_lem true true R A (Some x) (Some y) k l = (x, y, k, l, reported_found R A x y (swept_by h f.fast x) refl)

    pub flown_law : Flown h f (flown h f)
    flown_law = flown_by_lem (ranged_flight f) (admitted_flight h f) refl refl (h.kind f.fast) (h.kind f.target) refl refl
