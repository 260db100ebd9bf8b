-- The sweep of a body goes through its admitted pairs, one after the other. Assumes nothing.
use Rattle.std.proofs.Common.{◌≡◌, ℕ, Bool, true, false, cond, not, ◌&&◌, T, List, [], ◌∷◌, Some, None, Option, unwrap_or, sym, refl, ap, ◌∙◌, subst}
use lib.Ieee.{Float, lt}
use Rattle.std.specs.List.{AllByRecursion, fold}
use Rattle.std.proofs.ByRecursion.{All-append}
use Rattle.std.proofs.lemmas.List.{take_all}
use Rattle.std.proofs.lemmas.List.Sums.{fold-append}
use Rattle.std.proofs.lemmas.Bool.{cond_both, or_left}
use Rattle.numbers.specs.Constants.{one_f}
use Rattle.geometry.specs.declared.handle.RigidBodyHandle.{RigidBodyHandle}
use Rattle.geometry.specs.declared.handle.ColliderHandle.{ColliderHandle}
use Rattle.outcomes.specs.declared.pair_kind.PairKind.TheVariants.{Solid, Pseudo}
use Rattle.spaces.specs.Spaces.{Written, with}
use Rattle.slots.specs.Store.{found}
use Rattle.records.specs.declared.rigid_body.RigidBody.{RigidBody}
use Rattle.records.specs.declared.collider.Collider.{Collider}
use Rattle.records.specs.declared.collider.ColliderParent.{ColliderParent}
use Rattle.records.specs.Lists.{listed}
use Rattle.search.specs.Searches.{accepted}
use Rattle.pairs.specs.Pairs.{Fast, fast, parent_body, admits, is_pseudo, pair_kind}
use Rattle.pair_casts.specs.declared.fast_shape.FastShape.{FastShape}
use Rattle.pair_casts.specs.PairCasts.{pair_taken}
use Rattle.sweeps.specs.declared.hall.PseudoHit.{PseudoHit}
use Rattle.sweeps.specs.declared.hall.PseudoHitMode.{PseudoHitMode}
use Rattle.sweeps.specs.declared.hall.PseudoHitMode.TheVariants.{Record, Ignore}
use Rattle.sweeps.specs.Env.{Env}
use Rattle.sweeps.specs.Sweeps.{Swept, judged, target_of, met, passed_over, candidate_in, candidates_swept, report_of, shape_swept, way_of, shape_of, collider_swept, takes_part, part_by, part_in, body_swept}
use Rattle.sweep_laws.specs.Fractions.{is_fraction, one_is_a_fraction}
use Rattle.sweep_laws.specs.Situations.{situation}
use Rattle.sweep_laws.specs.Pairs.{Pair, pseudo, impact_of}
use Rattle.sweep_laws.specs.Served.{Found}
use Rattle.sweep_laws.specs.SweepLaws.{pair_of, pair_in, pairs_of, pairs_if, pairs_by, pairs_at, pairs_from, admitted_pairs, swept_to}
use Rattle.sweep_laws.proofs.PairFacts.{PairFacts, test_for}

-- ---- the fold

-- the hit of a pair at a fraction
abbrev pub hit_at : ℕ → Pair → Float → PseudoHit
hit_at n x t = record { result = n; first = x.own; second = x.other; fraction = t }

-- what is accepted of a solid pair becomes the fraction, what is accepted of a pseudo pair is noted or left alone
abbrev pub taken : PseudoHitMode → Pair → Bool → Option Float → Swept → Swept
taken m x p None s = s
taken m x false (Some t) s = (s.0, t)
taken (Record n) x true (Some t) s = (with s.0 (hit_at n x t), s.1)
taken Ignore x true (Some t) s = s

-- one pair under the fraction that is reached, given the impacts of pairs
abbrev pub pair_met : (Pair → Option Float) → PseudoHitMode → Swept → Pair → Swept
pair_met impact m s x = taken m x (pseudo x) (accepted (test_for (pseudo x)) (impact x) s.1) s

abbrev pub pairs_met : (Pair → Option Float) → PseudoHitMode → Swept → List Pair → Swept
pairs_met impact m s xs = fold (pair_met impact m) s xs

-- the impact of a pair that is solid
abbrev pub solid_impact : (Pair → Option Float) → Pair → Option Float
solid_impact impact x = cond (pseudo x) None (impact x)

-- a pair that has a solid impact is solid, and that is its impact
pub solid_given : (impact : Pair → Option Float) (x : Pair) (t : Float) → solid_impact impact x ≡ Some t → (pseudo x ≡ false) × (impact x ≡ Some t)
solid_given impact x t =
    cond_both (pseudo x) None (impact x) (λ (o : Option Float). o ≡ Some t → (pseudo x ≡ false) × (impact x ≡ Some t))
    (λ p e. cc) (λ p e. (p, e))

module _ (impact : Pair → Option Float) (m : PseudoHitMode) where
  -- the fraction after one pair: only a solid impact below it changes it
  pub met_fraction : (s : Swept) (x : Pair) → (pair_met impact m s x).1 ≡ unwrap_or (accepted lt (solid_impact impact x) s.1) s.1
  met_fraction s x = by m (pseudo x) (impact x)
    where
      solid : (m : PseudoHitMode) (o : Option Float) → (taken m x false o s).1 ≡ unwrap_or o s.1
      solid m None = refl
      solid m (Some t) = refl

      seen : (m : PseudoHitMode) (o : Option Float) → (taken m x true o s).1 ≡ s.1
      seen m None = refl
      seen (Record n) (Some t) = refl
      seen Ignore (Some t) = refl

      by : (m : PseudoHitMode) (p : Bool) (o : Option Float)
          → (taken m x p (accepted (test_for p) o s.1) s).1 ≡ unwrap_or (accepted lt (cond p None o) s.1) s.1
      by m true o = seen m (accepted (test_for true) o s.1)
      by m false o = solid m (accepted lt o s.1)

-- a pseudo pair changes nothing where such pairs are ignored
pub ignored : (impact : Pair → Option Float) (s : Swept) (xs : List Pair) → AllByRecursion (λ x. pseudo x ≡ true) xs → pairs_met impact Ignore s xs ≡ s
ignored impact s [] a = refl
ignored impact s (x ∷ xs) a =
    ap (λ (z : Swept). pairs_met impact Ignore z xs) (by (pseudo x) a.0 (accepted (test_for (pseudo x)) (impact x) s.1)) ∙ ignored impact s xs a.1
  where
    still : (o : Option Float) → taken Ignore x true o s ≡ s
    still None = refl
    still (Some t) = refl

    by : (p : Bool) → p ≡ true → (o : Option Float) → taken Ignore x p o s ≡ s
    by p e o = subst (λ (q : Bool). taken Ignore x q o s ≡ s) (sym e) (still o)

-- ---- fractions stay fractions

module _ (impact : Pair → Option Float) (marks : (x : Pair) (t : Float) → impact x ≡ Some t → T (is_fraction t)) (m : PseudoHitMode) where
  -- after one pair
  pub met_mark : (s : Swept) (x : Pair) → T (is_fraction s.1) → T (is_fraction (pair_met impact m s x).1)
  met_mark s x k = subst (λ (t : Float). T (is_fraction t)) (sym (met_fraction impact m s x)) (by (solid_impact impact x) (λ t e. marks x t (solid_given impact x t e).1))
    where
      by : (o : Option Float) → ((t : Float) → o ≡ Some t → T (is_fraction t)) → T (is_fraction (unwrap_or (accepted lt o s.1) s.1))
      by None g = k
      by (Some t) g = cond_both (lt t s.1) (Some t) None (λ (o : Option Float). T (is_fraction (unwrap_or o s.1))) (λ e. g t refl) (λ e. k)

  -- after a list
  pub mets_mark : (s : Swept) (xs : List Pair) → T (is_fraction s.1) → T (is_fraction (pairs_met impact m s xs).1)
  mets_mark s [] k = k
  mets_mark s (x ∷ xs) k = mets_mark (pair_met impact m s x) xs (met_mark s x k)

-- ---- the candidates of a fast collider

-- what a cast finds is judged as the pair is taken
judged_taken : (m : PseudoHitMode) (f : Fast) (k : ColliderHandle) (c : Collider) (p : Bool) (o : Option Float) (s : Swept)
    → judged m f k (cond p Pseudo Solid) o s ≡ taken m (pair_of f k c) p o s
judged_taken m f k c true None s = refl
judged_taken m f k c false None s = refl
judged_taken (Record n) f k c true (Some t) s = refl
judged_taken Ignore f k c true (Some t) s = refl
judged_taken m f k c false (Some t) s = refl

-- a pair that is passed over would be left alone
passed_taken : (m : PseudoHitMode) (a b : Collider) (x : Pair) (o : Option Float) (s : Swept)
    → cond (not (passed_over m a b)) (taken m x (is_pseudo a b) o s) s ≡ taken m x (is_pseudo a b) o s
passed_taken (Record n) a b x o s = refl
passed_taken Ignore a b x o s = by (is_pseudo a b) o
  where
    by : (p : Bool) (o : Option Float) → cond (not p) (taken Ignore x p o s) s ≡ taken Ignore x p o s
    by true None = refl
    by true (Some t) = refl
    by false o = refl

module _ (e : Env) (m : PseudoHitMode) (f : Fast) (q : FastShape) (impact : Pair → Option Float)
    (marks : (x : Pair) (t : Float) → impact x ≡ Some t → T (is_fraction t))
    (law : (k : ColliderHandle) (c : Collider) (t : Float) → T (is_fraction t)
    → pair_taken e.host e.step (target_of e.host f c (parent_body e.bodies c.parent)) q t
    ≡ accepted (test_for (pseudo (pair_of f k c))) (impact (pair_of f k c)) t) where
  -- a candidate is met as its pair, if it is admitted
  candidate_met : (k : ColliderHandle) (o : Option Collider) (s : Swept) → T (is_fraction s.1)
      → candidate_in e m f q k o s ≡ pairs_met impact m s (pair_in e f k o)
  candidate_met k None s g = refl
  candidate_met k (Some c) s g = by (admits e.keeps f k c (parent_body e.bodies c.parent))
    where
      cast : met e m f q k c (parent_body e.bodies c.parent) s ≡ pair_met impact m s (pair_of f k c)
      cast =
          ap (λ (o : Option Float). judged m f k (pair_kind f.collider c) o s) (law k c s.1 g)
          ∙ judged_taken m f k c (is_pseudo f.collider c) (accepted (test_for (pseudo (pair_of f k c))) (impact (pair_of f k c)) s.1) s

      by : (a : Bool)
          → cond (a && not (passed_over m f.collider c)) (met e m f q k c (parent_body e.bodies c.parent) s) s
          ≡ pairs_met impact m s (cond a (pair_of f k c ∷ []) [])
      by true =
          ap (λ (z : Swept). cond (not (passed_over m f.collider c)) z s) cast
          ∙ passed_taken m f.collider c (pair_of f k c) (accepted (test_for (pseudo (pair_of f k c))) (impact (pair_of f k c)) s.1) s
      by false = refl

  -- candidates are met as the pairs of a report
  candidates_met : (ks : List ColliderHandle) (s : Swept) → T (is_fraction s.1)
      → candidates_swept e m f q s ks ≡ pairs_met impact m s (pairs_of e f ks)
  candidates_met [] s g = refl
  candidates_met (k ∷ ks) s g =
      let xs = pair_in e f k (found e.colliders k.0) in
      ap (λ (z : Swept). candidates_swept e m f q z ks) (candidate_met k (found e.colliders k.0) s g)
      ∙ candidates_met ks (pairs_met impact m s xs) (mets_mark impact marks m s xs g)
      ∙ sym (fold-append (pair_met impact m) s xs (pairs_of e f ks))

-- ---- the colliders of a body

-- a collider takes part, or it has no pairs, or they are all pseudo and ignored
takes_met : (m : PseudoHitMode) (c : Collider) (impact : Pair → Option Float) (s z : Swept) (xs : List Pair) → z ≡ pairs_met impact m s xs
    → (c.sensor ≡ true → AllByRecursion (λ x. pseudo x ≡ true) xs) → cond (takes_part m c) z s ≡ pairs_met impact m s (cond c.enabled xs [])
takes_met (Record n) c impact s z xs w a = by c.enabled
  where
    by : (t : Bool) → cond t z s ≡ pairs_met impact (Record n) s (cond t xs [])
    by true = w
    by false = refl
takes_met Ignore c impact s z xs w a = by c.enabled c.sensor a
  where
    by : (t u : Bool) → (u ≡ true → AllByRecursion (λ x. pseudo x ≡ true) xs) → cond (t && not u) z s ≡ pairs_met impact Ignore s (cond t xs [])
    by true true a = sym (ignored impact s xs (a refl))
    by true false a = w
    by false u a = refl

-- all pairs of a sensor are pseudo
module _ (e : Env) (f : Fast) (sensor : f.collider.sensor ≡ true) where
  -- of one candidate
  one_pseudo : (k : ColliderHandle) (o : Option Collider) → AllByRecursion (λ x. pseudo x ≡ true) (pair_in e f k o)
  one_pseudo k None = tt
  one_pseudo k (Some c) =
      cond_both (admits e.keeps f k c (parent_body e.bodies c.parent)) (pair_of f k c ∷ []) [] (AllByRecursion (λ x. pseudo x ≡ true))
      (λ a. (or_left f.collider.sensor _ sensor, tt)) (λ a. tt)

  -- of a report
  sensor_pseudo : (ks : List ColliderHandle) → AllByRecursion (λ x. pseudo x ≡ true) (pairs_of e f ks)
  sensor_pseudo [] = tt
  sensor_pseudo (k ∷ ks) =
      All-append (λ x. pseudo x ≡ true) (pair_in e f k (found e.colliders k.0)) (pairs_of e f ks)
      (one_pseudo k (found e.colliders k.0)) (sensor_pseudo ks)

  -- of a shape
  shape_pseudo : (p : ColliderParent) (q : Option FastShape) → AllByRecursion (λ x. pseudo x ≡ true) (pairs_if e f p q)
  shape_pseudo p None = tt
  shape_pseudo p (Some q) = sensor_pseudo (report_of e f (way_of e f p.relative))

module _ (e : Env) (room : ℕ) (m : PseudoHitMode) (h : RigidBodyHandle) (b : RigidBody) (facts : PairFacts e) (fnd : Found e b room) where
  -- a swept shape meets the pairs of its collider
  shape_met : (k : ColliderHandle) (c : Collider) (p : ColliderParent) → c.parent ≡ Some p
      → (q : Option FastShape) → shape_of e (fast h b k c) p.relative ≡ q → (s : Swept) → T (is_fraction s.1)
      → shape_swept e room m (fast h b k c) (way_of e (fast h b k c) p.relative) q s ≡ pairs_met (impact_of (situation e) b) m s (pairs_if e (fast h b k c) p q)
  shape_met k c p a None w s g = refl
  shape_met k c p a (Some q) w s g =
      let f = fast h b k c in
      let ks = report_of e f (way_of e f p.relative) in
      ap (λ (l : List ColliderHandle). candidates_swept e m f q s l) (take_all room ks (fnd.roomy _ e.step.prediction))
      ∙ candidates_met e m f q (impact_of (situation e) b) (facts.marks b) (λ k d t. facts.capped f p q k d a w t) ks s g

  -- and so does a collider that has a body or none
  by_met : (k : ColliderHandle) (c : Collider) (p : Option ColliderParent) → c.parent ≡ p → (s : Swept) → T (is_fraction s.1)
      → part_by e room m (fast h b k c) p s ≡ pairs_met (impact_of (situation e) b) m s (pairs_by e (fast h b k c) p)
  by_met k c None a s g = refl
  by_met k c (Some p) a s g =
      let f = fast h b k c in
      let q = shape_of e f p.relative in
      takes_met m c (impact_of (situation e) b) s (collider_swept e room m f p.relative s) (pairs_if e f p q) (shape_met k c p a q refl s g)
      (λ z. shape_pseudo e f z p q)

  -- that is live or not
  part_met : (k : ColliderHandle) (o : Option Collider) (s : Swept) → T (is_fraction s.1)
      → part_in e room m h b k o s ≡ pairs_met (impact_of (situation e) b) m s (pairs_at e h b k o)
  part_met k None s g = refl
  part_met k (Some c) s g = by_met k c c.parent refl s g

  -- and all colliders of a list
  body_met : (ks : List ColliderHandle) (s : Swept) → T (is_fraction s.1)
      → body_swept e room m h b s ks ≡ pairs_met (impact_of (situation e) b) m s (pairs_from e h b ks)
  body_met [] s g = refl
  body_met (k ∷ ks) s g =
      let i = impact_of (situation e) b in
      let xs = pairs_at e h b k (found e.colliders k.0) in
      ap (λ (z : Swept). body_swept e room m h b z ks) (part_met k (found e.colliders k.0) s g)
      ∙ body_met ks (pairs_met i m s xs) (mets_mark i (facts.marks b) m s xs g)
      ∙ sym (fold-append (pair_met i m) s xs (pairs_from e h b ks))

-- the sweep of a body meets its admitted pairs one after the other
pub swept_met : (e : Env) (room : ℕ) (m : PseudoHitMode) (h : RigidBodyHandle) (b : RigidBody) (w : Written PseudoHit)
    → PairFacts e → Found e b room
    → swept_to e room m h b w ≡ pairs_met (impact_of (situation e) b) m (w, one_f) (admitted_pairs e h b)
swept_met e room m h b w facts fnd = body_met e room m h b facts fnd (listed b.colliders) (w, one_f) one_is_a_fraction
