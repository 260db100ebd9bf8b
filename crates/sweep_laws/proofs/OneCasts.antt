-- The cap law of one cast of a pair, of a piece or of the whole shape. Assumes nothing.
use Rattle.std.proofs.Common.{◌≡◌, ℕ, Bool, true, false, cond, ◌&&◌, T, eqb, Some, None, Option, sym, refl, ap, ◌∙◌, subst, inl, inr}
use lib.Ieee.{Float, lt, le, eq}
use Rattle.std.specs.Bool.{passes}
use Rattle.std.specs.Float.Order.{le_of_lt}
use Rattle.numbers.specs.Constants.{zero_f, one_f}
use Rattle.numbers.proofs.Ranges.{both}
use Rattle.outcomes.specs.declared.pair_kind.PairKind.{PairKind}
use Rattle.outcomes.specs.declared.pair_kind.PairKind.TheVariants.{Solid, Pseudo}
use Rattle.outcomes.specs.declared.cast_outcome.CastOutcome.{CastOutcome}
use Rattle.outcomes.specs.Outcomes.{status_number, fraction_of}
use Rattle.outcomes.specs.Impacts as I
use Rattle.outcomes.specs.Impacts.{clean, Cap, upto, taken_of, taken_at, solid_at, pseudo_at, below, at_most, under, quotient, turned_of, SolidLaw, PseudoLaw, CleanLaw}
use Rattle.outcomes.proofs.Caps.{cap_one, strictly_is}
use Rattle.hosts.specs.declared.questions.CastQuery.{CastQuery}
use Rattle.hosts.specs.declared.questions.Motion.{Motion}
use Rattle.hosts.specs.Hosts.{Answers}
use Rattle.hosts.specs.HostLaws.{Lawful as LawfulHost}
use Rattle.search.specs.Searches.{accepted}
use Rattle.search.specs.Laws.{Accepts, Capped}
use Rattle.casts.specs.declared.pieces.TargetKind.{TargetKind}
use Rattle.casts.specs.declared.pieces.TargetKind.TheVariants.{Proxy, Composite, Turning}
use Rattle.casts.specs.Pieces.{cast_at}
use Rattle.pair_casts.specs.declared.fast_shape.FastSubShape.{FastSubShape}
use Rattle.pair_casts.specs.declared.target.Step.{Step}
use Rattle.pair_casts.specs.declared.target.Target.{Target}
use Rattle.pair_casts.specs.PairCasts.{taken_if, query_of, sub_shape_taken, turning_query, turning_taken}
use Rattle.sweep_laws.specs.Fractions.{is_fraction, from_zero, to_one, is_clean, fractions}
use Rattle.sweep_laws.specs.Situations.{Lasts}

-- ---- the test of a kind of pair

-- a solid pair accepts what lies below the cap, a pseudo one what is at most the cap
abbrev pub test_of : PairKind → Float → Float → Bool
test_of Solid = lt
test_of Pseudo = le

pub accepts : (p : PairKind) → Accepts fractions (test_of p)
accepts Solid = inl refl
accepts Pseudo = inr refl

-- what is left of an impact under a cap is what the test accepts
under_accepted : (p : PairKind) (i : Option Float) (c : Float) → under p i c ≡ accepted (test_of p) i c
under_accepted Solid None c = refl
under_accepted Solid (Some m) c = refl
under_accepted Pseudo None c = refl
under_accepted Pseudo (Some m) c = refl

-- a fraction is a cap
cap_of : (c : Float) → T (is_fraction c) → Cap c
cap_of c d = (from_zero c d, to_one c d, is_clean c d)

-- an impact of a pair: a fraction that the test accepts at the cap 1
abbrev pub Marked : PairKind → Float → Type 0
Marked p m = T (is_fraction m) × T (test_of p m one_f)

test_le : (p : PairKind) (m c : Float) → T (test_of p m c) → T (le m c)
test_le Solid m c t = le_of_lt m c t
test_le Pseudo m c t = t

marked_of : (p : PairKind) (m : Float) → T (clean m) → T (le zero_f m) → T (test_of p m one_f) → Marked p m
marked_of p m k l t = (both (le zero_f m) (le m one_f && clean m) l (both (le m one_f) (clean m) (test_le p m one_f t) k), t)

-- ---- what is taken

upto_by : (f c m : Float) (b : Bool) → le f c ≡ b → ◌≡◌ {A = Option Float} (cond b (Some f) None) (Some m) → (f ≡ m) × T (le m c)
upto_by f c m true t e = let same : f ≡ m = cc in (same, subst (λ (x : Float). T (le x c)) same (passes (le f c) t))
upto_by f c m false t e = cc

-- what is taken at a cap is the fraction itself, and the test accepts it
at_is : (p : PairKind) (f c m : Float) → taken_at p f c ≡ Some m → (f ≡ m) × T (test_of p m c)
at_is Solid f c m e = let i = strictly_is f c m e in (i.2, i.1)
at_is Pseudo f c m e = upto_by f c m (le f c) refl e

if_test : (p : PairKind) (q : Option Float) (i : Float) → I.taken_if p q one_f ≡ Some i → T (test_of p i one_f)
if_test p None i e = cc
if_test p (Some f) i e = (at_is p f one_f i e).1

unless_by : (o : CastOutcome) (c m : Float) (b : Bool) → ◌≡◌ {A = Option Float} (cond b None (upto (fraction_of o) c)) (Some m) → taken_at Pseudo (fraction_of o) c ≡ Some m
unless_by o c m true e = cc
unless_by o c m false e = e

of_at : (p : PairKind) (o : CastOutcome) (c m : Float) → taken_of p o c ≡ Some m → taken_at p (fraction_of o) c ≡ Some m
of_at Solid o c m e = e
of_at Pseudo o c m e = unless_by o c m (eqb (status_number o) 3) e

-- ---- a cast of a piece, known by its answer at each cap

abbrev LawAt : PairKind → (Float → Option CastOutcome) → Type 0
LawAt Solid cast = SolidLaw cast
LawAt Pseudo cast = PseudoLaw cast

if_solid : (o : Option CastOutcome) (c : Float) → taken_if Solid o c ≡ solid_at o c
if_solid None c = refl
if_solid (Some o) c = refl

if_pseudo : (o : Option CastOutcome) (c : Float) → taken_if Pseudo o c ≡ pseudo_at o c
if_pseudo None c = refl
if_pseudo (Some o) c = refl

solid_above : (o : Option CastOutcome) (m : Float) → taken_if Solid o one_f ≡ Some m → T (le zero_f m)
solid_above None m e = cc
solid_above (Some o) m e = le_of_lt zero_f m (strictly_is (fraction_of o) one_f m e).0

module _ (cast : Float → Option CastOutcome) where
  -- what is taken at a cap is what is left of the impact
  cast_under : (p : PairKind) → LawAt p cast → (c : Float) → Cap c → taken_if p (cast c) c ≡ under p (taken_if p (cast one_f) one_f) c
  cast_under Solid law c C = if_solid (cast c) c ∙ law.capped c C ∙ sym (ap (λ (i : Option Float). below i c) (if_solid (cast one_f) one_f))
  cast_under Pseudo law c C = if_pseudo (cast c) c ∙ law.capped c C ∙ sym (ap (λ (i : Option Float). at_most i c) (if_pseudo (cast one_f) one_f))

  -- no impact lies below 0
  cast_above : (p : PairKind) → LawAt p cast → (m : Float) → taken_if p (cast one_f) one_f ≡ Some m → T (le zero_f m)
  cast_above Solid law m e = solid_above (cast one_f) m e
  cast_above Pseudo law m e = law.from_zero m (sym (if_pseudo (cast one_f) one_f) ∙ e)

  cast_marked_by : (p : PairKind) → LawAt p cast → CleanLaw cast → (o : Option CastOutcome) → cast one_f ≡ o → (m : Float) → taken_if p o one_f ≡ Some m → T (le zero_f m) → Marked p m
  cast_marked_by p law k None i m e l = cc
  cast_marked_by p law k (Some o) i m e l =
      let a = at_is p (fraction_of o) one_f m (of_at p o one_f m e) in
      marked_of p m (subst (λ (x : Float). T (clean x)) a.0 (k.fraction one_f cap_one o i)) l a.1

  cast_marked : (p : PairKind) → LawAt p cast → CleanLaw cast → (m : Float) → taken_if p (cast one_f) one_f ≡ Some m → Marked p m
  cast_marked p law k m e = cast_marked_by p law k (cast one_f) refl m e (cast_above p law m e)

-- ---- the casts of a lawful host

-- the impact of a piece
abbrev pub piece_impact : Answers → Step → Target → TargetKind → FastSubShape → Option Float
piece_impact h s t k q = sub_shape_taken h s t k q one_f

-- the impact of one turning cast of the whole shape
abbrev pub turning_impact : Answers → Step → Target → ℕ → Motion → Option Float
turning_impact h s t fast m = turning_taken h s t fast m one_f

module _ (h : Answers) (L : LawfulHost h) where
  host_law : (q : CastQuery) (k : TargetKind) (p : PairKind) → LawAt p (λ c. cast_at h q k p c)
  host_law q Proxy Solid = L.proxy_solid q
  host_law q Proxy Pseudo = L.proxy_pseudo q
  host_law q Composite Solid = L.composite_solid q
  host_law q Composite Pseudo = L.composite_pseudo q
  host_law q Turning Solid = record { capped = λ c C. refl }
  host_law q Turning Pseudo = record { capped = λ c C. refl; from_zero = λ m e. cc }

  host_clean : (q : CastQuery) (k : TargetKind) (p : PairKind) → CleanLaw (λ c. cast_at h q k p c)
  host_clean q Proxy p = L.proxy_clean q
  host_clean q Composite p = L.composite_clean q p
  host_clean q Turning p = record { fraction = λ c C o e. cc }

  module _ (s : Step) (t : Target) where
    -- the impact of a piece is a fraction that the test accepts at the cap 1
    pub piece_marked : (k : TargetKind) (q : FastSubShape) (m : Float) → piece_impact h s t k q ≡ Some m → Marked t.pair m
    piece_marked k q m e =
        let u = query_of t s.slop q in
        cast_marked (λ c. cast_at h u k t.pair c) t.pair (host_law u k t.pair) (host_clean u k t.pair) m e

    -- pieces keep the cap law
    pub piece_capped : (k : TargetKind) → Capped fractions (test_of t.pair) (sub_shape_taken h s t k) (piece_impact h s t k)
    piece_capped k = record {
      marks = λ q m e. (piece_marked k q m e).0;
      capped = λ q c d. (let u = query_of t s.slop q in
          cast_under (λ x. cast_at h u k t.pair x) t.pair (host_law u k t.pair) c (cap_of c d)
          ∙ under_accepted t.pair (piece_impact h s t k q) c);
    }

    -- ---- a turning cast

    module _ (fast : ℕ) (m : Motion) where
      abbrev turned : Bool → Float → Option Float
      turned b c = cond b None (turned_of t.pair (h.turning_cast (turning_query s t fast m) t.pair) s.dt c)

      turned_capped : (b : Bool) (c : Float) → T (is_fraction c) → turned b c ≡ accepted (test_of t.pair) (turned b one_f) c
      turned_capped true c d = refl
      turned_capped false c d =
          (L.turning (turning_query s t fast m) t.pair).capped t.pair c (cap_of c d) ∙ under_accepted t.pair (turned false one_f) c

      -- what is taken of a turning cast at a cap is what is left of its impact
      pub turning_capped : (c : Float) → T (is_fraction c) → turning_taken h s t fast m c ≡ accepted (test_of t.pair) (turning_impact h s t fast m) c
      turning_capped c d = turned_capped (eq s.dt zero_f) c d

      module _ (l : Lasts s) where
        turned_marked : (b : Bool) (i : Float) → turned b one_f ≡ Some i → Marked t.pair i
        turned_marked true i e = cc
        turned_marked false i e =
            let o = h.turning_cast (turning_query s t fast m) t.pair in
            let k = (L.turning (turning_query s t fast m) t.pair).impact t.pair i l.0 l.1 e in
            marked_of t.pair i k.0 k.1 (if_test t.pair (quotient o s.dt) i e)

        -- its impact is a fraction that the test accepts at the cap 1
        pub turning_marked : (i : Float) → turning_impact h s t fast m ≡ Some i → Marked t.pair i
        turning_marked i e = turned_marked (eq s.dt zero_f) i e
