-- A cast that is known by the time of its meeting keeps the cap law. Assumes nothing.
use Rattle.std.proofs.Common.{◌≡◌, ℕ, Bool, true, false, cond, T, Some, None, Option, sym, refl, ap, ◌∙◌, subst, arith}
use lib.Ieee.{Float, lt, le}
use Rattle.std.specs.Bool.{passes}
use Rattle.std.specs.Float.Order.{lt_irrefl, le_of_lt}
use Rattle.numbers.specs.Constants.{zero_f, one_f}
use Rattle.numbers.proofs.Order.{not_both}
use Rattle.outcomes.specs.declared.cast_outcome.CastOutcome.{CastOutcome}
use Rattle.outcomes.specs.declared.cast_outcome.CastOutcome.TheVariants.{Hit, Overlapped, Separated}
use Rattle.outcomes.specs.Outcomes.{fraction_of}
use Rattle.outcomes.specs.Impacts.{clean, Cap, strictly, upto, solid_of, pseudo_of, solid_at, pseudo_at, below, at_most, SolidLaw, PseudoLaw, CleanLaw}
use Rattle.outcomes.proofs.Caps.{off, on, strictly_none, strictly_under}
use Rattle.strokes.specs.Strokes.{touched, answered, answered_if_met}
use Rattle.strokes.specs.Laws.{Timely, Met}

-- ---- solid pairs

fraction_by : (t : Float) (b : Bool) → fraction_of (cond b (Hit t) (Overlapped t)) ≡ t
fraction_by t true = refl
fraction_by t false = refl

fraction_touched : (t : Float) → fraction_of (touched t) ≡ t
fraction_touched t = fraction_by t (lt zero_f t)

at_one : (t : Float) → Timely t → answered (Some t) one_f ≡ touched t
at_one t m = ap (λ (b : Bool). cond b (Separated one_f) (touched t)) (off (lt one_f t) (λ h. not_both t one_f m.high h))

solid_one : (t : Float) → Timely t → solid_of (answered (Some t) one_f) one_f ≡ strictly t one_f
solid_one t m = ap (λ (o : CastOutcome). solid_of o one_f) (at_one t m) ∙ ap (λ (f : Float). strictly f one_f) (fraction_touched t)

solid_some : (t c : Float) → Cap c → (b : Bool) → lt c t ≡ b → solid_of (cond b (Separated c) (touched t)) c ≡ below (strictly t one_f) c
solid_some t c C true e =
    strictly_none c c (lt_irrefl c)
    ∙ (sym (strictly_none t c (λ h. not_both t c (le_of_lt t c h) (passes (lt c t) e)))
    ∙ strictly_under t c C.1)
solid_some t c C false e = ap (λ (f : Float). strictly f c) (fraction_touched t) ∙ strictly_under t c C.1

pub solid_capped : (o : Option Float) → Met o → (c : Float) → Cap c → solid_of (answered o c) c ≡ below (solid_of (answered o one_f) one_f) c
solid_capped None m c C = strictly_none c c (lt_irrefl c) ∙ sym (ap (λ (x : Option Float). below x c) (strictly_none one_f one_f (lt_irrefl one_f)))
solid_capped (Some t) m c C = solid_some t c C (lt c t) refl ∙ sym (ap (λ (x : Option Float). below x c) (solid_one t m))

-- ---- pseudo pairs

pseudo_by : (t c : Float) (b : Bool) → pseudo_of (cond b (Hit t) (Overlapped t)) c ≡ upto t c
pseudo_by t c true = refl
pseudo_by t c false = refl

pseudo_touched : (t c : Float) → pseudo_of (touched t) c ≡ upto t c
pseudo_touched t c = pseudo_by t c (lt zero_f t)

pub upto_one : (t : Float) → Timely t → upto t one_f ≡ Some t
upto_one t m = ap (λ (b : Bool). cond b (Some t) None) (on (le t one_f) m.high)

pseudo_one : (t : Float) → Timely t → pseudo_of (answered (Some t) one_f) one_f ≡ Some t
pseudo_one t m = ap (λ (o : CastOutcome). pseudo_of o one_f) (at_one t m) ∙ (pseudo_touched t one_f ∙ upto_one t m)

pseudo_some : (t c : Float) → (b : Bool) → lt c t ≡ b → pseudo_of (cond b (Separated c) (touched t)) c ≡ upto t c
pseudo_some t c true e = sym (ap (λ (b : Bool). cond b (Some t) None) (off (le t c) (λ h. not_both t c h (passes (lt c t) e))))
pseudo_some t c false e = pseudo_touched t c

pub pseudo_capped : (o : Option Float) → Met o → (c : Float) → Cap c → pseudo_of (answered o c) c ≡ at_most (pseudo_of (answered o one_f) one_f) c
pseudo_capped None m c C = refl
pseudo_capped (Some t) m c C = pseudo_some t c (lt c t) refl ∙ sym (ap (λ (x : Option Float). at_most x c) (pseudo_one t m))

pub pseudo_low : (o : Option Float) → Met o → (p : Float) → pseudo_of (answered o one_f) one_f ≡ Some p → T (le zero_f p)
pseudo_low None m p e = let z : ◌≡◌ {A = ℕ} 0 1 = cc in absurd (omega arith)
pseudo_low (Some t) m p e =
    let i = pseudo_one t m in
    let same : t ≡ p = cc in
    subst (λ (x : Float). T (le zero_f x)) same m.low

-- ---- no fraction is NaN or minus zero

clean_by : (t c : Float) → T (clean t) → T (clean c) → (b : Bool) → T (clean (fraction_of (cond b (Separated c) (touched t))))
clean_by t c p q true = q
clean_by t c p q false = subst (λ (x : Float). T (clean x)) (sym (fraction_touched t)) p

pub clean_capped : (o : Option Float) → Met o → (c : Float) → Cap c → T (clean (fraction_of (answered o c)))
clean_capped None m c C = C.2
clean_capped (Some t) m c C = clean_by t c m.plain C.2 (lt c t)

-- ---- a composite cast that answers nothing where a proxy cast is separated

if_met_solid_by : (t c : Float) (b : Bool) → solid_at (cond b None (Some (touched t))) c ≡ solid_of (cond b (Separated c) (touched t)) c
if_met_solid_by t c true = sym (strictly_none c c (lt_irrefl c))
if_met_solid_by t c false = refl

if_met_solid : (o : Option Float) (c : Float) → solid_at (answered_if_met o c) c ≡ solid_of (answered o c) c
if_met_solid None c = sym (strictly_none c c (lt_irrefl c))
if_met_solid (Some t) c = if_met_solid_by t c (lt c t)

if_met_pseudo_by : (t c : Float) (b : Bool) → pseudo_at (cond b None (Some (touched t))) c ≡ pseudo_of (cond b (Separated c) (touched t)) c
if_met_pseudo_by t c true = refl
if_met_pseudo_by t c false = refl

if_met_pseudo : (o : Option Float) (c : Float) → pseudo_at (answered_if_met o c) c ≡ pseudo_of (answered o c) c
if_met_pseudo None c = refl
if_met_pseudo (Some t) c = if_met_pseudo_by t c (lt c t)

if_met_is_by : (t c : Float) (a : CastOutcome) (b : Bool) → ◌≡◌ {A = Option CastOutcome} (cond b None (Some (touched t))) (Some a) → cond b (Separated c) (touched t) ≡ a
if_met_is_by t c a true e = let z : ◌≡◌ {A = ℕ} 0 1 = cc in absurd (omega arith)
if_met_is_by t c a false e = cc

if_met_is : (o : Option Float) (c : Float) (a : CastOutcome) → answered_if_met o c ≡ Some a → answered o c ≡ a
if_met_is None c a e = let z : ◌≡◌ {A = ℕ} 0 1 = cc in absurd (omega arith)
if_met_is (Some t) c a e = if_met_is_by t c a (lt c t) e

-- ---- the laws

pub proxy_solid_law : (o : Option Float) → Met o → SolidLaw (λ c. Some (answered o c))
proxy_solid_law o m = record { capped = solid_capped o m }

pub proxy_pseudo_law : (o : Option Float) → Met o → PseudoLaw (λ c. Some (answered o c))
proxy_pseudo_law o m = record { capped = pseudo_capped o m; from_zero = pseudo_low o m }

pub proxy_clean_law : (o : Option Float) → Met o → CleanLaw (λ c. Some (answered o c))
proxy_clean_law o m = record { fraction = λ c C a e. let same : answered o c ≡ a = cc in subst (λ (x : CastOutcome). T (clean (fraction_of x))) same (clean_capped o m c C) }

pub composite_solid_law : (o : Option Float) → Met o → SolidLaw (answered_if_met o)
composite_solid_law o m = record { capped = λ c C. if_met_solid o c ∙ (solid_capped o m c C ∙ sym (ap (λ (x : Option Float). below x c) (if_met_solid o one_f))) }

pub composite_pseudo_law : (o : Option Float) → Met o → PseudoLaw (answered_if_met o)
composite_pseudo_law o m = record {
  capped = λ c C. if_met_pseudo o c ∙ (pseudo_capped o m c C ∙ sym (ap (λ (x : Option Float). at_most x c) (if_met_pseudo o one_f)));
  from_zero = λ p e. pseudo_low o m p (sym (if_met_pseudo o one_f) ∙ e);
}

pub composite_clean_law : (o : Option Float) → Met o → CleanLaw (answered_if_met o)
composite_clean_law o m = record { fraction = λ c C a e. subst (λ (x : CastOutcome). T (clean (fraction_of x))) (if_met_is o c a e) (clean_capped o m c C) }
