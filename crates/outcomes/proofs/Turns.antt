-- The cap law of turning casts. Assumes nothing.
use Rattle.std.proofs.Common.{◌≡◌, ℕ, Bool, true, false, cond, not, ◌&&◌, T, Some, None, Option, Ok, Err, sym, refl, ap, ◌∙◌, subst, arith}
use lib.Ieee.{Float, binary32, div, eq, fits, is_nan, lt, le, unlike}
use lib.Ieee.Fits.{div-fits}
use lib.Ieee.Scale.{finite}
use Rattle.std.specs.Float.{is_sign_negative}
use Rattle.std.specs.Bool.{passes, fails}
use Rattle.std.specs.Float.Order.{le_left, le_right}
use Rattle.numbers.specs.Constants.{zero_f, one_f}
use Rattle.numbers.specs.Reals.{is_zero}
use Rattle.numbers.proofs.Least.{above_not_zero, above_plain}
use Rattle.numbers.proofs.Literals.{zero_is}
use Rattle.numbers.proofs.Order.{not_lt}
use Rattle.numbers.proofs.Quotient.{div_number, div_sign, div_above}
use Rattle.numbers.proofs.Ranges.{both}
use Rattle.numbers.proofs.Units.{not_same}
use Rattle.outcomes.specs.declared.pair_kind.PairKind.{PairKind}
use Rattle.outcomes.specs.declared.pair_kind.PairKind.TheVariants.{Solid, Pseudo}
use Rattle.outcomes.specs.Impacts.{clean, Timed, quotient, taken_at, taken_if, under, TurnsUnderCaps}
use Rattle.outcomes.proofs.Caps.{strictly_under, upto_under, strictly_is, upto_is, not_left, clean_plain}

-- ---- the cap

taken_under : (p : PairKind) (f c : Float) → T (le c one_f) → taken_at p f c ≡ under p (taken_at p f one_f) c
taken_under Solid f c h = strictly_under f c h
taken_under Pseudo f c h = upto_under f c h

under_none : (p : PairKind) (c : Float) → None ≡ under p None c
under_none Solid c = refl
under_none Pseudo c = refl

if_under : (p : PairKind) (q : Option Float) (c : Float) → T (le c one_f) → taken_if p q c ≡ under p (taken_if p q one_f) c
if_under p None c h = under_none p c
if_under p (Some f) c h = taken_under p f c h

-- ---- what is taken is the quotient

taken_is : (p : PairKind) (f c i : Float) → taken_at p f c ≡ Some i → f ≡ i
taken_is Solid f c i e = (strictly_is f c i e).2
taken_is Pseudo f c i e = upto_is f c i e

-- ---- the quotient of a time and a dt above 0

above_zero : (dt : Float) → T (le zero_f dt) → eq dt zero_f ≡ false → (b : Bool) → lt zero_f dt ≡ b → T (lt zero_f dt)
above_zero dt l e true t = passes (lt zero_f dt) t
above_zero dt l e false t = absurd (not_same dt zero_f e (not_lt zero_f dt (le_left zero_f dt l) (le_right zero_f dt l) t, l))

alike : (s t : Bool) → s ≡ false → t ≡ false → unlike s t ≡ false
alike s t p q = ap (λ (x : Bool). unlike x t) p ∙ ap (λ (x : Bool). unlike false x) q

plain_quotient : (t dt : Float) → Timed t → T (finite dt) → T (lt zero_f dt) → T (clean (div binary32 t dt)) × T (le zero_f (div binary32 t dt))
plain_quotient t dt k d l =
    let l' = subst (λ (z : Float). T (lt z dt)) zero_is l in
    let nz = above_not_zero dt l' in
    let s = alike (is_sign_negative t) (is_sign_negative dt) (clean_plain t k.1 k.2) (above_plain dt l') in
    let q = div binary32 t dt in
    let plus : is_sign_negative q ≡ false = div_sign binary32 t dt k.0 d nz ∙ s in (
      both (fits binary32 q) (not (is_nan q) && not (is_sign_negative q && is_zero q)) (div-fits binary32 t dt)
          (both (not (is_nan q)) (not (is_sign_negative q && is_zero q)) (div_number binary32 t dt k.0 d nz) (not_left (is_sign_negative q) (is_zero q) (fails (is_sign_negative q) plus))),
      subst (λ (z : Float). T (le z q)) (sym zero_is) (div_above binary32 t dt k.0 d nz s),
    )

module _ (t dt : Float) (k : Timed t) where
  time_impact : (p : PairKind) (i : Float) → T (finite dt) → T (le zero_f dt) → (b : Bool) → eq dt zero_f ≡ b → taken_if p (cond b None (Some (div binary32 t dt))) one_f ≡ Some i → T (clean i) × T (le zero_f i)
  time_impact p i d l true e h = let z : ◌≡◌ {A = ℕ} 0 1 = cc in absurd (omega arith)
  time_impact p i d l false e h =
      subst (λ (x : Float). T (clean x) × T (le zero_f x)) (taken_is p (div binary32 t dt) one_f i h)
      (plain_quotient t dt k d (above_zero dt l e (lt zero_f dt) refl))

  time_still : (p : PairKind) (c : Float) → eq dt zero_f ≡ true → taken_if p (cond (eq dt zero_f) None (Some (div binary32 t dt))) c ≡ None
  time_still p c e = ap (λ (b : Bool). taken_if p (cond b None (Some (div binary32 t dt))) c) e

nothing_taken : (i : Float) → ◌≡◌ {A = Option Float} None (Some i) → ⊥
nothing_taken i e = let z : ◌≡◌ {A = ℕ} 0 1 = cc in omega arith

pub turns_under_caps : TurnsUnderCaps
turns_under_caps (Ok (Some t)) dt h = record {
  capped = λ p c C. if_under p (quotient (Ok (Some t)) dt) c C.1;
  impact = λ p i d l e. time_impact t dt (h t refl) p i d l (eq dt zero_f) refl e;
  still = time_still t dt (h t refl);
}
turns_under_caps (Ok None) dt h = record { capped = λ p c C. under_none p c; impact = λ p i d l e. absurd (nothing_taken i e); still = λ p c e. refl }
turns_under_caps (Err u) dt h = record { capped = λ p c C. under_none p c; impact = λ p i d l e. absurd (nothing_taken i e); still = λ p c e. refl }
