-- The fraction of a swept body is the least solid impact of its admitted solid pairs. Assumes nothing.
use Rattle.std.proofs.Common.{◌≡◌, ℕ, false, T, List, [], ◌∷◌, Some, None, Option, unwrap_or, sym, refl, ap, ◌∙◌, subst, inl, inr}
use lib.Ieee.{Float, lt}
use Rattle.std.specs.List.{ContainsAt as Has}
use Rattle.std.proofs.lemmas.Bool.{cond-false}
use Rattle.numbers.specs.Constants.{one_f}
use Rattle.geometry.specs.declared.handle.RigidBodyHandle.{RigidBodyHandle}
use Rattle.spaces.specs.Spaces.{Written}
use Rattle.records.specs.declared.rigid_body.RigidBody.{RigidBody}
use Rattle.search.specs.Searches.{accepted, later, sought}
use Rattle.search.specs.Laws.{Least, Capped}
use Rattle.search.proofs.Finds as finds
use Rattle.sweeps.specs.declared.hall.PseudoHit.{PseudoHit}
use Rattle.sweeps.specs.declared.hall.PseudoHitMode.{PseudoHitMode}
use Rattle.sweeps.specs.Env.{Env}
use Rattle.sweeps.specs.Sweeps.{Swept}
use Rattle.sweep_laws.specs.Fractions.{fractions, is_fraction, one_is_a_fraction}
use Rattle.sweep_laws.specs.Situations.{situation}
use Rattle.sweep_laws.specs.Pairs.{Pair, Admitted, SolidPair, pseudo, impact_of}
use Rattle.sweep_laws.specs.Served.{Found}
use Rattle.sweep_laws.specs.SweepLaws.{admitted_pairs, swept_to}
use Rattle.sweep_laws.proofs.PairFacts.{PairFacts}
use Rattle.sweep_laws.proofs.Exact.{exactly}
use Rattle.sweep_laws.proofs.Folds.{pair_met, pairs_met, solid_impact, met_fraction, solid_given, mets_mark, swept_met}

module _ (impact : Pair → Option Float) where
  -- what is asked of a pair under a cap
  abbrev asked : Pair → Float → Option Float
  asked x c = accepted lt (solid_impact impact x) c

  -- the fraction after a list of pairs is what a capped search through their solid impacts finds
  mets_fraction : (m : PseudoHitMode) (s : Swept) (xs : List Pair)
      → (pairs_met impact m s xs).1 ≡ unwrap_or (sought asked s.1 None xs) s.1
  mets_fraction m s [] = refl
  mets_fraction m s (x ∷ xs) =
      let c = s.1 in
      let y = asked x c in
      mets_fraction m (pair_met impact m s x) xs
      ∙ ap (λ (d : Float). unwrap_or (sought asked d None xs) d) (met_fraction impact m s x ∙ sym (value y c))
      ∙ sym (finds.sought_from asked c (later None y) xs)
    where
      value : (y : Option Float) (c : Float) → unwrap_or (later None y) c ≡ unwrap_or y c
      value None c = refl
      value (Some t) c = refl

  -- the least solid impact of a list is that of the pairs that are exactly its solid ones
  module _ (xs : List Pair) (P : Pair → Type 0) (r : Float) (only : (x : Pair) → Has xs x → P x) (all : (x : Pair) → P x → Has xs x) where
    -- the solid impact of a solid pair is its impact
    is_solid : (x : Pair) → pseudo x ≡ false → solid_impact impact x ≡ impact x
    is_solid x p = cond-false (pseudo x) None (impact x) p

    least_solid : Least fractions (Has xs) (solid_impact impact) r → Least fractions (λ x. P x × (pseudo x ≡ false)) impact r
    least_solid l = record {
      attained = elim l.attained [
        | inl h ↦ let k = solid_given impact h.0 r h.2 in inl (h.0, (only h.0 h.1, k.0), k.1)
        | inr h ↦ inr (h.0, λ x p. sym (is_solid x p.1) ∙ h.1 x (all x p.0))
      ];
      lowest = λ x t p e. l.lowest x t (all x p.0) (is_solid x p.1 ∙ e);
    }

  module _ (marks : (x : Pair) (t : Float) → impact x ≡ Some t → T (is_fraction t))
      (below : (x : Pair) (t : Float) → pseudo x ≡ false → impact x ≡ Some t → T (lt t one_f)) where
    -- from the fraction 1 it is the least solid impact, or 1
    mets_least : (m : PseudoHitMode) (w : Written PseudoHit) (xs : List Pair)
        → Least fractions (Has xs) (solid_impact impact) (pairs_met impact m (w, one_f) xs).1
    mets_least m w xs =
        let law : Capped fractions lt asked (solid_impact impact) = record { marks = λ x t e. marks x t (solid_given impact x t e).1; capped = λ x c p. refl } in
        subst (Least fractions (Has xs) (solid_impact impact)) (sym (mets_fraction m (w, one_f) xs))
        (finds.found fractions asked (solid_impact impact) law (λ x t e. let k = solid_given impact x t e in below x t k.0 k.1) xs)

module _ (e : Env) (room : ℕ) (m : PseudoHitMode) (h : RigidBodyHandle) (b : RigidBody) (w : Written PseudoHit)
    (facts : PairFacts e) (fnd : Found e b room) where
  -- the fraction of a swept body is the least solid impact of its admitted solid pairs, or 1
  pub fraction_least : Least fractions (SolidPair (situation e) h b) (impact_of (situation e) b) (swept_to e room m h b w).1
  fraction_least =
      let i = impact_of (situation e) b in
      let xs = admitted_pairs e h b in
      let x = exactly e room h b facts fnd in
      subst (λ (s : Swept). Least fractions (SolidPair (situation e) h b) i s.1) (sym (swept_met e room m h b w facts fnd))
      (least_solid i xs (Admitted (situation e) h b) (pairs_met i m (w, one_f) xs).1 x.only x.all
      (mets_least i (facts.marks b) (facts.below_one b) m w xs))

  -- and it is a fraction from 0 to 1
  pub fraction_mark : T (is_fraction (swept_to e room m h b w).1)
  fraction_mark =
      subst (λ (s : Swept). T (is_fraction s.1)) (sym (swept_met e room m h b w facts fnd))
      (mets_mark (impact_of (situation e) b) (facts.marks b) m (w, one_f) (admitted_pairs e h b) one_is_a_fraction)
