-- A sweep over a space without room writes nothing, and how far it comes does not hang on the space. Assumes nothing.
use Rattle.std.specs.Prelude.{◌≡◌, ℕ, ◌+◌, ◌-◌, ◌≤◌, min, Bool, true, false, cond, List, [], ◌∷◌, length, take, fold, Some, None, Option, Float, nat_le, refl}
use Rattle.std.proofs.Common.{arith, ap, sym, ◌∙◌, inl, inr, add-zero}
use Rattle.std.proofs.Math.Nat.{sub_self}
use Rattle.std.proofs.lemmas.Bool.{cases_lt}
use Rattle.std.proofs.lemmas.Bool.Decides.{nat_tests}
use Rattle.geometry.specs.declared.handle.RigidBodyHandle.{RigidBodyHandle}
use Rattle.geometry.specs.declared.handle.ColliderHandle.{ColliderHandle}
use Rattle.outcomes.specs.declared.pair_kind.PairKind.{PairKind}
use Rattle.outcomes.specs.declared.pair_kind.PairKind.TheVariants.{Solid, Pseudo}
use Rattle.spaces.specs.Spaces.{Written, written_before}
use Rattle.slots.specs.Store.{found}
use Rattle.records.specs.declared.rigid_body.RigidBody.{RigidBody}
use Rattle.records.specs.declared.collider.Collider.{Collider}
use Rattle.records.specs.declared.collider.ColliderParent.{ColliderParent}
use Rattle.hosts.specs.declared.questions.Sweep.{Sweep}
use Rattle.pairs.specs.Pairs.{Fast, fast, pair_kind, parent_body}
use Rattle.pair_casts.specs.declared.fast_shape.FastShape.{FastShape}
use Rattle.pair_casts.specs.PairCasts.{pair_taken}
use Rattle.sweeps.specs.declared.hall.PseudoHit.{PseudoHit}
use Rattle.sweeps.specs.declared.hall.Reached.{Reached}
use Rattle.sweeps.specs.declared.hall.PseudoHitMode.{PseudoHitMode}
use Rattle.sweeps.specs.declared.hall.PseudoHitMode.TheVariants.{Record, Ignore}
use Rattle.sweeps.specs.Env.{Env}
use Rattle.sweeps.specs.Sweeps.{Swept, noted_by, judged, target_of, met, candidate_in, candidate_swept, shape_swept, report_of, way_of, shape_of, takes_part, part_by, part_in, part_swept, body_swept}
use Rattle.sweeps.specs.Counted.{left_in}

-- no place is left
abbrev pub Full : Written PseudoHit → Type 0
Full w = length w.all ≤ w.count

-- what it does to a full space: nothing, and it comes as far, whichever the space is
pub record Unwritten (f : Swept → Swept) : Type 0 where
  pub same : (w v : Written PseudoHit) (x : Float) → Full w → Full v → f (w, x) ≡ (w, (f (v, x)).1)

not_noted : (m : PseudoHitMode) (f : Fast) (k : ColliderHandle) (y : Float) (w : Written PseudoHit) → Full w → noted_by m f k y w ≡ w
not_noted (Record n) f k y w h =
    let none : nat_le 1 (length w.all - w.count) ≡ false = grind (arith, nat_tests) in rw none refl
not_noted Ignore f k y w h = refl

judged_full : (m : PseudoHitMode) (f : Fast) (k : ColliderHandle) (p : PairKind) (o : Option Float) → Unwritten (judged m f k p o)
judged_full m f k p None = record { same = λ w v x _ _. refl }
judged_full m f k Solid (Some y) = record { same = λ w v x _ _. refl }
judged_full m f k Pseudo (Some y) = record { same = λ w v x h _. ap (λ (z : Written PseudoHit). (z, x)) (not_noted m f k y w h) }

chosen_full : (b : Bool) (f : Swept → Swept) → Unwritten f → Unwritten (λ s. cond b (f s) s)
chosen_full true f u = u
chosen_full false f u = record { same = λ w v x _ _. refl }

fold_full : {K : Type 0} (f : Swept → K → Swept) → ((k : K) → Unwritten (λ s. f s k)) → (ks : List K) → Unwritten (λ s. fold f s ks)
fold_full f u [] = record { same = λ w v x _ _. refl }
fold_full f u (k ∷ ks) = record {
  same = λ w v x h i.
      let y = (f (v, x) k).1 in
      ap (λ s. fold f s ks) ((u k).same w v x h i)
      ∙ ((fold_full f u ks).same w v y h i ∙ ap (λ s. (w, (fold f s ks).1)) (sym ((u k).same v v x i i)));
}

in_full : (e : Env) (m : PseudoHitMode) (f : Fast) (q : FastShape) (k : ColliderHandle) (c : Option Collider) → Unwritten (candidate_in e m f q k c)
in_full e m f q k None = record { same = λ w v x _ _. refl }
in_full e m f q k (Some c) = chosen_full _ (met e m f q k c (parent_body e.bodies c.parent)) (record {
  same = λ w v x h i. (judged_full m f k (pair_kind f.collider c) (pair_taken e.host e.step (target_of e.host f c (parent_body e.bodies c.parent)) q x)).same w v x h i;
})

pub candidate_full : (e : Env) (m : PseudoHitMode) (f : Fast) (q : FastShape) (k : ColliderHandle) → Unwritten (λ s. candidate_swept e m f q s k)
candidate_full e m f q k = in_full e m f q k (found e.colliders k.0)

shape_full : (e : Env) (room : ℕ) (m : PseudoHitMode) (f : Fast) (w : Sweep) (q : Option FastShape) → Unwritten (shape_swept e room m f w q)
shape_full e room m f w None = record { same = λ w v x _ _. refl }
shape_full e room m f w (Some q) = fold_full (candidate_swept e m f q) (candidate_full e m f q) (take room (report_of e f w))

by_full : (e : Env) (room : ℕ) (m : PseudoHitMode) (f : Fast) (p : Option ColliderParent) → Unwritten (part_by e room m f p)
by_full e room m f None = record { same = λ w v x _ _. refl }
by_full e room m f (Some p) = chosen_full (takes_part m f.collider) _ (shape_full e room m f (way_of e f p.relative) (shape_of e f p.relative))

part_full : (e : Env) (room : ℕ) (m : PseudoHitMode) (h : RigidBodyHandle) (b : RigidBody) (k : ColliderHandle) (c : Option Collider) → Unwritten (part_in e room m h b k c)
part_full e room m h b k None = record { same = λ w v x _ _. refl }
part_full e room m h b k (Some c) = by_full e room m (fast h b k c) c.parent

pub body_full : (e : Env) (room : ℕ) (m : PseudoHitMode) (h : RigidBodyHandle) (b : RigidBody) (ks : List ColliderHandle) → Unwritten (λ s. body_swept e room m h b s ks)
body_full e room m h b ks = fold_full (part_swept e room m h b) (λ k. part_full e room m h b k (found e.colliders k.0)) ks

-- a count past the end is opened as a full space, and stays
counted : (f : Swept → Swept) → Unwritten f → (hits : List PseudoHit) (n : ℕ) (x : Float)
    → (let s = f (written_before hits n, x) in left_in (record { all = s.0.all; count = s.0.count + (n - min n (length hits)) }, s.1)) ≡ left_in (f (record { all = hits; count = n }, x))
counted f u hits n x =
    elim (cases_lt n (length hits)) [
      | inl h ↦ let e : min n (length hits) ≡ n = omega arith in rw (e, sub_self, add-zero) refl
      | inr h ↦
          let m = length hits in
          let v : Written PseudoHit = record { all = hits; count = m } in
          let w : Written PseudoHit = record { all = hits; count = n } in
          let e : min n m ≡ m = omega arith in
          let k : m + (n - m) ≡ n = omega arith in
          let here = u.same v v x (omega arith) (omega arith) in
          let there = u.same w v x h (omega arith) in
          rw e
          (ap (λ (s : Swept). left_in (record { all = s.0.all; count = s.0.count + (n - m) }, s.1)) here
          ∙ (ap (λ (j : ℕ). left_in (record { all = hits; count = j }, (f (v, x)).1)) k ∙ ap left_in (sym there)))
    ]

-- what is told of a space that was opened after a count: what lies in it, and how many are written, with what the count had past its end
pub told : (f : Swept → Swept) → Unwritten f → (hits left : List PseudoHit) (n k l : ℕ) (x y : Float) (before after : Written PseudoHit)
    → before ≡ written_before hits n → (after, y) ≡ f (before, x) → k ≡ before.count → l ≡ after.count → left ≡ after.all
    → (left, record { fraction = y; hits = l + (n - k) }) ≡ left_in (f (record { all = hits; count = n }, x))
told f u hits left n k l x y before after b s kb la ha =
    let of : Swept → List PseudoHit × Reached = λ t. left_in (record { all = t.0.all; count = t.0.count + (n - min n (length hits)) }, t.1) in
    rw (ha, la, kb, b) (ap of (s ∙ ap (λ w. f (w, x)) b) ∙ counted f u hits n x)
