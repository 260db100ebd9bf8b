-- Exactly the bodies with a result below 1 stop. Assumes nothing.
use Rattle.std.proofs.Common.{◌≡◌, T, [], ◌∷◌, Some, sym, refl, ◌∙◌, subst}
use Rattle.slots.specs.Store.{found}
use Rattle.search.proofs.Members.{has_first, has_rest, has_none, has_cases}
use Rattle.sweeps.specs.declared.hall.BodyContinuousResult.{BodyContinuousResult}
use Rattle.clamps.specs.Clamps.{below, stopped_at, clamped_one, clamped_all}
use Rattle.clamp_laws.specs.ClampLaws.{ClampsAreExact}
use Rattle.clamp_laws.proofs.Ones.{one_stopped, one_other, one_length, one_valid}

pub clamps_exact : ClampsAreExact
clamps_exact h bs [] apart = record {
  stopped = λ r b m. absurd (has_none r m);
  others = λ k n. refl;
  slots = refl;
  in_order = λ d v. v;
}
clamps_exact h bs (r ∷ rs) apart =
    let i = clamps_exact h (clamped_one h bs r) rs apart.1 in
    record {
      stopped = λ q b m t e.
          has_cases (found (clamped_all h bs (r ∷ rs)) q.handle.0 ≡ Some (stopped_at h b q.fraction)) r q rs
          (λ o. subst
          (λ (x : BodyContinuousResult). T (below x) → found bs x.handle.0 ≡ Some b → found (clamped_all h bs (r ∷ rs)) x.handle.0 ≡ Some (stopped_at h b x.fraction))
          o
          (λ u f. i.others r.handle (λ x n s _. apart.0 x n s) ∙ one_stopped h bs r b u f)
          t e)
          (λ n. i.stopped q b n t (one_other h bs r q.handle (λ s _. apart.0 q n (sym s)) ∙ e))
          m;
      others = λ k n. i.others k (λ x m. n x (has_rest r x rs m)) ∙ one_other h bs r k (n r (has_first r rs));
      slots = i.slots ∙ one_length h bs r;
      in_order = λ d v. i.in_order d (one_valid h bs r d v);
    }
