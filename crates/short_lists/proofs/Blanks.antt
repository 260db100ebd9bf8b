-- Places that are not used.
use Rattle.std.specs.Prelude.{◌≡◌, ℕ, ◌+◌, ◌-◌, List, drop, replicate, slice_set}
use Rattle.std.proofs.Common.{arith, ap, sym, ◌∙◌}
use Rattle.std.proofs.lemmas.List.{drop-set-lt, drop-drop, drop-replicate}

-- once the first place that is blank is written, the others are
pub one_written : {X : Type 0} (xs : List X) (n m : ℕ) (b x : X) → drop n xs ≡ replicate (m - n) b →
    drop (n + 1) (slice_set xs n x) ≡ replicate (m - (n + 1)) b
one_written xs n m b x d =
    let fewer : m - n - 1 ≡ m - (n + 1) = omega arith in
    drop-set-lt (n + 1) xs n x (omega arith) ∙ sym (drop-drop 1 n xs) ∙ ap (λ ys. drop 1 ys) d ∙ drop-replicate 1 (m - n) b ∙ ap (λ k. replicate k b) fewer
