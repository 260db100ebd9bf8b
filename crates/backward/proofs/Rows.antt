-- A row of slots with one slot more. Assumes nothing.
use Rattle.std.proofs.Common.{◌≡◌, ℕ, suc, append-nil, append_assoc, ◌+◌, Bool, true, false, cond, List, [], ◌∷◌, ◌++◌, length, reverse, Some, None, Option, refl, ap, ◌∙◌, sym, arith}
use lib.Ieee.{Float}
use Rattle.std.proofs.lemmas.Grind.{common_steps}
use Rattle.std.proofs.lemmas.List.{reverse-append}
use Rattle.geometry.specs.declared.handle.ColliderHandle.{ColliderHandle}
use Rattle.geometry.specs.declared.aabb.Aabb.{Aabb}
use Rattle.geometry.specs.Boxes.{loosened_by, meet_of}
use Rattle.finders.specs.declared.entry.Entry.{Entry}
use Rattle.finders.specs.Finders.{Held, collider_of}
use Rattle.finders.specs.Tables.{hit, upward}
use Rattle.backward.specs.Downward.{downward}

upward_push : (q : Aabb) (p : Float) (o : Option Entry) (s : ℕ) (h : Held) → upward s (h ++ o ∷ []) q p ≡ upward s h q p ++ hit (s + length h) o q p
upward_push q p o s [] = append-nil (hit s o q p) ∙ ap (λ (k : ℕ). hit k o q p) (omega arith)
upward_push q p o s (x ∷ h) =
    let after : ℕ → List ColliderHandle = λ k. upward (s + 1) h q p ++ hit k o q p in
    ap (λ (cs : List ColliderHandle). hit s x q p ++ cs) (upward_push q p o (s + 1) h ∙ ap after (omega arith))
    ∙ sym (append_assoc (hit s x q p) (upward (s + 1) h q p) (hit (s + suc (length h)) o q p))

hit_reversed : (q : Aabb) (p : Float) (o : Option Entry) (s : ℕ) → reverse (hit s o q p) ≡ hit s o q p
hit_reversed q p None s = refl
hit_reversed q p (Some e) s = go (meet_of (loosened_by e.aabb p) q)
  where
    go : (b : Bool) → reverse (cond b (collider_of s e.generation ∷ []) []) ≡ cond b (collider_of s e.generation ∷ []) []
    go true = refl
    go false = refl

pub downward_push : (q : Aabb) (p : Float) (o : Option Entry) (h : Held) → downward (h ++ o ∷ []) q p ≡ hit (length h) o q p ++ downward h q p
downward_push q p o h =
    ap reverse (upward_push q p o 0 h) ∙ reverse-append (upward 0 h q p) (hit (0 + length h) o q p)
    ∙ grind (arith, common_steps, hit_reversed q p o (0 + length h))
