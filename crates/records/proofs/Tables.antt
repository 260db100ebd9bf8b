-- A table of which an entry is taken out. Assumes nothing.
use Rattle.std.proofs.Common.{◌≡◌, ℕ, ◌+◌, ◌-◌, ◌<◌, ◌≤◌, min, cond, ltb, List, [], ◌∷◌, ◌++◌, length, get_or, take, set, sym, ◌∙◌, ⊎_elim, arith, rules}
use Rattle.std.proofs.lemmas.List.{places, same_lists, take_more_set, take-set, get_or-take, length-take-le}
use Rattle.std.proofs.lemmas.List.Edits.{length-remove, get_or-remove_below, get_or-remove_above}
use Rattle.std.proofs.lemmas.Bool.{cases_lt, lt-ltb, le-ltb}
use Rattle.std.specs.List.{remove}
use Rattle.std.proofs.lemmas.Bool.Decides.{nat_tests}
use Rattle.geometry.specs.declared.handle.ColliderHandle.{ColliderHandle}
use Rattle.records.specs.Lists.{closed}

module _ (t : List ColliderHandle) (i n : ℕ) (in' : i < n) (le : n ≤ length t) where
  pub length_closed : length (closed t i n) ≡ length t
  length_closed = grind (arith, places)

  pub get_d_closed : (k : ℕ) (d : ColliderHandle) → get_or (closed t i n) k d ≡ cond (ltb k i) (get_or t k d) (cond (ltb (k + 1) n) (get_or t (k + 1) d) (get_or t k d))
  get_d_closed k d = grind (arith, places, nat_tests)

pub closed_none : (t : List ColliderHandle) (i : ℕ) → i < length t → t ≡ closed t i (i + 1)
closed_none t i h = same_lists _ _ (search (rules, places)) (λ k d h. grind (arith, places))

-- what is listed after a handle is put last, or taken out
pub listed_push : (t : List ColliderHandle) (n : ℕ) (h : ColliderHandle) → length t ≡ 8 → n < 8
    → take (min (n + 1) 8) (set t n h) ≡ take (min n 8) t ++ h ∷ []
listed_push t n h e l =
    let a : min (n + 1) 8 ≡ n + 1 = omega arith in
    let b : min n 8 ≡ n = omega arith in
    let w : n < length t = omega arith in
    rw (a, b) (take_more_set t n h w)

module _ (t : List ColliderHandle) (i n : ℕ) (h : i < n) (l : n ≤ length t) where
  whole_part : length (take n t) ≡ n
  whole_part = length-take-le n t l

  short_part : length (take (n - 1) (closed t i n)) ≡ n - 1
  short_part = let c = length_closed t i n h l in length-take-le (n - 1) (closed t i n) (omega arith)

  cut_part : length (remove (take n t) i) + 1 ≡ n
  cut_part = let w = whole_part in length-remove (take n t) i (omega arith) ∙ w

  listed_at : (k : ℕ) (d : ColliderHandle) → k < n - 1 → get_or (take (n - 1) (closed t i n)) k d ≡ get_or (remove (take n t) i) k d
  listed_at k d m =
      let w = whole_part in
      let in'' : i < length (take n t) = omega arith in
      let a = get_or-take (n - 1) (closed t i n) k d m in
      let b = get_d_closed t i n h l k d in
      ⊎_elim
      (λ (p : k < i).
      let e = get_or-remove_below (take n t) i d k p in'' in
      let f = get_or-take n t k d (omega arith) in
      let g = lt-ltb k i p in
      a ∙ b ∙ rw g (sym f ∙ sym e))
      (λ (p : i ≤ k).
      let e = get_or-remove_above (take n t) i d k p in'' in
      let f = get_or-take n t (k + 1) d (omega arith) in
      let g = le-ltb k i p in
      let j = lt-ltb (k + 1) n (omega arith) in
      a ∙ b ∙ rw (g, j) (sym f ∙ sym e))
      (cases_lt k i)

  listed_closed : take (n - 1) (closed t i n) ≡ remove (take n t) i
  listed_closed =
      let a = short_part in
      let b = cut_part in
      same_lists (take (n - 1) (closed t i n)) (remove (take n t) i) (omega arith) (λ k d m. listed_at k d (omega arith))

pub listed_cut : (t : List ColliderHandle) (i n : ℕ) (b : ColliderHandle) → i < n → n ≤ length t → n ≤ 8
    → take (min (n - 1) 8) (set (closed t i n) (n - 1) b) ≡ remove (take n t) i
listed_cut t i n b h l m =
    let a : min (n - 1) 8 ≡ n - 1 = omega arith in
    rw a (take-set (closed t i n) (n - 1) b ∙ listed_closed t i n h l)
