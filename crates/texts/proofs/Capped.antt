-- Values are counted up to a cap, which changes nothing below it. Assumes nothing.
use Rattle.std.proofs.Common.{◌≡◌, ℕ, zero, suc, ◌+◌, ◌*◌, Bool, cond, ◌&&◌, List, [], ◌∷◌, ◌++◌, Some, None, sym, refl, ap, ◌∙◌, inl, inr, mul-zero, mul-suc, arith}
use Rattle.std.specs.Char.{digit_value, is_digit}
use Rattle.std.proofs.lemmas.Bool.{cases_lt}
use Rattle.std.proofs.lemmas.List.Folds.{list_all-append}
use Rattle.std.proofs.lemmas.Option.{cond_some}
use Rattle.texts.specs.Digits.{digit_of, all_digits, value_of, capped, read_digits}

-- one digit more
more : (base m d : ℕ) → capped (capped m * base + d) ≡ capped (m * base + d)
more zero m d = simp mul-zero
more (suc k) m d =
    elim (cases_lt m 4294967296) [
      | inl h ↦ let e : capped m ≡ m = omega arith in ap (λ (n : ℕ). capped (n * suc k + d)) e
      | inr h ↦
          let e : capped m ≡ 4294967296 = omega arith in
          let p = mul-suc m k in
          let q = mul-suc (capped m) k in
          omega arith
    ]

capped_start : (base m : ℕ) (bs : List ℕ) → capped (value_of base (capped m) bs) ≡ capped (value_of base m bs)
capped_start base m [] = omega arith
capped_start base m (b ∷ bs) =
    sym (capped_start base (capped m * base + digit_value b) bs)
    ∙ ap (λ (n : ℕ). capped (value_of base n bs)) (more base m (digit_value b))
    ∙ capped_start base (m * base + digit_value b) bs

value_joined : (base m : ℕ) (bs cs : List ℕ) → value_of base m (bs ++ cs) ≡ value_of base (value_of base m bs) cs
value_joined base m [] cs = refl
value_joined base m (b ∷ bs) cs = value_joined base (m * base + digit_value b) bs cs

-- ---- a digit, and those that follow

pub next_digit : (base m b d : ℕ) (bs : List ℕ) → digit_of base b ≡ Some d → read_digits base (capped (m * base + d)) bs ≡ read_digits base m (b ∷ bs)
next_digit base m b d bs e =
    let p = cond_some (is_digit b base) (digit_value b) d e in
    ap (λ (n : ℕ). cond (all_digits base bs) (Some n) None) (capped_start base (m * base + d) bs)
    ∙ ap (λ (n : ℕ). cond (all_digits base bs) (Some (capped (value_of base (m * base + n) bs))) None) (sym p.1)
    ∙ ap (λ (t : Bool). cond (t && all_digits base bs) (Some (capped (value_of base (m * base + digit_value b) bs))) None) (sym p.0)

-- ---- two texts of digits

module _ (base m : ℕ) (bs cs : List ℕ) where
  pub read_joined : (n : ℕ) → read_digits base m bs ≡ Some n → read_digits base n cs ≡ read_digits base m (bs ++ cs)
  read_joined n e =
      let p = cond_some (all_digits base bs) (capped (value_of base m bs)) n e in
      ap (λ (k : ℕ). read_digits base k cs) (sym p.1)
      ∙ ap (λ (k : ℕ). cond (all_digits base cs) (Some k) None) (capped_start base (value_of base m bs) cs ∙ sym (ap capped (value_joined base m bs cs)))
      ∙ ap (λ (t : Bool). cond t (Some (capped (value_of base m (bs ++ cs)))) None)
      (sym (list_all-append (λ b. is_digit b base) bs cs ∙ ap (λ (t : Bool). t && all_digits base cs) p.0))
