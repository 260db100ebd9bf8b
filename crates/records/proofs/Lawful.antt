-- The laws of a list of colliders. Assumes nothing.
use Rattle.std.proofs.Common.{◌≡◌, ℕ, ◌+◌, ◌-◌, ◌<◌, ◌≤◌, min, Bool, true, false, eqb, ltb, leb, ◌≢◌, List, [], ◌∷◌, ◌++◌, length, get_or, take, set, is_some, Some, None, Ok, Err, Option, Result, sym, refl, ap, ◌∙◌, subst, ⊎_elim, arith, length-take}
use Rattle.std.proofs.lemmas.List.{length-set, get_or-set_same, get_or-set_other, get_or-replicate, get_or_past, set-set, set-get_or}
use Rattle.std.proofs.lemmas.Bool.{and_parts, and_from, cond_both, eqb-true, eq-eqb, leb-true, le-leb, ltb-true, ltb-false, le-ltb, cases_lt, cases_eq}
use Rattle.std.specs.List.{ContainsAt as Has}
use Rattle.geometry.specs.declared.handle.ColliderHandle.{ColliderHandle}
use Rattle.records.specs.declared.fault.Fault.{Fault}
use Rattle.records.specs.declared.fault.Fault.TheVariants.{Full, NotLive}
use Rattle.records.specs.declared.collider_list.ColliderList.{ColliderList}
use Rattle.records.specs.Lists.{blank_handle, tabled, empty_list, counted, listed, place, attached, closed, detached_at, detached}
use Rattle.records.specs.ListLaws.{Without, Blanked, ListLaws}
use Rattle.records.proofs.Members.{without, without_none, without_some, without_last, place_last, parted, listed_decides, placed_lem}
use Rattle.records.proofs.Tables.{length_closed, get_d_closed, closed_none, listed_push, listed_cut}

abbrev Step : Type 0
Step = ColliderList × Result (Unit {0}) Fault

few : (l : ColliderList) → length (listed l) ≤ 8
few l = simp length-take (omega arith)

module _ (l : ColliderList) (c : counted l ≡ true) where
  pub table : length l.handles ≡ 8
  table = eqb-true (length l.handles) 8 (and_parts (eqb (length l.handles) 8) (leb l.count 8) c).0

  pub within : l.count ≤ 8
  within = leb-true l.count 8 (and_parts (eqb (length l.handles) 8) (leb l.count 8) c).1

  pub length_listed : length (listed l) ≡ l.count
  length_listed = let t = table in let w = within in simp length-take (omega arith)

recounted : (t : List ColliderHandle) (n : ℕ) → length t ≡ 8 → n ≤ 8 → counted (tabled t n) ≡ true
recounted t n e m = and_from (eqb (length t) 8) (leb n 8) (eq-eqb (length t) 8 e) (le-leb n 8 m)

-- ---- a handle is put last

module _ (l : ColliderList) (h : ColliderHandle) where
  -- what holds of both answers holds of the answer
  either : (P : Step → Type 0) → (l.count < 8 → P (tabled (set l.handles l.count h) (l.count + 1), Ok tt)) → (8 ≤ l.count → P (l, Err Full)) → P (attached l h)
  either P f g =
      cond_both {A = Step} (ltb l.count 8) (tabled (set l.handles l.count h) (l.count + 1), Ok tt) (l, Err Full) P
      (λ t. f (ltb-true l.count 8 t)) (λ t. g (ltb-false l.count 8 t))

  appends : counted l ≡ true → (attached l h).1 ≡ Ok tt → listed (attached l h).0 ≡ listed l ++ h ∷ []
  appends c =
      either (λ p. p.1 ≡ Ok tt → listed p.0 ≡ listed l ++ h ∷ [])
      (λ m _. listed_push l.handles l.count h (table l c) m)
      (λ m e. absurd (grind arith))

  full : counted l ≡ true → ((attached l h).1 ≡ Err Full → length (listed l) ≡ 8) × (length (listed l) ≡ 8 → (attached l h).1 ≡ Err Full)
  full c =
      let n = length_listed l c in
      let w = within l c in
      either (λ p. (p.1 ≡ Err Full → length (listed l) ≡ 8) × (length (listed l) ≡ 8 → p.1 ≡ Err Full))
      (λ m. (λ e. absurd (grind arith), λ e. absurd (omega arith)))
      (λ m. (λ _. omega arith, λ _. refl))

  attached_counted : counted l ≡ true → counted (attached l h).0 ≡ true
  attached_counted c =
      either (λ p. counted p.0 ≡ true)
      (λ m. recounted (set l.handles l.count h) (l.count + 1) (length-set l.handles l.count h ∙ table l c) (omega arith))
      (λ _. c)

  spared_by_attach : (f : Fault) → (attached l h).1 ≡ Err f → (attached l h).0 ≡ l
  spared_by_attach f = either (λ p. p.1 ≡ Err f → p.0 ≡ l) (λ m e. absurd (grind arith)) (λ _ _. refl)

-- ---- a handle is taken out

unlisted : (b : Bool) → (b ≡ true → ⊥) → b ≡ false
unlisted true n = absurd (n refl)
unlisted false n = refl

module _ (l : ColliderList) (h : ColliderHandle) where
  cut_listed : (o : Option ℕ) → counted l ≡ true → place h 0 (listed l) ≡ o → listed (detached_at l (min l.count 8) o).0 ≡ without h (listed l)
  cut_listed None c e = without_none h (listed l) 0 e
  cut_listed (Some k) c e =
      let n = min l.count 8 in
      let t = table l c in
      let w = within l c in
      let s = without_some h (listed l) 0 k e in
      let z : k - 0 ≡ k = omega arith in
      let len = length_listed l c in
      let m = s.1 in
      listed_cut l.handles k n blank_handle (omega arith) (omega arith) (omega arith) ∙ rw z at s.2

  pub listed_detached : counted l ≡ true → listed (detached l h).0 ≡ without h (listed l)
  listed_detached c = cut_listed (place h 0 (listed l)) c refl

  cut_has : (o : Option ℕ) → (detached_at l (min l.count 8) o).1 ≡ Ok tt → is_some o ≡ true
  cut_has None e = absurd (grind arith)
  cut_has (Some k) e = refl

  takes_out : counted l ≡ true → (detached l h).1 ≡ Ok tt → Without h (listed l) (listed (detached l h).0)
  takes_out c e =
      let m = (listed_decides h (listed l)).0 (sym (placed_lem h (listed l) 0) ∙ cut_has (place h 0 (listed l)) e) in
      subst (λ (ys : List ColliderHandle). Without h (listed l) ys) (sym (listed_detached c)) (parted h (listed l) m)

  cut_missing : (o : Option ℕ) → ((detached_at l (min l.count 8) o).1 ≡ Err (NotLive 0) → is_some o ≡ false) × (is_some o ≡ false → (detached_at l (min l.count 8) o).1 ≡ Err (NotLive 0))
  cut_missing None = (λ _. refl, λ _. refl)
  cut_missing (Some k) = (λ e. absurd (grind arith), λ e. absurd (grind arith))

  missing : ((detached l h).1 ≡ Err (NotLive 0) → Has (listed l) h → ⊥) × ((Has (listed l) h → ⊥) → (detached l h).1 ≡ Err (NotLive 0))
  missing =
      let o = place h 0 (listed l) in
      let d = listed_decides h (listed l) in
      let m = cut_missing o in (
        λ e x. let a = m.0 e in let b = placed_lem h (listed l) 0 ∙ d.1 x in let z : ◌≡◌ {A = Bool} true false = sym b ∙ a in grind arith,
        λ n. m.1 (unlisted (is_some o) (λ t. n (d.0 (sym (placed_lem h (listed l) 0) ∙ t)))),
      )

  cut_counted : (o : Option ℕ) → counted l ≡ true → place h 0 (listed l) ≡ o → counted (detached_at l (min l.count 8) o).0 ≡ true
  cut_counted None c e = c
  cut_counted (Some k) c e =
      let n = min l.count 8 in
      let t = table l c in
      let w = within l c in
      let s = without_some h (listed l) 0 k e in
      let m = s.1 in
      let len = length_listed l c in
      recounted (set (closed l.handles k n) (n - 1) blank_handle) (n - 1)
      (length-set (closed l.handles k n) (n - 1) blank_handle ∙ length_closed l.handles k n (omega arith) (omega arith) ∙ t) (omega arith)

  cut_spared : (o : Option ℕ) (f : Fault) → (detached_at l (min l.count 8) o).1 ≡ Err f → (detached_at l (min l.count 8) o).0 ≡ l
  cut_spared None f e = refl
  cut_spared (Some k) f e = absurd (grind arith)

-- ---- entries past the count

starts_blanked : Blanked empty_list
starts_blanked i m =
    ⊎_elim (λ l. get_or-replicate 8 i blank_handle blank_handle l) (λ l. get_or_past empty_list.handles i blank_handle l) (cases_lt i 8)

attached_blanked : (l : ColliderList) (h : ColliderHandle) → Blanked l → Blanked (attached l h).0
attached_blanked l h b =
    either l h (λ p. Blanked p.0)
    (λ m i n. let ne : i ≢ l.count = omega arith in get_or-set_other l.handles l.count i h blank_handle ne ∙ b i (omega arith))
    (λ _. b)

module _ (l : ColliderList) (h : ColliderHandle) (c : counted l ≡ true) (b : Blanked l) where
  cut_blank : (k n i : ℕ) → k < n → n ≡ l.count → n - 1 ≤ i → get_or (set (closed l.handles k n) (n - 1) blank_handle) i blank_handle ≡ blank_handle
  cut_blank k n i m e p =
      let t = l.handles in
      let w = within l c in
      let len = table l c in
      let le : n ≤ length t = omega arith in
      ⊎_elim
      (λ (q : i ≡ n - 1).
      let long = length_closed t k n m le in
      let in' : n - 1 < length (closed t k n) = omega arith in
      subst (λ (j : ℕ). get_or (set (closed t k n) (n - 1) blank_handle) j blank_handle ≡ blank_handle) (sym q)
      (get_or-set_same (closed t k n) (n - 1) blank_handle blank_handle in'))
      (λ (q : i ≢ n - 1).
      let f = le-ltb i k (omega arith) in
      let g = le-ltb (i + 1) n (omega arith) in
      get_or-set_other (closed t k n) (n - 1) i blank_handle blank_handle q ∙ get_d_closed t k n m le i blank_handle ∙ rw (f, g) (b i (omega arith)))
      (cases_eq i (n - 1))

  cut_blanked : (o : Option ℕ) → place h 0 (listed l) ≡ o → Blanked (detached_at l (min l.count 8) o).0
  cut_blanked None e = b
  cut_blanked (Some k) e =
      let n = min l.count 8 in
      let w = within l c in
      let len = length_listed l c in
      let s = without_some h (listed l) 0 k e in
      let m = s.1 in
      λ i p. cut_blank k n i (omega arith) (omega arith) p

-- ---- attached, and detached again

undone : (l : ColliderList) (h : ColliderHandle) → counted l ≡ true → (attached l h).1 ≡ Ok tt → (Has (listed l) h → ⊥) → listed (detached (attached l h).0 h).0 ≡ listed l
undone l h c e n =
    listed_detached (attached l h).0 h (attached_counted l h c) ∙ ap (without h) (appends l h c e) ∙ without_last h (listed l) n

-- the table after both
table_back : (t : List ColliderHandle) (n m : ℕ) (h : ColliderHandle) → n < length t → m ≡ n + 1 → get_or t n blank_handle ≡ blank_handle
    → tabled (set (closed (set t n h) n m) (m - 1) blank_handle) (m - 1) ≡ tabled t n
table_back t n m h l e b =
    let z : m - 1 ≡ n = omega arith in
    let in' : n < length (set t n h) = rw length-set l in
    let one : closed (set t n h) n m ≡ set t n h = ap (closed (set t n h) n) e ∙ sym (closed_none (set t n h) n in') in
    let two : set (set t n h) n blank_handle ≡ t = set-set t n h blank_handle ∙ ap (set t n) (sym b) ∙ set-get_or t n blank_handle in
    ap (λ (k : ℕ). tabled (set (closed (set t n h) n m) k blank_handle) k) z
    ∙ ap (λ (s : List ColliderHandle). tabled s n) (ap (λ (s : List ColliderHandle). set s n blank_handle) one ∙ two)

module _ (l : ColliderList) (h : ColliderHandle) (c : counted l ≡ true) (b : Blanked l) (n : Has (listed l) h → ⊥) where
  last_place : l.count < 8 → place h 0 (take (min (l.count + 1) 8) (set l.handles l.count h)) ≡ Some l.count
  last_place m =
      let z : 0 + length (listed l) ≡ l.count = let len = length_listed l c in omega arith in
      ap (place h 0) (listed_push l.handles l.count h (table l c) m) ∙ place_last h (listed l) 0 n ∙ ap Some z

  undone_whole : (attached l h).1 ≡ Ok tt → (detached (attached l h).0 h).0 ≡ l
  undone_whole =
      either l h (λ p. p.1 ≡ Ok tt → (detached p.0 h).0 ≡ l)
      (λ m _.
      let t = l.handles in
      let k = l.count in
      let len = table l c in
      let next = tabled (set t k h) (k + 1) in
      ap (λ (o : Option ℕ). (detached_at next (min (k + 1) 8) o).0) (last_place m)
      ∙ table_back t k (min (k + 1) 8) h (omega arith) (omega arith) (b k (omega arith)))
      (λ m e. absurd (grind arith))

pub lawful : ListLaws
lawful = record {
  none = refl;
  few = few;
  counts = length_listed;
  tells = listed_decides;
  appends = appends;
  full = full;
  takes_out = takes_out;
  missing = missing;
  undone = undone;
  undone_whole = λ l h c b e n. undone_whole l h c b n e;
  starts_counted = refl;
  attached_counted = attached_counted;
  detached_counted = λ l h c. cut_counted l h (place h 0 (listed l)) c refl;
  starts_blanked = starts_blanked;
  attached_blanked = attached_blanked;
  detached_blanked = λ l h c b. cut_blanked l h c b (place h 0 (listed l)) refl;
  spared_by_attach = spared_by_attach;
  spared_by_detach = λ l h. cut_spared l h (place h 0 (listed l));
}
