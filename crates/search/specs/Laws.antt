-- What a capped search finds, whatever the marks and the questions are. Assumes nothing.
use Rattle.std.specs.Prelude.{◌≡◌, Bool, T, ◌⊎◌, List, map, Some, None, Option}
use Rattle.std.specs.Option.{unwrap_or}
use Rattle.std.specs.List.{ContainsAt as Has}
use Rattle.search.specs.Marks.{Marks}
use Rattle.search.specs.Searches.{accepted, sought, least_of}

-- r is the least impact of the questions of which P holds, or one where none of them has an impact
pub record Least {M Q : Type 0} (o : Marks M) (P : Q → Type 0) (impact : Q → Option M) (r : M) : Type 0 where
  pub attained : ((q : Q) × P q × (impact q ≡ Some r)) ⊎ ((r ≡ o.one) × ((q : Q) → P q → impact q ≡ None))
  pub lowest : (q : Q) (m : M) → P q → impact q ≡ Some m → T (o.le r m)

-- The cap law of questions: each has an impact, which is an admitted mark if it is there, and under each admitted cap what is
-- answered is what the test leaves of the impact.
pub record Capped {M Q : Type 0} (o : Marks M) (test : M → M → Bool) (ask : Q → M → Option M) (impact : Q → Option M) : Type 0 where
  pub marks : (q : Q) (m : M) → impact q ≡ Some m → T (o.admitted m)
  pub capped : (q : Q) (c : M) → T (o.admitted c) → ask q c ≡ accepted test (impact q) c

-- the test accepts what lies below the cap, or what is at most at it
abbrev pub Accepts : {M : Type 0} → Marks M → (M → M → Bool) → Type 0
Accepts o test = (test ≡ o.lt) ⊎ (test ≡ o.le)

pub record SearchLaws (M Q : Type 0) : Type 0 where
  -- a whole search keeps the cap law again: it has the least impact of its questions
  pub composed : (o : Marks M) (test : M → M → Bool) (ask : Q → M → Option M) (impact : Q → Option M) → Accepts o test → Capped o test ask impact
      → (qs : List Q) (c : M) → T (o.admitted c) → sought ask c None qs ≡ accepted test (least_of o.le (map impact qs)) c
  -- the least of impacts is one of them, and no impact lies below it
  pub least_present : (o : Marks M) (impact : Q → Option M) (qs : List Q) (m : M) → ((q : Q) (n : M) → impact q ≡ Some n → T (o.admitted n))
      → least_of o.le (map impact qs) ≡ Some m → ((q : Q) × Has qs q × (impact q ≡ Some m)) × ((q : Q) (n : M) → Has qs q → impact q ≡ Some n → T (o.le m n))
  pub least_absent : (o : Marks M) (impact : Q → Option M) (qs : List Q) → least_of o.le (map impact qs) ≡ None → (q : Q) → Has qs q → impact q ≡ None
  -- from the cap one, with impacts below one, the search finds the least impact, or one
  pub found : (o : Marks M) (ask : Q → M → Option M) (impact : Q → Option M) → Capped o o.lt ask impact
      → ((q : Q) (m : M) → impact q ≡ Some m → T (o.lt m o.one))
      → (qs : List Q) → Least o (Has qs) impact (unwrap_or (sought ask o.one None qs) o.one)
  -- among more questions the least impact is no larger, and among the same ones it is the same: no order matters
  pub falls : (o : Marks M) (impact : Q → Option M) (xs ys : List Q) (r s : M) → T (o.admitted r) → T (o.admitted s)
      → ((q : Q) → Has xs q → Has ys q) → Least o (Has xs) impact r → Least o (Has ys) impact s → T (o.le s r)
  pub unique : (o : Marks M) (impact : Q → Option M) (xs ys : List Q) (r s : M) → T (o.admitted r) → T (o.admitted s)
      → ((q : Q) → Has xs q → Has ys q) → ((q : Q) → Has ys q → Has xs q) → Least o (Has xs) impact r → Least o (Has ys) impact s → r ≡ s
