-- The children of Compounds, which a host keeps in one list. Assumes nothing.
use Rattle.std.specs.Prelude.{ℕ, ◌-◌, Bool, cond, ◌&&◌, List, [], length, take, drop, nat_le}
use Rattle.std.specs.List.{list_all}
use Rattle.hosts.specs.declared.questions.Child.{Child}

-- there are 1 to 16 children, and they are all listed
abbrev pub listed : List Child → ℕ → ℕ → Bool
listed cs f n = nat_le 1 n && (nat_le n 16 && (nat_le f (length cs) && nat_le n (length cs - f)))

-- the children from f on, n of them
abbrev pub part_of : List Child → ℕ → ℕ → List Child
part_of cs f n = cond (listed cs f n) (take n (drop f cs)) []

-- the children, if they all pass, and else none: one that does not makes the whole Compound absent
abbrev pub passing : (Child → Bool) → List Child → List Child
passing test cs = cond (list_all test cs) cs []
