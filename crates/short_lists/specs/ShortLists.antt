-- What a contract sees of a short list. Assumes nothing.
use Rattle.std.specs.Prelude.{List, refl}
use Rattle.std.specs.Coded.{Coded, code_by, coded_list}

-- the values, in order
pub record Listed (X : Type 0) : Type 0 where
  pub items : List X

-- a short list is stored as the list of its values
abbrev pub listed_code : {X : Type 0} → Coded X → Coded (Listed X)
listed_code {X} code = code_by (List X) (coded_list code) (λ v. v.items) (λ xs. record { items = xs }) (λ _. refl)
