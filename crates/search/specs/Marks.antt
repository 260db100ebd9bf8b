-- Marks: values in a total order from a zero to a one, among which an impact is sought. Assumes nothing.
use Rattle.std.specs.Prelude.{◌≡◌, Bool, not, T}

-- Nothing is said of values that are not admitted.
pub record Marks (M : Type 0) : Type 0 where
  pub lt : M → M → Bool
  pub le : M → M → Bool
  pub admitted : M → Bool
  pub zero : M
  pub one : M
  pub zero_admitted : T (admitted zero)
  pub one_admitted : T (admitted one)
  pub zero_below_one : T (lt zero one)
  pub from_zero : (a : M) → T (admitted a) → T (le zero a)
  pub to_one : (a : M) → T (admitted a) → T (le a one)
  pub reflexive : (a : M) → T (admitted a) → T (le a a)
  pub transitive : (a b c : M) → T (admitted a) → T (admitted b) → T (admitted c) → T (le a b) → T (le b c) → T (le a c)
  pub antisymmetric : (a b : M) → T (admitted a) → T (admitted b) → T (le a b) → T (le b a) → a ≡ b
  pub strict : (a b : M) → T (admitted a) → T (admitted b) → lt a b ≡ not (le b a)
  pub weaker : (a b : M) → T (admitted a) → T (admitted b) → T (lt a b) → T (le a b)
