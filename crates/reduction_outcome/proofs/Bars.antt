-- What the meaning of a remainder bars: x1 is not a sum of multiples of x2, modulo any p, in any order. Were it one, a zero remainder would say nothing. Assumes nothing.
use mathlib.Core.List.{[], ◌∷◌}
use Prim.Native.Nat.{◌<◌}
use native.Mathlib.Omega.{arith}
use Rattle.monomial.specs.Exponents.{order_of, product, compare_in}
use Rattle.monomial.proofs.OrderLaws.{exponents-order}
use Rattle.polynomial.specs.Terms.{term}
use Rattle.polynomial.specs.declared.setting.Setting.{Setting}
use Rattle.division.proofs.Absurd.{never-multiple, never-x1}
use Rattle.reduction_outcome.specs.Meaning.{InVariables, SumWith}

pub absurd-refused : (t : Setting) → 1 < t.p → SumWith t ((term (0 ∷ 1 ∷ []) 1 ∷ []) ∷ []) (term (1 ∷ 0 ∷ []) 1 ∷ []) [] → ⊥
absurd-refused t h = never-multiple (compare_in (order_of t.order) t.weights) (exponents-order (order_of t.order) t.weights) product (InVariables t) t.p (term (0 ∷ 1 ∷ []) 1) (term (1 ∷ 0 ∷ []) 1) (λ α i e. never-x1 α e) (omega arith) h
