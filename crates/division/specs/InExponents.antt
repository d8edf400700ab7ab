-- A polynomial by the exponents of its words. Assumes nothing.
use Rattle.std.specs.Prelude.{ℕ, List, map}
use Rattle.monomial.specs.declared.order.Order.{Order}
use Rattle.monomial.specs.Layout.{exponents}
use Rattle.polynomial.specs.Terms.{Term, term}

-- each monomial named again, with the same coefficients
abbrev pub renamed : {A B : Type 0} → (A → B) → List (Term A) → List (Term B)
renamed name ts = map (λ t. term (name t.mono) t.coef) ts

abbrev pub in_exponents : Order → (n : ℕ) → List (Term ℕ) → List (Term (List ℕ))
in_exponents o n ts = renamed (exponents o n) ts
