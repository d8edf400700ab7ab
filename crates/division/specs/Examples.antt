-- Document 01, "Known results", reductions: "In reductions p = 7, dp, n = 2." The polynomials named there. Assumes nothing.
use Rattle.std.specs.Prelude.{ℕ, List, [], ◌∷◌}
use Rattle.limits.specs.Limits.{most_terms}
use Rattle.monomial.specs.declared.order.Order.TheVariants.{DegRevLex}
use Rattle.monomial.specs.Exponents.{ones}
use Rattle.monomial.specs.Layout.{word_of}
use Rattle.polynomial.specs.Terms.{Term, term}
use Rattle.division.specs.Steps.{Reduction, reduction_of_words}

-- the coefficient and the exponents of a term in dp, as the script has them
abbrev pub in-dp : ℕ → List ℕ → Term ℕ
in-dp c α = term (word_of DegRevLex ones α) c

-- x1²x2 + x1x2² + x2², and the divisors x1x2+6 and x2²+6
abbrev pub dividend : List (Term ℕ)
dividend = in-dp 1 (2 ∷ 1 ∷ []) ∷ in-dp 1 (1 ∷ 2 ∷ []) ∷ in-dp 1 (0 ∷ 2 ∷ []) ∷ []

abbrev pub by-x1x2 : List (Term ℕ)
by-x1x2 = in-dp 1 (1 ∷ 1 ∷ []) ∷ in-dp 6 (0 ∷ 0 ∷ []) ∷ []

abbrev pub by-x2² : List (Term ℕ)
by-x2² = in-dp 1 (0 ∷ 2 ∷ []) ∷ in-dp 6 (0 ∷ 0 ∷ []) ∷ []

-- x2²+6x1
abbrev pub by-x1 : List (Term ℕ)
by-x1 = in-dp 1 (0 ∷ 2 ∷ []) ∷ in-dp 6 (1 ∷ 0 ∷ []) ∷ []

-- with 4,096 output places
abbrev pub reduced_in7 : (limit : ℕ) → List (Term ℕ) → List (List (Term ℕ)) → Reduction ℕ
reduced_in7 limit f gs = reduction_of_words DegRevLex 7 gs most_terms limit f
