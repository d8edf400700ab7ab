-- What the outcome of a reduction means, by exponents, as document 000 orders, multiplies and divides monomials: the terms that lie in it, and the relations that the theorems state of them. Assumes nothing.
use Rattle.std.specs.Prelude.{ℕ, ◌+◌, ◌-◌, ◌≡◌, Bool, not, List, [], ◌∷◌, map, length, take}
use Rattle.monomial.specs.Exponents.{order_of, divides, quotient, product, compare_in}
use Rattle.monomial.specs.Layout.{below}
use Rattle.monomial.specs.Words.{compare_words, divides_word}
use Rattle.polynomial.specs.Terms.{Term, terms}
use Rattle.polynomial.specs.declared.setting.Setting.{Setting}
use Rattle.geobucket.specs.Events.{Work, start, perform}
use Rattle.call.specs.Answers.{Outcome}
use Rattle.call.specs.Lending.{polynomial, divisors_of}
use Rattle.call.specs.Places.{held_at}
use Rattle.division.specs.Choice.{chosen}
use Rattle.division.specs.Division.{Division}
use Rattle.division.specs.Ending.{Ending}
use Rattle.division.specs.InExponents.{in_exponents}
use Rattle.division.specs.Combination.{Combination, LeadsOf}
use Rattle.division.specs.Demanded.{reduction_events}
use Rattle.reduction_outcome.specs.Outcome.{reduced_through}

-- the numbers that a reduction can answer with at all, those of its opening checks first: it has no operations, so no 9
abbrev pub reduction_numbers : List ℕ
reduction_numbers = 0 ∷ 1 ∷ 2 ∷ 3 ∷ 4 ∷ 5 ∷ 6 ∷ 7 ∷ 8 ∷ 24 ∷ 10 ∷ 11 ∷ 12 ∷ 13 ∷ []

module _ (t : Setting) where
  -- a polynomial by the exponents of its words
  abbrev pub by_exponents : List (Term ℕ) → List (Term (List ℕ))
  by_exponents f = in_exponents (order_of t.order) t.n f

  -- the remainder, finished or so far: the terms in the output places that the answer counts
  abbrev pub remainder_in : Outcome → List (Term (List ℕ))
  remainder_in x = by_exponents (terms (take x.answer.places x.ow) (take x.answer.places x.oc))

  -- what is still held: the terms in the bucket space
  abbrev pub held_in : Outcome → List (Term (List ℕ))
  held_in x = by_exponents (held_at x.bw x.bc)

  -- α is a monomial in n variables
  abbrev pub InVariables : List ℕ → Type 0
  InVariables α = length α ≡ t.n

  -- "12: a product has an exponent over 127"
  abbrev pub over_exponents : List ℕ → List ℕ → Bool
  over_exponents α β = not (below 128 (product α β))

  -- ---- polynomial 0 and the divisors of a call
  module _ (words coefs ss : List ℕ) where
    abbrev pub dividend_in : List (Term (List ℕ))
    dividend_in = by_exponents (polynomial words coefs ss 0)

    abbrev pub divisors_in : List (List (Term (List ℕ)))
    divisors_in = map by_exponents (divisors_of words coefs ss)

    -- the leads that the reduction removes, in words; by exponents they are those of the division algorithm, and no others (theorems `leads-are` and `leads-only`)
    abbrev pub leads_removed : (limit places : ℕ) → List (Term ℕ)
    leads_removed limit places = (reduced_through t words coefs ss limit places).work.given

    -- what the published merge and search make of the empty geobucket on the list of additions and leads
    abbrev pub work_on : (leads : List (Term ℕ)) → Work ℕ
    work_on leads = perform (compare_words (order_of t.order)) t.p (reduction_events (chosen divides_word (divisors_of words coefs ss)) ◌-◌ ◌+◌ t.p (polynomial words coefs ss 0) leads) start

  -- ---- with the divisors gs
  module _ (gs : List (List (Term (List ℕ)))) where
    -- the division algorithm divides f in k steps, and leaves r
    abbrev pub DividesTo : (k : ℕ) → (f r : List (Term (List ℕ))) → Type 0
    DividesTo k f r = Division (compare_in (order_of t.order) t.weights) (chosen divides gs) quotient product t.p k f r

    -- its first k steps remove the leads ls, in this order
    abbrev pub Removes : (k : ℕ) → (f ls : List (Term (List ℕ))) → Type 0
    Removes k f ls = LeadsOf (compare_in (order_of t.order) t.weights) (chosen divides gs) quotient product t.p k f ls

    -- f is r and a sum of multiples of divisors by monomials in n variables, as polynomials modulo p
    abbrev pub SumWith : (f r : List (Term (List ℕ))) → Type 0
    SumWith f r = Combination (compare_in (order_of t.order) t.weights) product InVariables t.p gs f r

    -- the reduction of f ends in the outcome x with the number k, under the condition that document 01 names for it
    abbrev pub EndsWith : (k : ℕ) → (f : List (Term (List ℕ))) → (places limit : ℕ) → Outcome → Type 0
    EndsWith k f places limit x = Ending (compare_in (order_of t.order) t.weights) (chosen divides gs) quotient over_exponents t.p places limit k x.answer.finished f (remainder_in x) (held_in x ∷ [])
