-- Wrong programs for reductions: for each a call, and what is right there; the wrong program makes something else of it. Modulo 7 in dp, n = 2, with document 01's polynomials. Assumes nothing.
use mathlib.Core.Path.{◌≡◌, refl, ap}
use mathlib.Core.Bool.{Bool, true}
use mathlib.Core.List.{List, [], ◌∷◌}
use Prim.Native.Nat.{ℕ, suc, ◌+◌, ◌<◌, Ordering}
use lib.ListN.{length}
use Rattle.limits.specs.Limits.{most_terms}
use Rattle.residue.specs.Modular.{inverse_below, inverse_of}
use Rattle.monomial.specs.Layout.{word_of, bytes}
use Rattle.polynomial.specs.Terms.{Term}
use Rattle.polynomial.specs.Merge.{keep, into, merge, compared_into, compared}
use Rattle.geobucket.specs.Buckets.{held, carry, carry_compared, place, place_compared, add, add_compared}
use Rattle.geobucket.specs.Search.{lead, search, seek, pass, onward, ended, search_in, put_back}
use Rattle.geobucket.specs.Events.{Work, removed}
use Rattle.division.specs.Choice.{Fit, fits, first_from, chosen}
use Rattle.division.specs.Steps.{Reduction, any_too_large, dividing, keeping, steps_from, reduction}
use Rattle.division.specs.Examples.{in-dp, dividend, by-x1x2, by-x2², by-x1, reduced_in7}
use Rattle.division.proofs.StepLaws.{step-large}

-- a program that uses the last fitting divisor removes 5 leads here, as with the divisors swapped
pub first-divisor : ((reduced_in7 6 dividend (by-x1x2 ∷ by-x2² ∷ [])).leads ≡ 6) × ((reduced_in7 6 dividend (by-x2² ∷ by-x1x2 ∷ [])).leads ≡ 5)
unfolding word_of bytes keep into merge compared_into compared held carry carry_compared place place_compared add add_compared seek pass onward ended search_in put_back inverse_below inverse_of first_from chosen any_too_large dividing keeping steps_from reduction
first-divisor = (refl, refl)

-- and leaves another remainder: x1+x2+1 is right, and 2x1+1 with the divisors swapped
pub first-divisor-remainder : ((reduced_in7 6 dividend (by-x1x2 ∷ by-x2² ∷ [])).remainder ≡ in-dp 1 (1 ∷ 0 ∷ []) ∷ in-dp 1 (0 ∷ 1 ∷ []) ∷ in-dp 1 (0 ∷ 0 ∷ []) ∷ []) × ((reduced_in7 6 dividend (by-x2² ∷ by-x1x2 ∷ [])).remainder ≡ in-dp 2 (1 ∷ 0 ∷ []) ∷ in-dp 1 (0 ∷ 0 ∷ []) ∷ [])
unfolding word_of bytes keep into merge compared_into compared held carry carry_compared place place_compared add add_compared seek pass onward ended search_in put_back inverse_below inverse_of first_from chosen any_too_large dividing keeping steps_from reduction
first-divisor-remainder = (refl, refl)

-- a program that judges 11 before 12 stops with 11 at every step where both hold
pub twelve-first : {A : Type 0} (cmp : A → A → Ordering) (choose : A → Fit A) (quotient ◌·◌ : A → A → A) (too_large : A → A → Bool) (p places more leads : ℕ) (r : List (Term A)) (w : Work A) (at : ℕ) (t : Term A) (j : ℕ) (g : Term A) (tail : List (Term A))
    → (search cmp p w.buckets).answer ≡ lead at t → choose t.mono ≡ fits j g tail
    → any_too_large too_large (quotient t.mono g.mono) tail ≡ true → most_terms < held (removed cmp p w).buckets + length tail
    → (steps_from cmp choose quotient ◌·◌ too_large p places (suc more) leads r w).stop ≡ 12
twelve-first cmp choose quotient ◌·◌ too_large p places more leads r w at t j g tail found fit over many = ap (λ (x : Reduction _). x.stop) (step-large cmp choose quotient ◌·◌ too_large p places more leads r w at t found j g tail fit over)

-- a program that stops with 13 before it searches does so here, where zero is reduced with the limit 0
pub search-first : (reduced_in7 0 [] (by-x1x2 ∷ [])).stop ≡ 0
unfolding word_of bytes keep into merge compared_into compared held carry carry_compared place place_compared add add_compared seek pass onward ended search_in put_back inverse_below inverse_of first_from chosen any_too_large dividing keeping steps_from reduction
search-first = refl

-- and here it has counted no comparison for the lead that the stopped step finds: the tail 1 is in bucket 1, and the rest of the five terms x1x2+x2²+x1+x2+1 in bucket 2
pub stopped-search-counted : length (reduced_in7 1 (in-dp 1 (1 ∷ 1 ∷ []) ∷ in-dp 1 (0 ∷ 2 ∷ []) ∷ in-dp 1 (1 ∷ 0 ∷ []) ∷ in-dp 1 (0 ∷ 1 ∷ []) ∷ in-dp 1 (0 ∷ 0 ∷ []) ∷ []) (by-x1x2 ∷ [])).work.pairs ≡ 1
unfolding word_of bytes keep into merge compared_into compared held carry carry_compared place place_compared add add_compared seek pass onward ended search_in put_back inverse_below inverse_of first_from chosen any_too_large dividing keeping steps_from reduction
stopped-search-counted = refl

-- a program that drops the lead on a stop holds nothing here: after 5 leads the constant 1 is left
pub stopped-lead-stays : (reduced_in7 5 dividend (by-x1x2 ∷ by-x2² ∷ [])).work.buckets ≡ (in-dp 1 (0 ∷ 0 ∷ []) ∷ []) ∷ [] ∷ [] ∷ [] ∷ [] ∷ [] ∷ []
unfolding word_of bytes keep into merge compared_into compared held carry carry_compared place place_compared add add_compared seek pass onward ended search_in put_back inverse_below inverse_of first_from chosen any_too_large dividing keeping steps_from reduction
stopped-lead-stays = refl

-- a program that adds the tail before 12 is judged brings in 2 terms here, and holds another: x1^127·x2² by x2²+6x1
pub none-added : (length (reduced_in7 2 (in-dp 1 (127 ∷ 2 ∷ []) ∷ []) (by-x1 ∷ [])).work.brought ≡ 1) × ((reduced_in7 2 (in-dp 1 (127 ∷ 2 ∷ []) ∷ []) (by-x1 ∷ [])).work.buckets ≡ (in-dp 1 (127 ∷ 2 ∷ []) ∷ []) ∷ [] ∷ [] ∷ [] ∷ [] ∷ [] ∷ [])
unfolding word_of bytes keep into merge compared_into compared held carry carry_compared place place_compared add add_compared seek pass onward ended search_in put_back inverse_below inverse_of first_from chosen any_too_large dividing keeping steps_from reduction
none-added = (refl, refl)
