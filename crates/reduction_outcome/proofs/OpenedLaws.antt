-- The polynomials of a reduction that no opening check refuses. Assumes nothing.
use mathlib.Core.List.{List}
use Prim.Native.Nat.{ℕ, zero, suc, ◌+◌, ◌-◌, ◌<◌, ◌≤◌}
use native.Mathlib.Omega.{arith}
use lib.ListN.{length}
use Rattle.monomial.specs.Exponents.{order_of}
use Rattle.monomial.specs.Layout.{Layout}
use Rattle.monomial.specs.Words.{compare_words}
use Rattle.polynomial.specs.Terms.{Term}
use Rattle.polynomial.proofs.OpeningLaws.{passes}
use Rattle.space.specs.Space.{list_from}
use Rattle.polynomial.specs.declared.setting.Setting.{Setting}
use Rattle.opening.specs.Reduction.{ReductionOpened}
use Rattle.division.specs.Divisors.{Valid, AllOf}
use Rattle.call.specs.Lending.{polynomial, divisors_of}

-- what holds of each polynomial from i on holds of their list
all_from : (Q : List (Term ℕ) → Type 0) (g : ℕ → List (Term ℕ)) (i k : ℕ) → ((j : ℕ) → i ≤ j → j < i + k → Q (g j)) → AllOf Q (list_from g i k)
unfolding AllOf list_from
all_from Q g i zero h = tt
all_from Q g i (suc k) h = (h i (omega arith) (omega arith), all_from Q g (suc i) k (λ j l u. h j (omega arith) (omega arith)))

module _ {t : Setting} {words coefs ss : List ℕ} {steps lbw lbc lww lwc low loc : ℕ} (o : ReductionOpened t words coefs ss steps lbw lbc lww lwc low loc) where
  abbrev p : ℕ
  p = t.p

  abbrev order : ℕ
  order = t.order

  abbrev n : ℕ
  n = t.n

  abbrev weights : List ℕ
  weights = t.weights

  pub valid-polynomial : (k : ℕ) → k + 1 < length ss → Valid (compare_words (order_of order)) p (λ w. Layout (order_of order) n weights w) (polynomial words coefs ss k)
  valid-polynomial k h = let v = passes (order_of order) n weights p (polynomial words coefs ss k) (o.polynomials k h) in record { canonical = v.0; are = v.1 }

  pub valid-divisors : AllOf (Valid (compare_words (order_of order)) p (λ w. Layout (order_of order) n weights w)) (divisors_of words coefs ss)
  valid-divisors = all_from (λ f. Valid (compare_words (order_of order)) p (λ w. Layout (order_of order) n weights w) f) (polynomial words coefs ss) 1 (length ss - 2) (λ k l h. valid-polynomial k (omega (arith, o.some)))
