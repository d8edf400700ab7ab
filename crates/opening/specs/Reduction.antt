-- The opening checks of a reduction (document 01, "Refusals by cause"): "Opening order: 1, 2, 3, 8, 9; then polynomial by polynomial, the first place with 4 or 5 (4 first at one place), then 6; then 7." A reduction has no operations, so no 9; of document 02, 24 "after 3". Assumes nothing.
use Rattle.std.specs.Prelude.{ℕ, ◌+◌, ◌<◌, ◌≤◌, ◌≡◌, Bool, true, ◌&&◌, List, leb, ltb, length, get_or}
use Rattle.limits.specs.Limits.{bucket_places, largest_prime, most_steps, weight_count, work_places}
use Rattle.residue.specs.Prime.{Prime}
use Rattle.polynomial.specs.declared.setting.Setting.{Setting}
use Rattle.polynomial.specs.Terms.{terms}
use Rattle.polynomial.specs.Opening.{starts_good, part_of, first, polynomial_refusal}
use Rattle.conditions.specs.Lengths.{lent_good}
use Rattle.conditions.specs.Divisors.{divisors_good}
use Rattle.opening.specs.Run.{unless, weights_good, setting, polynomials_refusal}

-- 8: "a step limit over 8,796,093,022,208, or a reduction without polynomial 0", besides lengths and starts
unfoldable pub reduction_shape : (weights words coefs : ℕ) → (starts : List ℕ) → (limit bw bc ww wc ow oc : ℕ) → Bool
reduction_shape weights words coefs starts limit bw bc ww wc ow oc = lent_good weights words coefs bw bc ww wc ow oc && (starts_good starts words && (ltb 1 (length starts) && leb limit most_steps))

-- the refusal of a reduction by its opening checks; the last six are lengths
unfoldable pub reduction_refusal : Setting → (words coefs starts : List ℕ) (limit bw bc ww wc ow oc : ℕ) → ℕ
reduction_refusal t words coefs starts limit bw bc ww wc ow oc =
    first (setting t)
    (first (unless (reduction_shape (length t.weights) (length words) (length coefs) starts limit bw bc ww wc ow oc) 8)
    (first (polynomials_refusal t words coefs starts)
    (unless (divisors_good starts) 7)))

-- what holds of a reduction that no opening check refuses (ss: its starts)
pub record ReductionOpened (t : Setting) (words coefs ss : List ℕ) (steps bw bc ww wc ow oc : ℕ) : Type 0 where
  pub prime : Prime t.p
  pub limit : t.p ≤ largest_prime
  pub order-low : 1 ≤ t.order
  pub order-high : t.order ≤ 3
  pub n-low : 1 ≤ t.n
  pub n-high : t.n ≤ 6
  pub weights : weights_good t.n t.weights ≡ true
  pub weights-six : length t.weights ≡ weight_count
  pub lent : length words ≡ length coefs
  pub output : ow ≡ oc
  pub bucket-words : bw ≡ bucket_places
  pub bucket-coefs : bc ≡ bucket_places
  pub work-words : ww ≡ work_places
  pub work-coefs : wc ≡ work_places
  pub starts : starts_good ss (length words) ≡ true
  pub some : 1 < length ss
  pub few-steps : steps ≤ most_steps
  pub polynomials : (k : ℕ) → k + 1 < length ss → polynomial_refusal t (terms (part_of ss k words) (part_of ss k coefs)) ≡ 0
  pub divisors : (k : ℕ) → 1 ≤ k → k + 1 < length ss → get_or ss k 0 < get_or ss (k + 1) 0
