-- The opening checks of a run (document 01, "Refusals by cause"): "Opening order: 1, 2, 3, 8, 9; then polynomial by polynomial, the first place with 4 or 5 (4 first at one place), then 6"; of document 02, 24 "after 3". Refusals are the documents' numbers, and 0 is none. Assumes nothing.
use Rattle.std.specs.Prelude.{ℕ, zero, suc, ◌+◌, ◌-◌, ◌<◌, ◌≤◌, ◌≡◌, Bool, true, false, ◌&&◌, List, [], ◌∷◌, leb, ltb, eqb, length}
use Rattle.limits.specs.Limits.{bucket_places, largest_prime, largest_weight, most_variables, weight_count, work_places}
use Rattle.residue.specs.Prime.{Prime, is_prime}
use Rattle.polynomial.specs.declared.setting.Setting.{Setting}
use Rattle.polynomial.specs.Terms.{terms}
use Rattle.polynomial.specs.Opening.{starts_good, part_of, first, polynomial_refusal}
use Rattle.conditions.specs.Lengths.{lent_good, pairs_good}
use Rattle.conditions.specs.Operations.{operations_good}

-- the refusal of a test: none where it is passed
abbrev pub unless : (good : Bool) → ℕ → ℕ
unless true r = 0
unless false r = r

abbrev pub between : (low high x : ℕ) → Bool
between low high x = leb low x && leb x high

-- "24, a weight outside its range (beyond n, not 1)", over the weights that are there: a weight of one of the n variables is from 1 to 16, any other is 1
abbrev pub weight_good : (used : Bool) → ℕ → Bool
weight_good true v = between 1 largest_weight v
weight_good false v = eqb v 1

unfoldable pub weights_good : (n : ℕ) → List ℕ → Bool
weights_good n [] = true
weights_good n (v ∷ vs) = weight_good (ltb 0 n) v && weights_good (n - 1) vs

-- "1: p is not a prime from 2 to 65,521. 2: order not 1 to 3. 3: n not 1 to 6.", and of document 02 "Refusal 1 has the new limit." and 24
unfoldable pub setting : Setting → ℕ
setting t = first (unless (is_prime t.p && leb t.p largest_prime) 1) (first (unless (between 1 3 t.order) 2) (first (unless (between 1 most_variables t.n) 3) (unless (weights_good t.n t.weights) 24)))

-- 8, with "starts missing or not as above"
unfoldable pub shape_good : (weights words coefs : ℕ) → (starts : List ℕ) → (ops bw bc ww wc ow oc : ℕ) → Bool
shape_good weights words coefs starts ops bw bc ww wc ow oc = lent_good weights words coefs bw bc ww wc ow oc && (starts_good starts words && pairs_good ops)

module _ (t : Setting) (words coefs starts : List ℕ) where
  -- the refusal of polynomial k: "the first place with 4 or 5 (4 first at one place), then 6"
  abbrev pub refusal_at : (k : ℕ) → ℕ
  refusal_at k = polynomial_refusal t (terms (part_of starts k words) (part_of starts k coefs))

  -- the first refusal of the polynomials from k on, as many as `more`
  unfoldable pub refusal_from : (more k : ℕ) → ℕ
  refusal_from zero k = 0
  refusal_from (suc more) k = first (refusal_at k) (refusal_from more (k + 1))

  -- "polynomial by polynomial"
  abbrev pub polynomials_refusal : ℕ
  polynomials_refusal = refusal_from (length starts - 1) 0

-- the refusal of a run by its opening checks; the last six are lengths
unfoldable pub run_refusal : Setting → (words coefs starts ops : List ℕ) (bw bc ww wc ow oc : ℕ) → ℕ
run_refusal t words coefs starts ops bw bc ww wc ow oc =
    first (setting t)
    (first (unless (shape_good (length t.weights) (length words) (length coefs) starts (length ops) bw bc ww wc ow oc) 8)
    (first (unless (operations_good ops (length starts - 1)) 9)
    (polynomials_refusal t words coefs starts)))

-- what holds of a run that no opening check refuses (ss: its starts)
pub record Opened (t : Setting) (words coefs ss ops : List ℕ) (bw bc ww wc ow oc : ℕ) : Type 0 where
  pub prime : Prime t.p
  pub limit : t.p ≤ largest_prime
  pub order-low : 1 ≤ t.order
  pub order-high : t.order ≤ 3
  pub n-low : 1 ≤ t.n
  pub n-high : t.n ≤ 6
  pub weights : weights_good t.n t.weights ≡ true
  pub weights-six : length t.weights ≡ weight_count
  pub lent : length words ≡ length coefs
  pub output : ow ≡ oc
  pub bucket-words : bw ≡ bucket_places
  pub bucket-coefs : bc ≡ bucket_places
  pub work-words : ww ≡ work_places
  pub work-coefs : wc ≡ work_places
  pub starts : starts_good ss (length words) ≡ true
  pub pairs : pairs_good (length ops) ≡ true
  pub operations : operations_good ops (length ss - 1) ≡ true
  pub polynomials : (k : ℕ) → k + 1 < length ss → polynomial_refusal t (terms (part_of ss k words) (part_of ss k coefs)) ≡ 0
