-- Which refusals the opening checks can give at all: these numbers, and no other. Assumes nothing.
use mathlib.Core.Path.{◌≡◌, refl, ap, ◌∙◌}
use mathlib.Core.Bool.{Bool, true, false, ◌&&◌}
use mathlib.Core.List.{List, [], ◌∷◌, ◌++◌}
use mathlib.Core.Logic.{◌⊎◌, inl, inr, ⊎_elim}
use Prim.Native.Nat.{ℕ, zero, suc, ◌-◌}
use lib.Dec.{leb, ltb}
use lib.ListN.{length}
use Rattle.limits.specs.Limits.{largest_prime, most_variables}
use Rattle.refusal.specs.Table.{listed}
use Rattle.residue.specs.Prime.{is_prime}
use Rattle.monomial.specs.declared.order.Order.{Order}
use Rattle.monomial.specs.Exponents.{order_of}
use Rattle.monomial.specs.Layout.{in_layout}
use Rattle.monomial.specs.Words.{compare_words}
use Rattle.conditions.specs.Operations.{GoodOperations}
use Rattle.polynomial.specs.declared.setting.Setting.{Setting}
use Rattle.polynomial.specs.Terms.{Term, terms}
use Rattle.polynomial.specs.Opening.{first, term_by, term_refusal, terms_refusal, fall, order_by, refusal_of, polynomial_refusal, part_of}
use Rattle.opening.specs.Run.{unless, between, weights_good, setting, run_refusal}
use Rattle.refusal.specs.Judgement.{condition, OneOf, one_of, NumberedBy}
use Rattle.refusal.proofs.JudgementLaws.{judged-numbers, numbered-then, numbers-listed}
use Rattle.opening.specs.Reduction.{reduction_refusal}
use Rattle.opening.specs.Judgement.{GoodOrder, GoodShape, setting_conditions, places_conditions, polynomial_conditions, conditions_below, polynomials_conditions, run_conditions}
use Rattle.opening.specs.ReductionJudgement.{GoodReductionShape, GoodDivisors, reduction_conditions}
use Rattle.opening.proofs.Judgements.{judged}
use Rattle.opening.proofs.ReductionJudgements.{reduction-judged}

-- ---- the numbers of the conditions, among any that have them
module _ (ns : List ℕ) (t : Setting) where
  pub setting-by : one_of ns 1 ≡ true → one_of ns 2 ≡ true → one_of ns 3 ≡ true → one_of ns 24 ≡ true → NumberedBy ns (setting_conditions t)
  setting-by one two three twenty-four = (one, (two, (three, (twenty-four, tt))))

  module _ (four : one_of ns 4 ≡ true) (five : one_of ns 5 ≡ true) (six : one_of ns 6 ≡ true) where
    places-by : (us : List (Term ℕ)) → NumberedBy ns (places_conditions t us)
    places-by [] = tt
    places-by (u ∷ us) = (four, (five, places-by us))

    pub polynomial-by : (us : List (Term ℕ)) → NumberedBy ns (polynomial_conditions t us)
    polynomial-by us = numbered-then ns (places_conditions t us) (condition 6 (GoodOrder t us) ∷ []) (places-by us) (six, tt)

    module _ (words coefs ss : List ℕ) where
      below_by : (k : ℕ) → NumberedBy ns (conditions_below t words coefs ss k)
      below_by zero = tt
      below_by (suc k) = numbered-then ns (conditions_below t words coefs ss k) (polynomial_conditions t (terms (part_of ss k words) (part_of ss k coefs))) (below_by k) (polynomial-by (terms (part_of ss k words) (part_of ss k coefs)))

      pub polynomials-by : NumberedBy ns (polynomials_conditions t words coefs ss)
      polynomials-by = below_by (length ss - 1)

-- ---- a run
abbrev run_numbers : List ℕ
run_numbers = 1 ∷ 2 ∷ 3 ∷ 4 ∷ 5 ∷ 6 ∷ 8 ∷ 9 ∷ 24 ∷ []

module _ (t : Setting) (words coefs ss ops : List ℕ) (bw bc ww wc ow oc : ℕ) where
  pub run-numbers : OneOf (0 ∷ 1 ∷ 2 ∷ 3 ∷ 4 ∷ 5 ∷ 6 ∷ 8 ∷ 9 ∷ 24 ∷ []) (run_refusal t words coefs ss ops bw bc ww wc ow oc)
  run-numbers =
      judged-numbers run_numbers (run_conditions t words coefs ss ops bw bc ww wc ow oc) (run_refusal t words coefs ss ops bw bc ww wc ow oc)
      (numbered-then run_numbers (setting_conditions t)
      (condition 8 (GoodShape t.weights words coefs ss ops bw bc ww wc ow oc) ∷ (condition 9 (GoodOperations ops (length ss - 1)) ∷ polynomials_conditions t words coefs ss))
      (setting-by run_numbers t refl refl refl refl) (refl, (refl, polynomials-by run_numbers t refl refl refl words coefs ss)))
      (judged t words coefs ss ops bw bc ww wc ow oc)

  pub run-listed : (run_refusal t words coefs ss ops bw bc ww wc ow oc ≡ 0 → ⊥) → listed (run_refusal t words coefs ss ops bw bc ww wc ow oc) ≡ true
  unfolding listed
  run-listed = numbers-listed run_numbers (run_refusal t words coefs ss ops bw bc ww wc ow oc) (refl, (refl, (refl, (refl, (refl, (refl, (refl, (refl, (refl, tt))))))))) run-numbers

-- ---- a reduction
abbrev reduction_numbers : List ℕ
reduction_numbers = 1 ∷ 2 ∷ 3 ∷ 4 ∷ 5 ∷ 6 ∷ 7 ∷ 8 ∷ 24 ∷ []

module _ (t : Setting) (words coefs ss : List ℕ) (limit bw bc ww wc ow oc : ℕ) where
  pub reduction-numbers : OneOf (0 ∷ 1 ∷ 2 ∷ 3 ∷ 4 ∷ 5 ∷ 6 ∷ 7 ∷ 8 ∷ 24 ∷ []) (reduction_refusal t words coefs ss limit bw bc ww wc ow oc)
  reduction-numbers =
      let polynomials = polynomials_conditions t words coefs ss in
      let seven = condition 7 (GoodDivisors words coefs ss) in
      judged-numbers reduction_numbers (reduction_conditions t words coefs ss limit bw bc ww wc ow oc) (reduction_refusal t words coefs ss limit bw bc ww wc ow oc)
      (numbered-then reduction_numbers (setting_conditions t)
      (condition 8 (GoodReductionShape (length t.weights) (length words) (length coefs) ss limit bw bc ww wc ow oc) ∷ (polynomials ++ (seven ∷ [])))
      (setting-by reduction_numbers t refl refl refl refl) (refl, numbered-then reduction_numbers polynomials (seven ∷ []) (polynomials-by reduction_numbers t refl refl refl words coefs ss) (refl, tt)))
      (reduction-judged t words coefs ss limit bw bc ww wc ow oc)

  pub reduction-listed : (reduction_refusal t words coefs ss limit bw bc ww wc ow oc ≡ 0 → ⊥) → listed (reduction_refusal t words coefs ss limit bw bc ww wc ow oc) ≡ true
  unfolding listed
  reduction-listed = numbers-listed reduction_numbers (reduction_refusal t words coefs ss limit bw bc ww wc ow oc) (refl, (refl, (refl, (refl, (refl, (refl, (refl, (refl, (refl, tt))))))))) reduction-numbers

-- ---- the same of a chain of checks, test by test
abbrev pub Numbered : ℕ → Type 0
Numbered n = (n ≡ 0) ⊎ (listed n ≡ true)

-- what a check gave, unless it is 0, is a refusal's
pub is-listed : {r n : ℕ} → r ≡ n → Numbered n → (r ≡ 0 → ⊥) → listed r ≡ true
is-listed e a some = ⊎_elim (λ z. absurd (some (e ∙ z))) (λ l. ap listed e ∙ l) a

pub first-numbered : (r k : ℕ) → Numbered r → Numbered k → Numbered (first r k)
first-numbered zero k a b = b
first-numbered (suc r) k a b = a

pub unless-numbered : (good : Bool) (r : ℕ) → listed r ≡ true → Numbered (unless good r)
unless-numbered true r l = inl refl
unless-numbered false r l = inr l

pub setting-numbered : (t : Setting) → Numbered (setting t)
unfolding setting listed
setting-numbered t =
    first-numbered _ _ (unless-numbered (is_prime t.p && leb t.p largest_prime) 1 refl)
    (first-numbered _ _ (unless-numbered (between 1 3 t.order) 2 refl)
    (first-numbered _ _ (unless-numbered (between 1 most_variables t.n) 3 refl)
    (unless-numbered (weights_good t.n t.weights) 24 refl)))

-- ---- polynomials: 4, 5 and 6
term-numbered : (coef_good word_good : Bool) → Numbered (term_by coef_good word_good)
unfolding listed
term-numbered false w = inr refl
term-numbered true false = inr refl
term-numbered true true = inl refl

terms-numbered : (o : Order) (n : ℕ) (vs : List ℕ) (p : ℕ) (ts : List (Term ℕ)) → Numbered (terms_refusal (term_refusal o n vs p) ts)
unfolding terms_refusal
terms-numbered o n vs p [] = inl refl
terms-numbered o n vs p (t ∷ ts) = first-numbered _ _ (term-numbered (ltb 0 t.coef && ltb t.coef p) (in_layout o n vs t.mono)) (terms-numbered o n vs p ts)

order-numbered : (falling : Bool) → Numbered (order_by falling)
unfolding listed
order-numbered true = inl refl
order-numbered false = inr refl

pub polynomial-numbered : (t : Setting) (ts : List (Term ℕ)) → Numbered (polynomial_refusal t ts)
unfolding refusal_of
polynomial-numbered t ts = first-numbered _ _ (terms-numbered (order_of t.order) t.n t.weights t.p ts) (order-numbered (fall (compare_words (order_of t.order)) ts))
