-- A reduction's opening checks, and what a reduction that no check refuses is. Assumes nothing.
use mathlib.Core.Path.{◌≡◌, refl, sym, ap, ◌∙◌}
use mathlib.Core.Bool.{Bool, true, ◌&&◌}
use mathlib.Core.List.{List}
use Prim.Native.Nat.{ℕ}
use native.Mathlib.Omega.{arith}
use borrow.Author.Tests.{leb-true}
use lib.Dec.{leb, ltb}
use lib.ListN.{length}
use Rattle.limits.specs.Limits.{most_steps}
use Rattle.conditions.specs.Lengths.{lent_good}
use Rattle.conditions.specs.Divisors.{divisors_good}
use Rattle.conditions.proofs.LengthLaws.{lent-passes}
use Rattle.conditions.proofs.DivisorLaws.{divisors-rise}
use Rattle.monomial.proofs.Places.{and_both}
use Rattle.polynomial.specs.declared.setting.Setting.{Setting}
use Rattle.polynomial.specs.Opening.{starts_good, first}
use Rattle.opening.specs.Run.{unless, setting, polynomials_refusal}
use Rattle.opening.specs.Reduction.{reduction_shape, reduction_refusal, ReductionOpened}
use Rattle.opening.specs.ReductionJudgement.{GoodReductionShape}
use Rattle.polynomial.proofs.OpeningLaws.{first-none}
use Rattle.opening.proofs.Tests.{first_some, passed}
use Rattle.opening.proofs.SettingLaws.{setting-passes}
use Rattle.opening.proofs.PolynomialLaws.{polynomials-pass}
use Rattle.opening.proofs.StartsJudged.{starts-good, good-starts}

pub reduction-shape-passes : {weights words coefs : ℕ} {ss : List ℕ} {limit bw bc ww wc ow oc : ℕ} → reduction_shape weights words coefs ss limit bw bc ww wc ow oc ≡ true → GoodReductionShape weights words coefs ss limit bw bc ww wc ow oc
unfolding reduction_shape
reduction-shape-passes {weights} {words} {coefs} {ss} {limit} {bw} {bc} {ww} {wc} {ow} {oc} h =
    let x = and_both (lent_good weights words coefs bw bc ww wc ow oc) (starts_good ss words && (ltb 1 (length ss) && leb limit most_steps)) h in
    let y = and_both (starts_good ss words) (ltb 1 (length ss) && leb limit most_steps) x.1 in
    let z = and_both (ltb 1 (length ss)) (leb limit most_steps) y.1 in
    record { lent = lent-passes x.0; starts = starts-good words ss y.0; some = leb-true 2 (length ss) z.0; few-steps = leb-true limit most_steps z.1 }

-- a refusal of the setting comes first
pub reduction-setting : (t : Setting) (words coefs starts : List ℕ) (limit bw bc ww wc ow oc r : ℕ) → r ≡ setting t → (r ≡ 0 → ⊥) → r ≡ reduction_refusal t words coefs starts limit bw bc ww wc ow oc
unfolding reduction_refusal
reduction-setting t words coefs starts limit bw bc ww wc ow oc r e h = rw (← e) (first_some r _ h)

-- past setting and shape, the polynomials decide, and then the divisors
module _ (t : Setting) (words coefs starts : List ℕ) (limit bw bc ww wc ow oc : ℕ) {r : ℕ} (e : setting t ≡ 0) (g : reduction_shape (length t.weights) (length words) (length coefs) starts limit bw bc ww wc ow oc ≡ true) (er : r ≡ polynomials_refusal t words coefs starts) where
  past : reduction_refusal t words coefs starts limit bw bc ww wc ow oc ≡ first r (unless (divisors_good starts) 7)
  unfolding reduction_refusal
  past = rw (e, g, er) refl

  pub reduction-later : (r ≡ 0 → ⊥) → r ≡ reduction_refusal t words coefs starts limit bw bc ww wc ow oc
  reduction-later h = first_some r (unless (divisors_good starts) 7) h ∙ sym past

  pub reduction-last : r ≡ 0 → {b : Bool} → b ≡ divisors_good starts → unless b 7 ≡ reduction_refusal t words coefs starts limit bw bc ww wc ow oc
  reduction-last z {b} d = ap (λ (x : Bool). unless x 7) d ∙ (sym (ap (λ (x : ℕ). first x (unless (divisors_good starts) 7)) z) ∙ sym past)

-- a reduction that no opening check refuses is opened
pub reduction-opened : (t : Setting) (words coefs starts : List ℕ) (limit bw bc ww wc ow oc : ℕ) → reduction_refusal t words coefs starts limit bw bc ww wc ow oc ≡ 0 → ReductionOpened t words coefs starts limit bw bc ww wc ow oc
unfolding reduction_refusal
reduction-opened t words coefs starts limit bw bc ww wc ow oc h =
    let good = reduction_shape (length t.weights) (length words) (length coefs) starts limit bw bc ww wc ow oc in
    let polys = polynomials_refusal t words coefs starts in
    let last = unless (divisors_good starts) 7 in
    let a = first-none (setting t) (first (unless good 8) (first polys last)) h in
    let b = first-none (unless good 8) (first polys last) a.1 in
    let d = first-none polys last b.1 in
    let s = setting-passes t a.0 in
    let x = reduction-shape-passes (passed good 8 (omega arith) b.0) in
    let l = x.lent in
    record {
      prime = s.prime;
      limit = s.limit;
      order-low = s.order-low;
      order-high = s.order-high;
      n-low = s.n-low;
      n-high = s.n-high;
      weights = s.weights;
      weights-six = l.weights-six;
      lent = l.lent;
      output = l.output;
      bucket-words = l.bucket-words;
      bucket-coefs = l.bucket-coefs;
      work-words = l.work-words;
      work-coefs = l.work-coefs;
      starts = good-starts (length words) starts x.starts;
      some = x.some;
      few-steps = x.few-steps;
      polynomials = polynomials-pass t words coefs starts d.0;
      divisors = divisors-rise starts (passed (divisors_good starts) 7 (omega arith) d.1);
    }
