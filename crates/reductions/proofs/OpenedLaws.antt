-- What a reduction that no opening check refuses can be done with. Assumes nothing.
use mathlib.Core.Path.{◌≡◌, sym, ap, ◌∙◌}
use mathlib.Core.List.{List, [], ◌∷◌}
use Prim.Native.Nat.{ℕ, ◌≤◌}
use native.Mathlib.Omega.{arith}
use lib.ListN.{length, drop, length-drop}
use lib.Seq.{take_all}
use Rattle.monomial.specs.declared.order.Order.{Order}
use Rattle.monomial.specs.Exponents.{order_of, weighted}
use Rattle.monomial.specs.Layout.{fields, Below, Layout}
use Rattle.monomial.proofs.Places.{weighted-enough}
use Rattle.monomial.proofs.LayoutLaws.{length_fields}
use Rattle.polynomial.proofs.MergeLaws.{all_map}
use Rattle.polynomial.proofs.StartLaws.{good-within}
use Rattle.space.specs.Space.{Buckets, no_buckets}
use Rattle.polynomial.specs.declared.setting.Setting.{Setting}
use Rattle.opening.specs.Reduction.{ReductionOpened}
use Rattle.call.specs.Lending.{polynomial, Lent}
use Rattle.reduction_outcome.proofs.OpenedLaws.{valid-polynomial}
use Rattle.opening.proofs.WeightsJudged.{weights-range}
use Rattle.reducer.specs.Stepping.{Reducible}

-- a word of the layout in n variables is one in six: the other fields are 0, so their weights do not matter
layout-six : (o : Order) (n : ℕ) (vs : List ℕ) (w : ℕ) → n ≤ 6 → Layout o n vs w → Layout o 6 vs w
layout-six o n vs w few l = record {
  degree-is = l.degree-is ∙ (weighted-enough vs n (fields o w) l.beyond ∙ sym (ap (weighted vs) (take_all 6 (fields o w) (omega (arith, length_fields o w)))));
  tops = l.tops;
  beyond = none (drop 6 (fields o w)) (omega (arith, length-drop 6 (fields o w), length_fields o w));
}
  where
    none : (α : List ℕ) → length α ≤ 0 → Below 1 α
    none [] h = tt
    none (a ∷ α) h = absurd (let z : ⊥ = omega arith in z)

module _ {t : Setting} {words coefs ss : List ℕ} {steps lbw lbc lww lwc low loc : ℕ} (o : ReductionOpened t words coefs ss steps lbw lbc lww lwc low loc) where
  abbrev p : ℕ
  p = t.p

  abbrev order : ℕ
  order = t.order

  abbrev n : ℕ
  n = t.n

  abbrev weights : List ℕ
  weights = t.weights

  pub reducible : Reducible (order_of order) p words coefs ss steps
  reducible = record {
    checked = record {
      weights = weights;
      small = (weights-range n weights o.weights).0;
      modulus = record { two = o.prime.above; limit = omega (arith, o.limit) };
      prime = o.prime;
      long = sym o.lent;
      some = o.some;
      parts = λ k h. good-within ss (length words) o.starts k h;
      valid = λ k h.
          let v = valid-polynomial o k h in
          record { canonical = v.canonical; are = all_map {P = λ t. Layout (order_of order) n weights t.mono} {Q = λ t. Layout (order_of order) 6 weights t.mono} (λ t l. layout-six (order_of order) n weights t.mono o.n-high l) (polynomial words coefs ss k) v.are };
      not-zero = o.divisors;
    };
    few-steps = o.few-steps;
  }

pub spaces : {t : Setting} {words coefs ss : List ℕ} {steps : ℕ} {b : Buckets} → b ≡ no_buckets → (bw bc ww wc ow oc : List ℕ) → ReductionOpened t words coefs ss steps (length bw) (length bc) (length ww) (length wc) (length ow) (length oc) → Lent b bw bc ww wc ow oc
spaces e bw bc ww wc ow oc o = record { none = e; slices = record { work-words = o.work-words; work-coefs = o.work-coefs; words_long = o.bucket-words; coefs-long = o.bucket-coefs }; same-long = sym o.output }
