-- `wide_monomial::layout::in_wide_layout` meets its contract, test by test.
use mathlib.Core.Path.{◌≡◌, sym, ◌∙◌}
use mathlib.Core.Bool.{true, false}
use native.Mathlib.Omega.{arith}
use borrow.Author.Tests.{ltb-true, ltb-false}
use Rattle.wide_monomial.proofs.CodeLaws.{front-refused, back-refused, second-refused, sums-small, by-degrees}
use Rattle.wide_monomial.proofs.layout.in_wide_layout.Goals as goal
use Rattle.wide_monomial.proofs.layout.in_wide_layout.Goals.{then-clear, else-clear, then-clear-2, else-clear-2}

pub overflow_add-result : goal.overflow_add-result
overflow_add-result c = record { fits = sums-small _ _ _ _ _ _ c.weighted_sum.ensures c.weighted_sum-then-w-lt281474976710656.ensures }

pub returns-then-w-lt281474976710656 : goal.returns-then-w-lt281474976710656
returns-then-w-lt281474976710656 c o n few isx isy =
    let a = c.args.w in
    elim c.if-clear-2.branch [
      | then-clear-2 w ↦ elim c.if-clear.branch [
        | then-clear v ↦
            by-degrees a.first a.second _ _ (omega arith) (omega arith) o n few _ _ isx isy _ c.clear.ensures v.if-clear.true _ v.clear-then-clear.ensures (sym v.value-is ∙ w.if-clear-2.true) (ltb-true _ _ (sym w.value-is ∙ c.if-w-lt281474976710656.true)) _ _ c.weighted_sum.ensures c.weighted_sum-then-w-lt281474976710656.ensures
        | else-clear v ↦ let e : true ≡ false = sym w.if-clear-2.true ∙ (v.value-is ∙ v.if-clear.false) in grind arith
      ]
      | else-clear-2 w ↦ let e : true ≡ false = sym c.if-w-lt281474976710656.true ∙ (w.value-is ∙ w.if-clear-2.false) in grind arith
    ]

pub returns-else-w-lt281474976710656 : goal.returns-else-w-lt281474976710656
returns-else-w-lt281474976710656 c o n few isx isy =
    let a = c.args.w in
    let z = c.if-w-lt281474976710656.false in
    elim c.if-clear.branch [
      | else-clear v ↦ z ∙ front-refused a.first a.second _ _ (omega arith) (omega arith) o n few _ _ isx isy _ c.clear.ensures v.if-clear.false
      | then-clear v ↦ elim c.if-clear-2.branch [
        | else-clear-2 w ↦ z ∙ back-refused a.first a.second _ _ (omega arith) (omega arith) o n few _ _ isx isy _ c.clear.ensures v.if-clear.true _ v.clear-then-clear.ensures (sym v.value-is ∙ w.if-clear-2.false)
        | then-clear-2 w ↦ z ∙ second-refused a.first a.second _ _ (omega arith) (omega arith) o n few _ _ isx isy _ c.clear.ensures v.if-clear.true _ v.clear-then-clear.ensures (sym v.value-is ∙ w.if-clear-2.true) (ltb-false _ _ (sym w.value-is ∙ z))
      ]
    ]
