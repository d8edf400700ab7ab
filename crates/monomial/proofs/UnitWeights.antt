-- With weights of 1, words, layout and orders are document 01's. Assumes nothing.
use mathlib.Core.Path.{◌≡◌, refl, sym, ap, ap₂, ◌∙◌}
use mathlib.Core.List.{List}
use Prim.Native.Nat.{ℕ, ◌+◌, ◌*◌, ◌^◌, ◌≤◌, compare}
use native.Mathlib.Omega.{arith}
use lib.ListN.{length, length-take}
use Rattle.monomial.specs.declared.order.Order.{Order}
use Rattle.monomial.specs.declared.order.Order.TheVariants.{Lex, DegLex, DegRevLex}
use Rattle.monomial.specs.Exponents.{degree, weighted, ones, or_else, lex, rev_lex, compare_in}
use Rattle.monomial.specs.Layout.{of_bytes, six, upward, word_of, fields, exponents, Layout}
use Rattle.monomial.specs.WithoutWeights.{compare_by_degree, word_by_degree, LayoutByDegree}
use Rattle.monomial.proofs.Places.{weighted-ones}
use Rattle.monomial.proofs.LayoutLaws.{length_fields}

unit-degree : (α : List ℕ) → length α ≤ 6 → weighted ones α ≡ degree α
unit-degree α h = weighted-ones 6 α h

pub unit-compare : (o : Order) (α β : List ℕ) → length α ≤ 6 → length β ≤ 6 → compare_in o ones α β ≡ compare_by_degree o α β
unit-compare Lex α β h k = refl
unit-compare DegLex α β h k = ap₂ (λ (a b : ℕ). or_else (compare a b) (lex α β)) (unit-degree α h) (unit-degree β k)
unit-compare DegRevLex α β h k = ap₂ (λ (a b : ℕ). or_else (compare a b) (rev_lex α β)) (unit-degree α h) (unit-degree β k)

pub unit-word : (o : Order) (α : List ℕ) → length α ≤ 6 → word_of o ones α ≡ word_by_degree o α
unfolding word_of
unit-word o α h = ap (λ (d : ℕ). d * 2 ^ 48 + of_bytes (upward o (six α))) (unit-degree α h)

-- both ways, for words of any kind
module _ (o : Order) (n w : ℕ) where
  same-degree : weighted ones (exponents o n w) ≡ degree (exponents o n w)
  same-degree = unit-degree (exponents o n w) (omega (arith, length-take n (fields o w), length_fields o w))

  pub unit-layout : Layout o n ones w → LayoutByDegree o n w
  unit-layout l = record { degree-is = l.degree-is ∙ same-degree; tops = l.tops; beyond = l.beyond }

  pub layout-unit : LayoutByDegree o n w → Layout o n ones w
  layout-unit l = record { degree-is = l.degree-is ∙ sym same-degree; tops = l.tops; beyond = l.beyond }
