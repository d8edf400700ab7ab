-- Exponents of n variables meet what division asks of monomials, with no product too large. Assumes nothing.
use mathlib.Core.Path.{◌≡◌, refl, sym, ap₂, ◌∙◌}
use mathlib.Core.Bool.{true, false}
use mathlib.Core.List.{List, [], ◌∷◌}
use Prim.Native.Nat.{ℕ, ◌+◌, ◌-◌, ◌≤◌}
use native.Mathlib.Omega.{arith}
use borrow.Author.Tests.{leb-true}
use lib.Dec.{leb}
use lib.ListN.{length}
use Rattle.monomial.specs.declared.order.Order.{Order}
use Rattle.monomial.specs.Exponents.{product, quotient, divides, compare_in}
use Rattle.monomial.proofs.Places.{length-each, and_both}
use Rattle.monomial.proofs.OrderLaws.{product-keeps}
use Rattle.division.specs.Operations.{Operations}

quotient-back : (α β : List ℕ) → length α ≡ length β → divides β α ≡ true → product (quotient α β) β ≡ α
quotient-back [] [] l d = refl
quotient-back [] (b ∷ β) l d = absurd (let z : ⊥ = omega arith in z)
quotient-back (a ∷ α) [] l d = absurd (let z : ⊥ = omega arith in z)
quotient-back (a ∷ α) (b ∷ β) l d =
    let e = and_both (leb b a) (divides β α) d in
    let m : b ≤ a = leb-true b a e.0 in
    let h : a - b + b ≡ a = omega arith in
    ap₂ ◌∷◌ h (quotient-back α β (omega arith) e.1)

pub exponent-operations : (o : Order) (n : ℕ) (vs : List ℕ) → Operations (List ℕ) (compare_in o vs) divides quotient product (λ a b. false) (λ α. length α ≡ n)
exponent-operations o n vs = record {
  quotient_is = λ α β a b d. length-each (λ i j. i - j) α β (a ∙ sym b) ∙ a;
  back = λ α β a b d. quotient-back α β (a ∙ sym b) d;
  back_fits = λ α β a b d. refl;
  product_is = λ α β a b h. length-each (λ i j. i + j) α β (a ∙ sym b) ∙ a;
  keeps = λ γ α β c a b h k. product-keeps o vs γ α β (c ∙ sym a) (c ∙ sym b);
}
