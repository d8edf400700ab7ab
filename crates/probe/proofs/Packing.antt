-- The test of a word that is fit for word arithmetic. Assumes nothing.
use mathlib.Core.Path.{◌≡◌, sym, ◌∙◌}
use mathlib.Core.Bool.{true, false, ◌&&◌}
use Prim.Native.Nat.{ℕ, ◌^◌}
use lib.Bits.{bit_and}
use lib.Dec.{ltb}
use borrow.Author.Tests.{ltb-true, eq-eqb, ne_eqb}
use Rattle.monomial.specs.Layout.{bytes, below}
use Rattle.monomial.specs.Words.{Packed}
use Rattle.monomial.proofs.Places.{and_both, true_below}
use Rattle.monomial.proofs.ByteLaws.{tops, tops-clear}
use Rattle.probe.specs.Answers.{packed}

module _ (w : ℕ) where
  pub top_set : (bit_and w (tops 6) ≡ 0 → ⊥) → false ≡ packed w
  unfolding packed
  top_set h = rw (sym (tops-clear 6 w) ∙ ne_eqb (bit_and w (tops 6)) 0 h)

  pub by-room : bit_and w (tops 6) ≡ 0 → ltb w (2 ^ 63) ≡ packed w
  unfolding packed
  by-room h = rw (sym (tops-clear 6 w) ∙ eq-eqb (bit_and w (tops 6)) 0 h)

  is-so : packed w ≡ true → Packed w
  unfolding packed
  is-so h =
      let s = and_both (below 128 (bytes 6 w)) (ltb w (2 ^ 63)) h in
      record { tops = true_below 128 (bytes 6 w) s.0; room = ltb-true w (2 ^ 63) s.1 }

pub both_so : (x y : ℕ) → (packed x && packed y) ≡ true → Packed x × Packed y
both_so x y h = let s = and_both (packed x) (packed y) h in (is-so x s.0, is-so y s.1)
