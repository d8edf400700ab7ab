-- What a passed or failed test tells. Assumes nothing.
use mathlib.Core.Path.{◌≡◌, sym, ap, ap₂, ◌∙◌}
use mathlib.Core.Bool.{Bool, true, false, not, ◌&&◌}
use Prim.Native.Nat.{ℕ}
use native.Mathlib.Omega.{arith}
use borrow.Author.Tests.{not-true, not-false}

-- what a test `!t` says of the definition b that t is
pub yes : {t b : Bool} → t ≡ b → not t ≡ false → b ≡ true
yes {t} e h = sym e ∙ not-false t h

pub no : {t b : Bool} → t ≡ b → not t ≡ true → b ≡ false
no {t} e h = sym e ∙ not-true t h

pub both : (a b : Bool) → a ≡ true → b ≡ true → (a && b) ≡ true
both a b e f = ap₂ (λ (x y : Bool). x && y) e f

-- a test that fails, of something that holds
pub clash : {b : Bool} → b ≡ false → b ≡ true → ⊥
clash {b} e f = let z : ◌≡◌ {A = ℕ} 0 1 = ap bit (sym e ∙ f) in let q : ⊥ = omega arith in q
  where
    bit : Bool → ℕ
    bit false = 0
    bit true = 1
