-- Slices of places of either width, as lists of numbers: parts, and whole places put, whatever puts two numbers together. Assumes nothing.
use mathlib.Core.Path.{◌≡◌, refl, ap, ap₂}
use mathlib.Core.List.{List, ◌++◌}
use Prim.Native.Nat.{ℕ, ◌+◌, ◌-◌, ◌*◌, ◌/◌, ◌≤◌}
use native.Mathlib.Omega.{arith}
use lib.ListN.{length, take, drop}
use lib.Seq.{sets}
use Rattle.wide_monomial.specs.declared.width.Width.{Width}
use Rattle.wide_monomial.specs.declared.width.Width.TheVariants.{One, Two}
use Rattle.wide_monomial.specs.Widths.{words_each}
use Rattle.place.specs.Numbers.{numbers_by}
use Rattle.place.proofs.PairLaws.{length_pairs, pairs-long, pairs-whole, pairs-drop, pairs-part, pairs-lent, pairs-sets, pairs-append}

once : (n : ℕ) → 1 * n ≡ n
once n = omega arith

module _ (f : ℕ → ℕ → ℕ) where
  pub numbers-long : (w : Width) (ws : List ℕ) (n : ℕ) → length ws ≡ words_each w * n → length (numbers_by f w ws) ≡ n
  numbers-long One ws n e = omega arith
  numbers-long Two ws n e = pairs-long f ws n e

  -- a slice of as many words has as many places
  pub numbers-whole : (w : Width) (us vs : List ℕ) → length us ≡ length vs → length (numbers_by f w us) ≡ length (numbers_by f w vs)
  numbers-whole One us vs e = e
  numbers-whole Two us vs e = pairs-whole f us vs e

  pub numbers-count : (w : Width) (ws : List ℕ) → length ws / words_each w ≡ length (numbers_by f w ws)
  numbers-count One ws = omega arith
  numbers-count Two ws = omega (arith, length_pairs f ws)

  pub numbers-few : (w : Width) (ws : List ℕ) → length (numbers_by f w ws) ≤ length ws
  numbers-few One ws = omega arith
  numbers-few Two ws = omega (arith, length_pairs f ws)

  -- the words that so many places have
  pub numbers-room : (w : Width) (ws : List ℕ) (k : ℕ) → k ≤ length (numbers_by f w ws) → words_each w * k ≤ length ws
  numbers-room One ws k h = omega arith
  numbers-room Two ws k h = omega (arith, length_pairs f ws)

  -- the same for places k up to k + n
  pub numbers-space : (w : Width) (ws : List ℕ) (k n : ℕ) → k + n ≤ length (numbers_by f w ws) → words_each w * k + words_each w * n ≤ length ws
  numbers-space One ws k n h = omega arith
  numbers-space Two ws k n h = omega (arith, length_pairs f ws)

  pub numbers-drop : (w : Width) (k : ℕ) (ws : List ℕ) → numbers_by f w (drop (words_each w * k) ws) ≡ drop k (numbers_by f w ws)
  numbers-drop One k ws = ap (λ (n : ℕ). drop n ws) (once k)
  numbers-drop Two k ws = pairs-drop f k ws

  pub numbers-part : (w : Width) (from n : ℕ) (ws : List ℕ) → numbers_by f w (take (words_each w * n) (drop (words_each w * from) ws)) ≡ take n (drop from (numbers_by f w ws))
  numbers-part One from n ws = ap₂ (λ (m k : ℕ). take m (drop k ws)) (once n) (once from)
  numbers-part Two from n ws = pairs-part f from n ws

  -- the places from `from` up to `to`, as a part of a slice is lent
  pub numbers-lent : (w : Width) (from to : ℕ) (ws : List ℕ) → numbers_by f w (take (words_each w * to - words_each w * from) (drop (words_each w * from) ws)) ≡ take (to - from) (drop from (numbers_by f w ws))
  numbers-lent One from to ws = ap₂ (λ (m k : ℕ). take (m - k) (drop k ws)) (once to) (once from)
  numbers-lent Two from to ws = pairs-lent f from to ws

  pub numbers-sets : (w : Width) (ws : List ℕ) (k : ℕ) (vs : List ℕ) (n : ℕ) → length vs ≡ words_each w * n → k + n ≤ length (numbers_by f w ws) → numbers_by f w (sets ws (words_each w * k) vs) ≡ sets (numbers_by f w ws) k (numbers_by f w vs)
  numbers-sets One ws k vs n e h = ap (λ (m : ℕ). sets ws m vs) (once k)
  numbers-sets Two ws k vs n e h = pairs-sets f ws k vs n e h

  pub numbers-append : (w : Width) (us : List ℕ) (n : ℕ) (vs : List ℕ) → length us ≡ words_each w * n → numbers_by f w (us ++ vs) ≡ numbers_by f w us ++ numbers_by f w vs
  numbers-append One us n vs e = refl
  numbers-append Two us n vs e = pairs-append f us n vs e

-- there are as many places whatever puts two numbers together
pub numbers-alike : (f g : ℕ → ℕ → ℕ) (w : Width) (ws : List ℕ) → length (numbers_by f w ws) ≡ length (numbers_by g w ws)
numbers-alike f g One ws = refl
numbers-alike f g Two ws = omega (arith, length_pairs f ws, length_pairs g ws)
