-- A number of two words by its parts, and lists by their parts. Assumes nothing.
use mathlib.Core.Path.{◌≡◌, sym, ap, ap₂, ◌∙◌}
use mathlib.Core.List.{List, [], ◌∷◌, ◌++◌, append-nil, append_assoc}
use Prim.Native.Nat.{ℕ, zero, suc, ◌+◌, ◌-◌, ◌*◌, ◌/◌, ◌%◌, ◌^◌, ◌<◌, ◌≤◌}
use native.Mathlib.Nat.{zero-add, mod-eq_of_lt, div-eq_of_lt, mod-add-div, add-mul-mod_self_left, add-mul-div_left}
use native.Mathlib.Omega.{arith}
use native.Mathlib.Decide.{dec_le}
use lib.Dec.{lit<}
use lib.ListN.{length, take, drop, replicate, length-take, length-drop, take-append-drop, replicate-append-replicate, drop_of_length-le}
use lib.Seq.{take_all, length-take-le}
use Rattle.monomial.specs.Layout.{six, Below}
use Rattle.monomial.specs.Words.{low, high, degree_in, first_in, second_in}
use Rattle.wide_monomial.specs.Wide.{paired}

-- ---- two words
module _ (a b : ℕ) (ha : a < 2 ^ 64) where
  pub first_of : first_in (paired a b) ≡ a
  first_of = add-mul-mod_self_left a (2 ^ 64) b ∙ mod-eq_of_lt ha

  pub above_of : paired a b / 2 ^ 64 ≡ b
  above_of = add-mul-div_left a b (lit< tt) ∙ (ap (λ (t : ℕ). t + b) (div-eq_of_lt ha) ∙ zero-add b)

  pub second-of : b < 2 ^ 64 → second_in (paired a b) ≡ b
  second-of hb = ap (λ (t : ℕ). t % 2 ^ 64) above_of ∙ mod-eq_of_lt hb

pub second-whole : (x : ℕ) → x / 2 ^ 64 < 2 ^ 64 → second_in x ≡ x / 2 ^ 64
second-whole x h = mod-eq_of_lt h

pub pair-whole : (x : ℕ) → paired (first_in x) (x / 2 ^ 64) ≡ x
pair-whole x = mod-add-div x (2 ^ 64)

pub two-whole : (x : ℕ) → x / 2 ^ 64 < 2 ^ 64 → paired (first_in x) (second_in x) ≡ x
two-whole x h = ap (paired (first_in x)) (second-whole x h) ∙ pair-whole x

-- a second word without its top 16 bits
pub second_fits : (t : ℕ) → t < 2 ^ 48 → t < 2 ^ 64
second_fits t h = omega arith

-- ---- the first word
pub low_first : (x : ℕ) → low (first_in x) ≡ low x
low_first x = omega arith

pub high-first : (x : ℕ) → high (first_in x) ≡ degree_in x
high-first x = omega arith

pub first-parts : (x : ℕ) → first_in x ≡ degree_in x * 2 ^ 48 + low x
first-parts x = omega arith

-- ---- lists
pub below-drop : (k n : ℕ) (α : List ℕ) → Below k α → Below k (drop n α)
below-drop k zero α u = u
below-drop k (suc n) [] u = tt
below-drop k (suc n) (a ∷ α) u = below-drop k n α u.1

pub below_both : (k : ℕ) (α β : List ℕ) → Below k (α ++ β) → Below k α × Below k β
below_both k [] β u = (tt, u)
below_both k (a ∷ α) β u = let r = below_both k α β u.1 in ((u.0, r.0), r.1)

pub both_below : (k : ℕ) (α β : List ℕ) → Below k α → Below k β → Below k (α ++ β)
both_below k [] β u v = v
both_below k (a ∷ α) β u v = (u.0, both_below k α β u.1 v)

-- fields of variables beyond n are 0
abbrev pub twelve : List ℕ → List ℕ
twelve α = α ++ replicate (12 - length α) 0

pub short-take : (α : List ℕ) → length (take 6 α) ≤ 6
short-take α = omega (arith, length-take 6 α)

pub short-drop : (α : List ℕ) → length α ≤ 12 → length (drop 6 α) ≤ 6
short-drop α h = omega (arith, length-drop 6 α)

-- two times six fields are twelve
pub halves : (α : List ℕ) → length α ≤ 12 → six (take 6 α) ++ six (drop 6 α) ≡ twelve α
halves α h = go (dec_le (length α) 6)
  where
    go : Dec (length α ≤ 6) → six (take 6 α) ++ six (drop 6 α) ≡ twelve α
    go (yes k) =
        ap₂ (λ (l m : List ℕ). six l ++ six m) (take_all 6 α k) (drop_of_length-le α {i = 6} k)
        ∙ (append_assoc α (replicate (6 - length α) 0) (replicate 6 0)
        ∙ ap (λ (l : List ℕ). α ++ l) (replicate-append-replicate (6 - length α) 6 0 ∙ ap (λ (m : ℕ). replicate m 0) (let e : 6 - length α + 6 ≡ 12 - length α = omega arith in e)))
    go (no k) =
        let l = length-take-le 6 α (omega arith) in
        ap₂ (λ (a b : List ℕ). a ++ b)
        (ap (λ (m : ℕ). take 6 α ++ replicate (6 - m) 0) l ∙ append-nil (take 6 α))
        (ap (λ (m : ℕ). drop 6 α ++ replicate m 0) (let e : 6 - length (drop 6 α) ≡ 12 - length α = omega (arith, length-drop 6 α) in e))
        ∙ (sym (append_assoc (take 6 α) (drop 6 α) (replicate (12 - length α) 0)) ∙ ap (λ (m : List ℕ). m ++ replicate (12 - length α) 0) (take-append-drop 6 α))
