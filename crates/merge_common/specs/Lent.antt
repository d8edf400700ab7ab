-- Lists of terms as they lie in lent slices. Assumes nothing.
use Rattle.std.specs.Prelude.{ℕ, zero, suc, ◌+◌, ◌≤◌, ◌≡◌, Bool, true, false, List, [], ◌∷◌, ◌⊎◌, length, take, drop}
use Rattle.polynomial.specs.Terms.{terms, Reduced}

-- a polynomial modulo p stands in a slice of words and a slice of coefficients
pub record Poly (p : ℕ) (ws cs : List ℕ) : Type 0 where
  pub long : length cs ≡ length ws
  pub reduced : Reduced p (terms ws cs)

-- the list that is not used up
abbrev pub rest_of : {A : Type 0} → List A → List A → List A
rest_of [] ys = ys
rest_of (x ∷ xs) ys = x ∷ xs

-- the n numbers from place a on
abbrev pub part : {A : Type 0} → ℕ → ℕ → List A → List A
part a n l = take n (drop a l)

-- the n places from a on and the m places from b on have none in common
abbrev pub Apart : ℕ → ℕ → ℕ → ℕ → Type 0
Apart a n b m = (a + n ≤ b) ⊎ (b + m ≤ a)

-- 1 for true, 0 for false
abbrev pub flag : Bool → ℕ
flag true = 1
flag false = 0

-- x where the flag is not 0, and else y
abbrev pub chosen : {A : Type 0} → ℕ → A → A → A
chosen zero x y = y
chosen (suc f) x y = x
