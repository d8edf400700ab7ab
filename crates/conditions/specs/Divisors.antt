-- The divisors of a reduction (document 01, "Refusals by cause", 7), by the starts of the polynomials. Assumes nothing.
use Rattle.std.specs.Prelude.{ℕ, Bool, true, ◌&&◌, List, [], ◌∷◌, ltb, drop}

-- the polynomials between these starts are not zero
unfoldable pub none_zero : List ℕ → Bool
none_zero [] = true
none_zero (s ∷ []) = true
none_zero (s ∷ (t ∷ ss)) = ltb s t && none_zero (t ∷ ss)

-- 7: "a divisor is zero"; the divisors are the polynomials from 1 on
abbrev pub divisors_good : List ℕ → Bool
divisors_good starts = none_zero (drop 1 starts)
