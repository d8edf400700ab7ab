-- What lies in the output and in the bucket space: the terms, read off the places. Assumes nothing.
use Rattle.std.specs.Prelude.{ℕ, zero, suc, List, [], ◌∷◌, take}
use Rattle.polynomial.specs.Terms.{Term, terms}

-- the terms whose coefficient is not 0; a word 0 is a monomial
abbrev pub unless_zero : (coef : ℕ) → Term ℕ → List (Term ℕ) → List (Term ℕ)
unless_zero zero t ts = ts
unless_zero (suc c) t ts = t ∷ ts

abbrev pub non_zero : List (Term ℕ) → List (Term ℕ)
non_zero [] = []
non_zero (t ∷ ts) = unless_zero t.coef t (non_zero ts)

-- "a run gives out the non-zero terms that it wrote": those in the first places of the output
abbrev pub written_in : (places : ℕ) → (ow oc : List ℕ) → List (Term ℕ)
written_in places ow oc = non_zero (terms (take places ow) (take places oc))

-- "held are the terms in the bucket space at return"
abbrev pub held_at : (bw bc : List ℕ) → List (Term ℕ)
held_at bw bc = non_zero (terms bw bc)
