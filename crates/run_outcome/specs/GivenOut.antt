-- What a run is to give out (demand 2), by exponents and apart from how it is found: at each lead and full sum the true sum is what was brought in less what was given out before. Assumes nothing.
use Prim.Native.Nat.{Ordering}
use Rattle.std.specs.Prelude.{ℕ, ◌+◌, ◌-◌, ◌%◌, ◌<◌, ◌≡◌, List, [], ◌∷◌, ◌++◌, ◌⊎◌}
use Rattle.monomial.specs.declared.order.Order.{Order}
use Rattle.monomial.specs.Exponents.{compare_in}
use Rattle.monomial.specs.Layout.{Layout, exponents}
use Rattle.polynomial.specs.Terms.{Term, term, All, coef_at, Canonical}
use Rattle.call.specs.Places.{non_zero}
use Rattle.division.specs.InExponents.{in_exponents}
use Rattle.run_outcome.specs.Runs.{Operation, adds, leads, sums}

-- the terms that the operations bring in, where all are done
abbrev pub brought_by : List Operation → List (Term ℕ)
brought_by [] = []
brought_by (adds f ∷ os) = f ++ brought_by os
brought_by (leads ∷ os) = brought_by os
brought_by (sums ∷ os) = brought_by os

module _ (o : Order) (n : ℕ) (vs : List ℕ) (p : ℕ) where
  -- the coefficient, modulo p, of the monomial with the exponents α
  abbrev pub coef_of : List (Term ℕ) → List ℕ → ℕ
  coef_of f α = coef_at (compare_in o vs) p α (in_exponents o n f)

  -- the true sum, by its coefficients modulo p
  abbrev pub true_sum : (brought given : List (Term ℕ)) → List ℕ → ℕ
  true_sum brought given α = (coef_of brought α + (p - coef_of given α)) % p

  -- "Each lead is the largest term of the true sum under the chosen order."
  pub record Largest (sum : List ℕ → ℕ) (t : Term ℕ) : Type 0 where
    pub is : Layout o n vs t.mono
    pub not-zero : 0 < t.coef
    pub coef-is : sum (exponents o n t.mono) ≡ t.coef
    pub largest : (α : List ℕ) → compare_in o vs α (exponents o n t.mono) ≡ Ordering.gt → sum α ≡ 0

  -- "A lead goes to the next output place; for zero, word 0 and coefficient 0 go there."
  abbrev pub LeadPlace : (sum : List ℕ → ℕ) → Term ℕ → Type 0
  LeadPlace sum t = Largest sum t ⊎ ((t ≡ term 0 0) × ((α : List ℕ) → sum α ≡ 0))

  -- the terms are the one canonical list of the sum
  pub record SumPlaces (sum : List ℕ → ℕ) (f : List (Term ℕ)) : Type 0 where
    pub are : All (λ t. Layout o n vs t.mono) f
    pub canonical : Canonical (compare_in o vs) p (in_exponents o n f)
    pub coefs-are : (α : List ℕ) → coef_of f α ≡ sum α

  -- The operations, after so much was brought in and given out, write these places: an addition none, a lead one, and "A full sum is followed by one such zero place."
  unfoldable pub GivenOut : List Operation → (brought given written : List (Term ℕ)) → Type 0
  GivenOut [] brought given written = written ≡ []
  GivenOut (adds f ∷ os) brought given written = GivenOut os (brought ++ f) given written
  GivenOut (leads ∷ os) brought given written = (t : Term ℕ) × (more : List (Term ℕ)) × (written ≡ t ∷ more) × LeadPlace (true_sum brought given) t × GivenOut os brought (given ++ non_zero (t ∷ [])) more
  GivenOut (sums ∷ os) brought given written = (f : List (Term ℕ)) × (more : List (Term ℕ)) × (written ≡ f ++ (term 0 0 ∷ more)) × SumPlaces (true_sum brought given) f × GivenOut os brought (given ++ f) more

  -- ---- the place of one lead, and those of one full sum, in what is written: `before` are the operations before it, which write the places `earlier`
  pub record LeadAt (before : List Operation) (written : List (Term ℕ)) : Type 0 where
    pub earlier : List (Term ℕ)
    pub place : Term ℕ
    pub later : List (Term ℕ)
    pub split : written ≡ earlier ++ (place ∷ later)
    pub before-it : GivenOut before [] [] earlier
    pub lead_is : LeadPlace (true_sum (brought_by before) (non_zero earlier)) place

  pub record SumAt (before : List Operation) (written : List (Term ℕ)) : Type 0 where
    pub earlier : List (Term ℕ)
    pub sum : List (Term ℕ)
    pub later : List (Term ℕ)
    pub split : written ≡ earlier ++ (sum ++ (term 0 0 ∷ later))
    pub before-it : GivenOut before [] [] earlier
    pub sum_is : SumPlaces (true_sum (brought_by before) (non_zero earlier)) sum
