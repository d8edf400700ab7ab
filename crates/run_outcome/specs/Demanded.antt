-- What the demands say of a run, over its operations: which pair names which, each as an event of a geobucket, and the terms that they name. Assumes nothing.
use Rattle.std.specs.Prelude.{ℕ, ◌+◌, ◌≡◌, List, [], ◌∷◌, map, ◌⊎◌, length}
use Rattle.geobucket.specs.Events.{Event, addition, removal, summation}
use Rattle.call.specs.Lending.{polynomial}
use Rattle.run_outcome.specs.Runs.{Operation, adds, leads, sums}

-- "Operations are pairs of numbers: (1, k) adds polynomial k; (2, 0) takes the lead; (3, 0) gives the full sum."
module _ (words coefs starts : List ℕ) where
  abbrev pub Names : (code k : ℕ) → Operation → Type 0
  Names code k o = ((code ≡ 1) × (o ≡ adds (polynomial words coefs starts k))) ⊎ (((code ≡ 2) × (o ≡ leads)) ⊎ ((code ≡ 3) × (o ≡ sums)))

  -- the pairs in turn, and no half one
  unfoldable pub NameAll : (pairs : List ℕ) → List Operation → Type 0
  NameAll [] os = os ≡ []
  NameAll (code ∷ []) os = ⊥
  NameAll (code ∷ (k ∷ pairs)) [] = ⊥
  NameAll (code ∷ (k ∷ pairs)) (o ∷ os) = Names code k o × NameAll pairs os

abbrev pub event_of : Operation → Event ℕ
event_of (adds f) = addition f
event_of leads = removal
event_of sums = summation

abbrev pub events_of : List Operation → List (Event ℕ)
events_of os = map event_of os

-- the terms of all polynomials that the operations add, known before the call
abbrev pub terms_named : List Operation → ℕ
terms_named [] = 0
terms_named (adds f ∷ os) = length f + terms_named os
terms_named (leads ∷ os) = terms_named os
terms_named (sums ∷ os) = terms_named os
