-- The test of the weights: what weights that pass are, and the loop over them. Assumes nothing.
use mathlib.Core.Path.{◌≡◌, refl, sym, ap, ap₂, ◌∙◌}
use mathlib.Core.Bool.{Bool, true, false, ◌&&◌}
use mathlib.Core.List.{List, [], ◌∷◌}
use Rattle.std.specs.List.{list_all}
use native.Mathlib.Decide.{dec_le}
use Prim.Native.Nat.{ℕ, ◌+◌, ◌<◌, ◌≤◌}
use native.Mathlib.Omega.{arith}
use borrow.Author.Tests.{lt-ltb, le-ltb, le-leb, lt-leb, eq-eqb, ne_eqb, eqb-true}
use lib.Dec.{leb, ltb, eqb}
use lib.ListN.{length}
use Rattle.limits.specs.Limits.{weight_count}
use Rattle.monomial.specs.Layout.{Below, below, WeightsFit}
use Rattle.monomial.proofs.Places.{and_both, true_below, Below-more}
use Rattle.probe.specs.Answers.{weights_fit}

module _ (most : ℕ) (vs : List ℕ) where
  fit_parts : weights_fit most vs ≡ true → (length vs ≡ weight_count) × Below (most + 1) vs
  unfolding weights_fit
  fit_parts h =
      let s = and_both (eqb (length vs) weight_count) (below (most + 1) vs) h in
      (eqb-true (length vs) weight_count s.0, true_below (most + 1) vs s.1)

  pub same-below : (us : List ℕ) → us ≡ vs → weights_fit most vs ≡ true → Below (most + 1) us
  same-below us e h = rw e (fit_parts h).1

  -- they fit in a word of weights
  pub weights-fit : most < 256 → weights_fit most vs ≡ true → WeightsFit vs
  weights-fit l h = record { six-are = (fit_parts h).0; bytes-are = Below-more (most + 1) 256 vs (omega arith) (fit_parts h).1 }

  pub other-count : (length vs ≡ weight_count → ⊥) → false ≡ weights_fit most vs
  unfolding weights_fit
  other-count h = rw (ne_eqb (length vs) weight_count h)

  -- the test of each weight
  each-below : (us : List ℕ) → list_all (λ w. leb w most) us ≡ below (most + 1) us
  each-below [] = refl
  each-below (u ∷ us) = ap₂ ◌&&◌ (one (dec_le u most)) (each-below us)
    where
      one : Dec (u ≤ most) → leb u most ≡ ltb u (most + 1)
      one (yes h) = le-leb u most h ∙ sym (lt-ltb u (most + 1) (omega arith))
      one (no h) = lt-leb u most (omega arith) ∙ sym (le-ltb u (most + 1) (omega arith))

  pub each-fits : length vs ≡ weight_count → list_all (λ w. leb w most) vs ≡ weights_fit most vs
  unfolding weights_fit
  each-fits h = each-below vs ∙ sym (ap (λ (b : Bool). b && below (most + 1) vs) (eq-eqb (length vs) weight_count h))
