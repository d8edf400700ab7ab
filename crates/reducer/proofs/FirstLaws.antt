-- The divisor found by its number is the one of the definition. Assumes nothing.
use mathlib.Core.Path.{◌≡◌, sym, ap, ap₂, ◌∙◌, subst}
use mathlib.Core.Bool.{true}
use mathlib.Core.List.{List, ◌∷◌}
use Prim.Native.Nat.{ℕ, zero, suc, ◌+◌, ◌-◌, ◌<◌, ◌≤◌}
use native.Mathlib.Decide.{dec_le}
use native.Mathlib.Omega.{arith}
use lib.ListN.{length}
use Rattle.monomial.specs.declared.order.Order.{Order}
use Rattle.monomial.specs.Words.{divides_word}
use Rattle.monomial.proofs.LayoutLaws.{layout-packed}
use Rattle.polynomial.specs.Terms.{Term, term, terms}
use Rattle.polynomial.specs.Opening.{Within}
use Rattle.space.specs.Space.{list_from}
use Rattle.division.specs.Choice.{unfit, fits, first_from, chosen}
use Rattle.division.specs.Divisors.{Valid}
use Rattle.division.proofs.FitLaws.{first-none, first-here, first-later}
use Rattle.call.specs.Lending.{polynomial, divisors_of}
use Rattle.divisors.specs.Divisors.{lead_word, lead_coef, tail_of, Leads, FirstFit}
use Rattle.reducer.specs.Divisors.{OfLayout, Checked}
use Rattle.reducer.proofs.DivideLaws.{part-cons}

module _ {o : Order} {p : ℕ} {words coefs starts : List ℕ} (c : Checked o p words coefs starts) where
  -- the lead and the tail of divisor j
  abbrev lead_at : ℕ → Term ℕ
  lead_at j = term (lead_word words starts j) (lead_coef coefs starts j)

  abbrev tail_at : ℕ → List (Term ℕ)
  tail_at j = terms (tail_of starts j words) (tail_of starts j coefs)

  polynomial-cons : (j : ℕ) → 1 ≤ j → j + 1 < length starts → polynomial words coefs starts j ≡ lead_at j ∷ tail_at j
  polynomial-cons j low high =
      let w = c.parts j high in
      ap₂ terms (part-cons starts j words w (c.not-zero j low high)) (part-cons starts j coefs (subst (Within starts j) (sym c.long) w) (c.not-zero j low high))

  pub leads-there : Leads words starts
  leads-there = record {
    some = c.some;
    there = λ k low high. let w = c.parts k high in omega (arith, c.not-zero k low high, w.ends);
    packed = λ k low high.
        let v : Valid _ p (OfLayout o c.weights) (lead_at k ∷ tail_at k) = subst (Valid _ p (OfLayout o c.weights)) (polynomial-cons k low high) (c.valid k high) in
        layout-packed o 6 c.weights (lead_word words starts k) (omega arith) v.are.0 c.small;
  }

  module _ {α k : ℕ} (f : FirstFit words starts α k) where
    -- from divisor j on, with n of them left
    unfit-from : (n j : ℕ) → j + n + 1 ≡ length starts → 1 ≤ j → k + 1 ≡ length starts → first_from divides_word j α (list_from (polynomial words coefs starts) j n) ≡ unfit
    unfolding list_from
    unfit-from zero j e low last = first-none divides_word α j
    unfit-from (suc n) j e low last =
        ap (λ (g : List (Term ℕ)). first_from divides_word j α (g ∷ list_from (polynomial words coefs starts) (suc j) n)) (polynomial-cons j low (omega arith))
        ∙ (first-later divides_word α j (lead_at j) (tail_at j) (list_from (polynomial words coefs starts) (suc j) n) (f.before j low (omega arith))
        ∙ unfit-from n (suc j) (omega arith) (omega arith) last)

    fits-from : (n j : ℕ) → j + n + 1 ≡ length starts → 1 ≤ j → j ≤ k → k + 1 < length starts → first_from divides_word j α (list_from (polynomial words coefs starts) j n) ≡ fits k (lead_at k) (tail_at k)
    unfolding list_from
    fits-from zero j e low le high = absurd (let z : ⊥ = omega arith in z)
    fits-from (suc n) j e low le high =
        ap (λ (g : List (Term ℕ)). first_from divides_word j α (g ∷ list_from (polynomial words coefs starts) (suc j) n)) (polynomial-cons j low (omega arith))
        ∙ go (dec_le k j) (λ l. fits-from n (suc j) (omega arith) (omega arith) l high)
      where
        go : Dec (k ≤ j) → (suc j ≤ k → first_from divides_word (suc j) α (list_from (polynomial words coefs starts) (suc j) n) ≡ fits k (lead_at k) (tail_at k)) → first_from divides_word j α ((lead_at j ∷ tail_at j) ∷ list_from (polynomial words coefs starts) (suc j) n) ≡ fits k (lead_at k) (tail_at k)
        go (yes q) rest =
            let here : k ≡ j = omega arith in
            first-here divides_word α j (lead_at j) (tail_at j) (list_from (polynomial words coefs starts) (suc j) n) (subst (λ (i : ℕ). divides_word (lead_word words starts i) α ≡ true) here (f.here high))
            ∙ ap (λ (i : ℕ). fits i (lead_at i) (tail_at i)) (sym here)
        go (no q) rest = first-later divides_word α j (lead_at j) (tail_at j) (list_from (polynomial words coefs starts) (suc j) n) (f.before j low (omega arith)) ∙ rest (omega arith)

    pub fit_none : length starts ≤ k + 1 → chosen divides_word (divisors_of words coefs starts) α ≡ unfit
    unfolding chosen
    fit_none h = unfit-from (length starts - 2) 1 (omega (arith, c.some)) (omega arith) (omega (arith, f.high))

    pub fit-some : k + 1 < length starts → chosen divides_word (divisors_of words coefs starts) α ≡ fits k (lead_at k) (tail_at k)
    unfolding chosen
    fit-some h = fits-from (length starts - 2) 1 (omega (arith, c.some)) (omega arith) f.low h
