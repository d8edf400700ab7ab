-- The choice of a divisor: what holds of all divisors holds of the one that is taken, and document 01's rule is a choice. Assumes nothing.
use mathlib.Core.Path.{◌≡◌, refl, sym, subst}
use mathlib.Core.Bool.{Bool, true, false}
use mathlib.Core.List.{List, [], ◌∷◌}
use mathlib.Core.Logic.{inl, inr, ⊎_elim}
use Prim.Native.Nat.{ℕ, suc, Ordering}
use Rattle.polynomial.specs.Terms.{Term}
use Rattle.division.specs.Choice.{Fit, unfit, fits, Choice, first_from, chosen}
use Rattle.division.specs.Divisors.{Valid, AllOf, Among, Numbered, NotBy, Undivided}

module _ {A : Type 0} (k : ℕ) (g : List (Term A)) where
  numbered_of : (Q : List (Term A) → Type 0) (j : ℕ) (gs : List (List (Term A))) → AllOf Q gs → Numbered j k g gs → Q g
  unfolding AllOf Numbered
  numbered_of Q j [] u n = absurd n
  numbered_of Q j (h ∷ hs) u n = ⊎_elim (λ e. subst Q (sym e.1) u.0) (λ m. numbered_of Q (suc j) hs u.1 m) n

  pub numbered-among : (j : ℕ) (gs : List (List (Term A))) → Numbered j k g gs → Among g gs
  unfolding Among Numbered
  numbered-among j [] n = absurd n
  numbered-among j (h ∷ hs) n = ⊎_elim (λ e. inl e.1) (λ m. inr (numbered-among (suc j) hs m)) n

module _ {A : Type 0} (cmp : A → A → Ordering) (p : ℕ) (Is : A → Type 0) (divides : A → A → Bool) where
  -- what the theorems on reductions ask of a choice: each divisor that it takes is valid, and its lead divides
  abbrev pub Sound : (A → Fit A) → Type 0
  Sound choose = (α : A) (k : ℕ) (g : Term A) (tail : List (Term A)) → choose α ≡ fits k g tail → Valid cmp p Is (g ∷ tail) × (divides g.mono α ≡ true)

  pub choice-sound : (gs : List (List (Term A))) → AllOf (Valid cmp p Is) gs → (choose : A → Fit A) → Choice divides gs choose → Sound choose
  choice-sound gs divisors choose choice α k g tail e = let (n, d) = choice.taken α k g tail e in (numbered_of k (g ∷ tail) (Valid cmp p Is) 1 gs divisors n, d)

-- ---- document 01's rule
module _ {A : Type 0} (divides : A → A → Bool) (α : A) where
  abbrev Says : ℕ → List (List (Term A)) → Fit A → Type 0
  Says j gs unfit = Undivided divides gs α
  Says j gs (fits k g tail) = Numbered j k (g ∷ tail) gs × (divides g.mono α ≡ true)

  says-more : (j : ℕ) (g : List (Term A)) (gs : List (List (Term A))) (x : Fit A) → NotBy divides α g → Says (suc j) gs x → Says j (g ∷ gs) x
  unfolding AllOf Numbered
  says-more j g gs unfit h s = (h, s)
  says-more j g gs (fits k f tail) h s = (inr s.0, s.1)

  says : (j : ℕ) (gs : List (List (Term A))) → Says j gs (first_from divides j α gs)
  unfolding first_from AllOf Numbered
  says j [] = tt
  says j ([] ∷ gs) = says-more j [] gs (first_from divides (suc j) α gs) tt (says (suc j) gs)
  says j ((g ∷ tail) ∷ gs) = by (divides g.mono α) refl (says (suc j) gs)
    where
      by : (b : Bool) → divides g.mono α ≡ b → Says (suc j) gs (first_from divides (suc j) α gs) → Says j ((g ∷ tail) ∷ gs) (elim b [ true ↦ fits j g tail | false ↦ first_from divides (suc j) α gs ])
      by true e r = (inl (refl, refl), e)
      by false e r = says-more j (g ∷ tail) gs (first_from divides (suc j) α gs) e r

  -- one divisor after the other
  module _ (j : ℕ) where
    pub first-none : first_from divides j α [] ≡ unfit
    unfolding first_from
    first-none = refl

    module _ (g : Term A) (tail : List (Term A)) (gs : List (List (Term A))) where
      pub first-here : divides g.mono α ≡ true → first_from divides j α ((g ∷ tail) ∷ gs) ≡ fits j g tail
      unfolding first_from
      first-here e = rw (e, first_from)

      pub first-later : divides g.mono α ≡ false → first_from divides j α ((g ∷ tail) ∷ gs) ≡ first_from divides (suc j) α gs
      unfolding first_from
      first-later e = rw (e, first_from)

pub chosen-choice : {A : Type 0} (divides : A → A → Bool) (gs : List (List (Term A))) → Choice divides gs (chosen divides gs)
unfolding chosen
chosen-choice divides gs = record { taken = λ α k g tail e. subst (Says divides α 1 gs) e (says divides α 1 gs); none = λ α e. subst (Says divides α 1 gs) e (says divides α 1 gs) }
