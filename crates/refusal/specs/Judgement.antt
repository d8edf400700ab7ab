-- The one judgement that all entries share: which refusal a list of numbered conditions comes to. Assumes nothing.
use Rattle.std.specs.Prelude.{ℕ, ◌<◌, ◌≡◌, Bool, true, false, ◌||◌, List, [], ◌∷◌, ◌⊎◌, eqb}

-- a condition, and the number of the refusal of a call for which it does not hold
pub record Condition : Type 1 where
  pub number : ℕ
  pub holds : Type 0

abbrev pub condition : (number : ℕ) → (holds : Type 0) → Condition
condition n P = record { number = n; holds = P }

-- r is the number of the first of the conditions that does not hold, 0 where all hold
abbrev pub Judged : List Condition → (r : ℕ) → Type 0
Judged [] r = r ≡ 0
Judged (c ∷ cs) r = ((c.holds → ⊥) × (r ≡ c.number)) ⊎ (c.holds × Judged cs r)

-- all conditions of a list hold
abbrev pub AllHold : List Condition → Type 0
AllHold [] = Unit {0}
AllHold (c ∷ cs) = c.holds × AllHold cs

-- no condition has the number 0, which stands for none
abbrev pub Counted : List Condition → Type 0
Counted [] = Unit {0}
Counted (c ∷ cs) = (0 < c.number) × Counted cs

-- r is one of these numbers: as a statement, and as a test
abbrev pub OneOf : List ℕ → (r : ℕ) → Type 0
OneOf [] r = ⊥
OneOf (n ∷ ns) r = (r ≡ n) ⊎ OneOf ns r

abbrev pub one_of : List ℕ → (r : ℕ) → Bool
one_of [] r = false
one_of (n ∷ ns) r = eqb r n || one_of ns r

-- the conditions have no other numbers than these
abbrev pub NumberedBy : List ℕ → List Condition → Type 0
NumberedBy ns [] = Unit {0}
NumberedBy ns (c ∷ cs) = (one_of ns c.number ≡ true) × NumberedBy ns cs
