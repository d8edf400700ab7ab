-- What a chain of tests comes to, as a judgement of the conditions that they test. Assumes nothing.
use mathlib.Core.Path.{◌≡◌, refl}
use mathlib.Core.Bool.{Bool, true, false}
use mathlib.Core.List.{List, [], ◌∷◌, ◌++◌}
use mathlib.Core.Logic.{inl, inr}
use Prim.Native.Nat.{ℕ, zero, suc, ◌<◌}
use native.Mathlib.Omega.{arith}
use Rattle.refusal.specs.Judgement.{Condition, Judged, AllHold, Counted}
use Rattle.refusal.proofs.JudgementLaws.{judged-then, judged-stops, judged-none}
use Rattle.conditions.proofs.Tests.{clash}
use Rattle.polynomial.specs.Opening.{first}
use Rattle.opening.specs.Run.{unless}

-- one test, of what one condition says
pub judged-unless : (c : Condition) (good : Bool) → (good ≡ true → c.holds) → (c.holds → good ≡ true) → Judged (c ∷ []) (unless good c.number)
judged-unless c good to from = by good refl
  where
    by : (b : Bool) → good ≡ b → Judged (c ∷ []) (unless b c.number)
    by true e = inr (to e, refl)
    by false e = inl ((λ h. clash e (from h)), refl)

-- one check after another: the second is judged where all that the first asks holds
pub judged-first : (cs ds : List Condition) (r s : ℕ) → Counted cs → Judged cs r → (AllHold cs → Judged ds s) → Judged (cs ++ ds) (first r s)
judged-first cs ds zero s p j k = let a = judged-none cs p j in judged-then cs ds s a (k a)
judged-first cs ds (suc r) s p j k = judged-stops cs ds (suc r) (λ z. let q : ⊥ = omega arith in q) j

-- one test, and then other checks
pub judged-test : (c : Condition) (ds : List Condition) (good : Bool) (s : ℕ) → 0 < c.number → (good ≡ true → c.holds) → (c.holds → good ≡ true) → (c.holds → Judged ds s) → Judged (c ∷ ds) (first (unless good c.number) s)
judged-test c ds good s some to from k = judged-first (c ∷ []) ds (unless good c.number) s (some, tt) (judged-unless c good to from) (λ a. k a.0)
