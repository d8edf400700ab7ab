-- A list read piece by piece: what was read before, and the reading of the rest. Assumes nothing.
use Prim.Native.Nat.{ℕ, suc, ◌≤◌}
use native.Mathlib.Omega.{arith}
use mathlib.Core.Path.{◌≡◌, refl, sym, ap, ◌∙◌}
use mathlib.Core.Bool.{Bool}
use mathlib.Core.List.{List, [], ◌∷◌, ◌++◌, map, append_assoc}
use mathlib.Core.Option.{Option, none, some}
use lib.ListN.{length}
use lib.Seq.{set_out, sets}
use lib.ListN.{set}
use Rattle.text.specs.Numbers.{and_then}

-- what was read, before what is yet to be read
abbrev pub before : {A : Type 0} → List A → Option (List A) → Option (List A)
before done o = and_then o (λ xs. some (done ++ xs))

pub before_more : {A : Type 0} (done : List A) (a : A) (o : Option (List A)) → before done (and_then o (λ xs. some (a ∷ xs))) ≡ before (done ++ (a ∷ [])) o
unfolding and_then
before_more done a none = refl
before_more done a (some xs) = ap some (sym (append_assoc done (a ∷ []) xs))

pub before-none : {A : Type 0} (o : Option (List A)) → before [] o ≡ o
unfolding and_then
before-none none = refl
before-none (some xs) = refl

-- places past the end are not stored to
pub sets-out : {A : Type 0} (l : List A) (i : ℕ) (vs : List A) → length l ≤ i → sets l i vs ≡ l
sets-out l i [] h = refl
sets-out l i (v ∷ vs) h = let e : set l i v ≡ l = set_out l i v h in rw e (sets-out l (suc i) vs (omega arith))

pub map_snoc : {A B : Type 0} (f : A → B) (xs : List A) (x : A) → map f (xs ++ (x ∷ [])) ≡ map f xs ++ (f x ∷ [])
map_snoc {A} {B} f [] x = refl
map_snoc {A} {B} f (y ∷ xs) x = ap (λ (l : List B). f y ∷ l) (map_snoc f xs x)

pub so : {t b v : Bool} → t ≡ b → t ≡ v → b ≡ v
so e h = sym e ∙ h
