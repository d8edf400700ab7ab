-- The weights of a script as the code reads them, return by return. Assumes nothing.
use Rattle.std.specs.Prelude.{Some, None, Option as Answered}
use Prim.Native.Nat.{ℕ, zero, suc, ◌-◌, ◌<◌}
use native.Mathlib.Omega.{arith}
use mathlib.Core.Path.{◌≡◌, refl, sym, ap, ◌∙◌}
use mathlib.Core.Bool.{Bool, true, false, and-true}
use mathlib.Core.List.{List, [], ◌∷◌, ◌++◌, map}
use mathlib.Core.Option.{Option, none, some}
use borrow.Author.Tests.{eq-eqb, ne_eqb}
use lib.Dec.{eqb}
use lib.ListN.{length, get_or, take, drop, replicate, length-append, length-map, length-take, length-replicate}
use lib.Seq.{sets}
use Rattle.monomial.specs.Layout.{Below, WeightsFit}
use Rattle.monomial.proofs.Places.{Below-more}
use Rattle.text.specs.Bytes.{begins, parts}
use Rattle.text.specs.Numbers.{and_then, only_if}
use Rattle.text.proofs.ByteLaws.{cons, parts-some}
use Rattle.grammar.specs.Reading.{numbers_of, spaced_of, weights_of}
use Rattle.grammar.specs.Parts.{capped, capped_weight, six_weights, ReadNumbers, ReadSpaced, weights_found}
use Rattle.grammar.proofs.Prefix.{sets-out}
use Rattle.grammar.proofs.NumbersLaws.{none-counted, all-counted, Stored}

-- ---- numbers, each behind a space
pub spaced-none : (s bytes : List ℕ) → length s ≡ 0 → ReadSpaced s bytes bytes (Some 0)
unfolding parts numbers_of
spaced-none [] bytes e = record { is = (refl, refl) }
spaced-none (x ∷ s) bytes e = absurd (let z : ⊥ = omega arith in z)

pub first-space : (x : ℕ) (s : List ℕ) → eqb x 32 ≡ begins (32 ∷ []) (x ∷ s)
unfolding begins
first-space x s = sym (and-true (eqb x 32))

pub spaced-bad : (s bytes : List ℕ) → (length s ≡ 0 → ⊥) → begins (32 ∷ []) s ≡ false → ReadSpaced s bytes bytes None
unfolding parts
spaced-bad [] bytes l e = absurd (l refl)
spaced-bad (x ∷ s) bytes l e = let m = parts-some 32 s in record { is = rw (first-space x s ∙ e, parts, m.2) refl }

pub spaced-good : (s bytes bytes' : List ℕ) (r : Answered ℕ) → (length s ≡ 0 → ⊥) → begins (32 ∷ []) s ≡ true → (rest : List ℕ) → rest ≡ drop 1 s → ReadNumbers 32 rest bytes bytes' r → ReadSpaced s bytes bytes' r
unfolding parts
spaced-good [] bytes bytes' r l e rest q d = absurd (l refl)
spaced-good (x ∷ s) bytes bytes' r l e rest q d = record { is = rw (first-space x s ∙ e, parts, ← q) d.is }

-- ---- the six weights
six-same : {a b c d e f a' b' c' d' e' f' : ℕ} → a ≡ a' → b ≡ b' → c ≡ c' → d ≡ d' → e ≡ e' → f ≡ f' → ◌≡◌ {A = List ℕ} (a ∷ b ∷ c ∷ d ∷ e ∷ f ∷ []) (a' ∷ b' ∷ c' ∷ d' ∷ e' ∷ f' ∷ [])
six-same p q r s t u = cc

twice : (v : ℕ) → capped_weight (capped v) ≡ capped_weight v
twice v = omega arith

-- the bytes of the six are the weights, where those that are no number of the script are 1
pub six-stored : (vs : List ℕ) → map capped_weight (sets (replicate 6 1) 0 (map capped vs)) ≡ six_weights (some vs)
six-stored [] = refl
six-stored (a ∷ []) = six-same (twice a) refl refl refl refl refl
six-stored (a ∷ b ∷ []) = six-same (twice a) (twice b) refl refl refl refl
six-stored (a ∷ b ∷ c ∷ []) = six-same (twice a) (twice b) (twice c) refl refl refl
six-stored (a ∷ b ∷ c ∷ d ∷ []) = six-same (twice a) (twice b) (twice c) (twice d) refl refl
six-stored (a ∷ b ∷ c ∷ d ∷ e ∷ []) = six-same (twice a) (twice b) (twice c) (twice d) (twice e) refl
six-stored (a ∷ b ∷ c ∷ d ∷ e ∷ f ∷ vs) =
    let l = capped a ∷ capped b ∷ capped c ∷ capped d ∷ capped e ∷ capped f ∷ [] in
    let none_more : 6 - length (a ∷ b ∷ c ∷ d ∷ e ∷ f ∷ vs) ≡ 0 = omega arith in
    let six = map capped_weight (a ∷ b ∷ c ∷ d ∷ e ∷ f ∷ []) in
    ap (map capped_weight) (sets-out l 6 (map capped vs) (omega arith)) ∙ (six-same (twice a) (twice b) (twice c) (twice d) (twice e) (twice f) ∙ ap (λ (k : ℕ). six ++ replicate k 1) (sym none_more))

-- ---- the six weights
below_both : (k : ℕ) (α β : List ℕ) → Below k α → Below k β → Below k (α ++ β)
below_both k [] β a b = b
below_both k (x ∷ α) β a b = (a.0, below_both k α β a.1 b)

capped_small : (vs : List ℕ) → Below 18 (map capped_weight vs)
capped_small [] = tt
capped_small (v ∷ vs) = (omega arith, capped_small vs)

ones_small : (k : ℕ) → Below 18 (replicate k 1)
ones_small zero = tt
ones_small (suc k) = (omega arith, ones_small k)

pub six-small : (x : Option (List ℕ)) → Below 18 (six_weights x)
six-small none = ones_small 6
six-small (some vs) = below_both 18 (map capped_weight (take 6 vs)) (replicate (6 - length vs) 1) (capped_small (take 6 vs)) (ones_small (6 - length vs))

six-long : (x : Option (List ℕ)) → length (six_weights x) ≡ 6
six-long none = refl
six-long (some vs) =
    omega (arith, length-append (map capped_weight (take 6 vs)) (replicate {A = ℕ} (6 - length vs) 1), length-map (take 6 vs) capped_weight, length-take 6 vs, length-replicate {A = ℕ} (6 - length vs) 1)

pub six-fit : (x : Option (List ℕ)) → WeightsFit (six_weights x)
six-fit x = record { six-are = six-long x; bytes-are = Below-more 18 256 (six_weights x) (omega arith) (six-small x) }

-- the numbers of an array, each capped
pub all-capped : (xs ys : List ℕ) → length ys ≡ length xs → ((i : ℕ) → i < length ys → get_or ys i 0 ≡ capped_weight (get_or xs i 0)) → ys ≡ map capped_weight xs
all-capped [] [] h f = refl
all-capped [] (y ∷ ys) h f = absurd (let z : ⊥ = omega arith in z)
all-capped (x ∷ xs) [] h f = absurd (let z : ⊥ = omega arith in z)
all-capped (x ∷ xs) (y ∷ ys) h f = cons (f 0 (omega arith)) (all-capped xs ys (omega arith) (λ i l. f (suc i) (omega arith)))

-- ---- return by return
module _ (n : ℕ) (s : List ℕ) {bytes bytes' : List ℕ} {r : Answered ℕ} (d : ReadSpaced s bytes bytes' r) where
  pub no-numbers : r ≡ None → None ≡ weights_found (weights_of n s)
  unfolding and_then
  no-numbers e = rw (none-counted (spaced_of (parts 32 s)) bytes bytes' r d.is e) refl

  module _ (m : ℕ) (e : r ≡ Some m) where
    pub stored-as : Stored (spaced_of (parts 32 s)) bytes bytes' m
    stored-as = all-counted (spaced_of (parts 32 s)) bytes bytes' r m d.is e

    pub other-count : (m ≡ n → ⊥) → None ≡ weights_found (weights_of n s)
    unfolding and_then
    other-count q =
        let t = stored-as in
        sym (ap (λ (x : Option (List ℕ)). weights_found (and_then x (λ vs. only_if (eqb (length vs) n) vs))) t.is ∙ ap (λ (b : Bool). weights_found (only_if b t.es)) (ne_eqb (length t.es) n (λ x. q (sym t.long ∙ x))))

    pub weights-are : m ≡ n → bytes ≡ replicate 6 1 → (ws : List ℕ) → ws ≡ map capped_weight bytes' → Some ws ≡ weights_found (weights_of n s)
    unfolding and_then
    weights-are q ones ws x =
        let t = stored-as in
        let is : weights_found (weights_of n s) ≡ weights_found (some t.es) = ap (λ (y : Option (List ℕ)). weights_found (and_then y (λ vs. only_if (eqb (length vs) n) vs))) t.is ∙ ap (λ (b : Bool). weights_found (only_if b t.es)) (eq-eqb (length t.es) n (t.long ∙ q)) in
        let six : map capped_weight bytes' ≡ six_weights (some t.es) = ap (map capped_weight) (t.stored ∙ ap (λ (l : List ℕ). sets l 0 (map capped t.es)) ones) ∙ six-stored t.es in
        ap Some (x ∙ six) ∙ sym is
