-- Steps of the merges, on plain numbers. Assumes nothing.
use mathlib.Core.Path.{◌≡◌, refl, ap₂, subst}
use mathlib.Core.Bool.{Bool, true, false}
use mathlib.Core.List.{List, [], ◌∷◌, map}
use Prim.Native.Nat.{ℕ, zero, suc, ◌^◌, ◌<◌, ◌≤◌}
use native.Mathlib.Omega.{arith}
use lib.ListN.{length, get_or}
use Rattle.monomial.specs.declared.order.Order.{Order}
use Rattle.monomial.specs.Words.{key_of, from_key}
use Rattle.monomial.proofs.KeyLaws.{word-of-key}
use Rattle.wide_monomial.specs.declared.width.Width.{Width}
use Rattle.wide_monomial.specs.declared.width.Width.TheVariants.{One, Two}
use Rattle.wide_monomial.specs.Wide.{paired}
use Rattle.wide_monomial.specs.WideKeys.{wide_key_of, from_wide_key}
use Rattle.wide_monomial.proofs.WideKeyLaws.{wide-of-key}
use Rattle.place.specs.Numbers.{pairs_by, word_pairs, word_numbers, key_by, from_key_by}
use Rattle.place.proofs.PlaceLaws.{paired-fits}
use Rattle.polynomial.specs.Terms.{Term, term, terms, All}
use Rattle.polynomial.proofs.TermLists.{length-terms, term-at}
use Rattle.merge_common.specs.Lent.{Poly, flag}

-- the words of the keys of 64-bit words are these
pub keys-back : (o : Order) (ws : List ℕ) → ((i : ℕ) → get_or ws i 0 < 2 ^ 64) → map (from_key o) (map (key_of o) ws) ≡ ws
keys-back o [] h = refl
keys-back o (w ∷ ws) h = ap₂ (λ (x : ℕ) (y : List ℕ). x ∷ y) (word-of-key o w (h 0)) (keys-back o ws (λ i. h (suc i)))

-- the same for pairs of 64-bit words
pub wide-keys-back : (o : Order) (ws : List ℕ) → ((i : ℕ) → get_or ws i 0 < 2 ^ 64) → map (from_wide_key o) (map (wide_key_of o) (word_pairs ws)) ≡ word_pairs ws
unfolding pairs_by
wide-keys-back o [] h = refl
wide-keys-back o (a ∷ []) h = refl
wide-keys-back o (a ∷ (b ∷ ws)) h = ap₂ (λ (x : ℕ) (y : List ℕ). x ∷ y) (wide-of-key o (paired a b) (paired-fits a b (h 0) (h 1))) (wide-keys-back o ws (λ i. h (suc (suc i))))

-- the monomials of the keys of monomials of either width are these
pub each-back : (w : Width) (o : Order) (ws : List ℕ) → ((i : ℕ) → get_or ws i 0 < 2 ^ 64) → map (from_key_by w o) (map (key_by w o) (word_numbers w ws)) ≡ word_numbers w ws
each-back One o ws h = keys-back o ws h
each-back Two o ws h = wide-keys-back o ws h

pub flag_small : (b : Bool) → flag b ≤ 1
flag_small true = omega arith
flag_small false = omega arith

-- ---- a coefficient of a lent polynomial

-- what holds of each term holds of the one at a place
all-at : (P : Term ℕ → Type 0) (ts : List (Term ℕ)) (i : ℕ) (d : Term ℕ) → All P ts → i < length ts → P (get_or ts i d)
all-at P [] i d a h = absurd (let z : ⊥ = omega arith in z)
all-at P (t ∷ ts) zero d a h = a.0
all-at P (t ∷ ts) (suc i) d a h = all-at P ts i d a.1 (let k : i < length ts = omega arith in k)

pub coef-within : (p : ℕ) (ws cs : List ℕ) → Poly p ws cs → (i : ℕ) → i < length ws → (0 < get_or cs i 0) × (get_or cs i 0 < p)
coef-within p ws cs h i k =
    subst (λ (t : Term ℕ). (0 < t.coef) × (t.coef < p)) (term-at ws cs i h.long)
    (all-at (λ t. (0 < t.coef) × (t.coef < p)) (terms ws cs) i (term 0 0) h.reduced (let l : i < length (terms ws cs) = omega (arith, length-terms ws cs h.long) in l))

pub coef-below : (p : ℕ) (ws cs : List ℕ) → Poly p ws cs → (i : ℕ) → i < length ws → get_or cs i 0 < p
coef-below p ws cs h i k = (coef-within p ws cs h i k).1
