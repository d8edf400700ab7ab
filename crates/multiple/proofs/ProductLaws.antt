-- Steps of the multiple, on plain numbers. Assumes nothing.
use mathlib.Core.Path.{◌≡◌, refl, sym, ap, ap₂, ◌∙◌}
use mathlib.Core.List.{List, [], ◌∷◌, map}
use Prim.Native.Nat.{ℕ, zero, suc, ◌+◌, ◌*◌, ◌%◌, ◌^◌, ◌<◌, ◌≤◌}
use native.Mathlib.Omega.{arith}
use lib.ListN.{length, get_or}
use lib.Seq.{sets}
use Rattle.residue.specs.declared.factor.Factor.{Factor}
use Rattle.residue.specs.Share.{Prepared}
use Rattle.monomial.specs.Layout.{Below}
use Rattle.monomial.specs.declared.order.Order.{Order}
use Rattle.monomial.specs.Words.{key_of, from_key, Packed}
use Rattle.monomial.proofs.KeyLaws.{word-of-key}
use Rattle.polynomial.specs.Terms.{terms, words, coefs}
use Rattle.polynomial.specs.Multiple.{multiple}
use Rattle.merge_common.specs.Lent.{Poly}
use Rattle.multiple.specs.Multiplying.{AllPacked, Multiplicands, Multiplied}
use Rattle.merge_common.proofs.Steps.{coef-below}

-- ---- numbers below p
pub below_at : (p : ℕ) (cs : List ℕ) (i : ℕ) → Below p cs → i < length cs → get_or cs i 0 < p
below_at p [] i a h = absurd (let z : ⊥ = omega arith in z)
below_at p (c ∷ cs) zero a h = a.0
below_at p (c ∷ cs) (suc i) a h = below_at p cs i a.1 (let k : i < length cs = omega arith in k)

all-below : (p : ℕ) (cs : List ℕ) → ((i : ℕ) → i < length cs → get_or cs i 0 < p) → Below p cs
all-below p [] h = tt
all-below p (c ∷ cs) h = (h 0 (let k : 0 < length (c ∷ cs) = omega arith in k), all-below p cs (λ i l. h (suc i) (let k : suc i < length (c ∷ cs) = omega arith in k)))

-- the coefficients of a polynomial
pub poly-below : (p : ℕ) (ws cs : List ℕ) → Poly p ws cs → Below p cs
poly-below p ws cs a = all-below p cs (λ i h. coef-below p ws cs a i (let k : i < length ws = omega (arith, a.long) in k))

pub packed-at : (ws : List ℕ) (i : ℕ) → AllPacked ws → i < length ws → Packed (get_or ws i 0)
packed-at [] i a h = absurd (let z : ⊥ = omega arith in z)
packed-at (w ∷ ws) zero a h = a.0
packed-at (w ∷ ws) (suc i) a h = packed-at ws i a.1 (let k : i < length ws = omega arith in k)

-- ---- the multiple, as two lists
pub words-multiple : (p c q : ℕ) (ws cs : List ℕ) → length cs ≡ length ws → words (multiple (λ x y. x + y) p c q (terms ws cs)) ≡ map (λ w. q + w) ws
words-multiple p c q [] cs e = refl
words-multiple p c q (w ∷ ws) [] e = absurd (let z : ⊥ = omega arith in z)
words-multiple p c q (w ∷ ws) (k ∷ cs) e = ap (λ (l : List ℕ). (q + w) ∷ l) (words-multiple p c q ws cs (let h : length cs ≡ length ws = omega arith in h))

pub coefs-multiple : (p c q : ℕ) (ws cs : List ℕ) → length cs ≡ length ws → coefs (multiple (λ x y. x + y) p c q (terms ws cs)) ≡ map (λ k. c * k % p) cs
coefs-multiple p c q [] [] e = refl
coefs-multiple p c q [] (k ∷ cs) e = absurd (let z : ⊥ = omega arith in z)
coefs-multiple p c q (w ∷ ws) [] e = absurd (let z : ⊥ = omega arith in z)
coefs-multiple p c q (w ∷ ws) (k ∷ cs) e = ap (λ (l : List ℕ). (c * k % p) ∷ l) (coefs-multiple p c q ws cs (let h : length cs ≡ length ws = omega arith in h))

-- the keys of the products, and the words of these keys
keys-products : (o : Order) (q : ℕ) (ws : List ℕ) → map (key_of o) (map (λ w. q + w) ws) ≡ map (λ w. key_of o (q + w)) ws
keys-products o q [] = refl
keys-products o q (w ∷ ws) = ap (λ (l : List ℕ). key_of o (q + w) ∷ l) (keys-products o q ws)

products-back : (o : Order) (q : ℕ) (ws : List ℕ) → Packed q → AllPacked ws → map (from_key o) (map (key_of o) (map (λ w. q + w) ws)) ≡ map (λ w. q + w) ws
products-back o q [] hq h = refl
products-back o q (w ∷ ws) hq h =
    let k : q + w < 2 ^ 64 = omega (arith, hq.room, h.0.room) in
    ap₂ (λ (x : ℕ) (y : List ℕ). x ∷ y) (word-of-key o (q + w) k) (products-back o q ws hq h.1)

-- what the two loops ask and put makes the multiple
module _ {f : Factor} {q : ℕ} {ws cs : List ℕ} {to : ℕ} {ow oc : List ℕ} (m : Multiplicands f q ws cs to ow oc) where
  pub scalable : Prepared f × Below f.prime cs × (to + length cs ≤ length oc)
  scalable = (m.prepared, poly-below f.prime ws cs m.poly, omega (arith, m.poly.long, m.coefs-room))

  pub multiplied : (o : Order) {ow' oc' : List ℕ} → ow' ≡ sets ow to (map (λ w. key_of o (q + w)) ws) → oc' ≡ sets oc to (map (λ c. f.value * c % f.prime) cs) → Multiplied o f.prime f.value q ws cs to ow oc ow' oc'
  multiplied o ew ec =
      let e = words-multiple f.prime f.value q ws cs m.poly.long in
      record {
        words_are = ew ∙ ap (sets ow to) (sym (ap (map (key_of o)) e ∙ keys-products o q ws));
        coefs-are = ec ∙ ap (sets oc to) (sym (coefs-multiple f.prime f.value q ws cs m.poly.long));
        back = ap (λ (l : List ℕ). map (from_key o) (map (key_of o) l)) e ∙ (products-back o q ws m.monomial m.packed ∙ sym e);
      }
