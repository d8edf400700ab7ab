-- What the multiple of a lent polynomial by a term asks and makes. Assumes nothing.
use Rattle.std.specs.Prelude.{ℕ, ◌+◌, ◌^◌, ◌<◌, ◌≤◌, max, ◌≡◌, Bool, false, not, ◌||◌, List, [], ◌∷◌, map, length}
use Rattle.std.proofs.lemmas.List.Edits.{sets}
use Rattle.residue.specs.declared.factor.Factor.{Factor}
use Rattle.residue.specs.Share.{Prepared}
use Rattle.monomial.specs.Exponents.{each, one, product}
use Rattle.monomial.specs.Layout.{bytes, of_bytes, below}
use Rattle.monomial.specs.declared.order.Order.{Order}
use Rattle.monomial.specs.Words.{key_of, from_key, Packed}
use Rattle.polynomial.specs.Terms.{terms, words, coefs}
use Rattle.polynomial.specs.Multiple.{multiple}
use Rattle.merge_common.specs.Lent.{Poly}

-- each word is fit for word arithmetic
abbrev pub AllPacked : List ℕ → Type 0
AllPacked [] = Unit {0}
AllPacked (w ∷ ws) = Packed w × AllPacked ws

-- the product of the monomials q and w has an exponent over 127
abbrev pub over_one : ℕ → ℕ → Bool
over_one q w = not (below 128 (product (bytes 6 q) (bytes 6 w)))

-- some product with the monomial q has one
unfoldable pub any_over : ℕ → List ℕ → Bool
any_over q [] = false
any_over q (w ∷ ws) = over_one q w || any_over q ws

-- the highest exponents of the words: field by field, the largest; all 0 where there is no word
unfoldable pub highest_of : List ℕ → List ℕ
highest_of [] = one 6
highest_of (w ∷ ws) = each max (bytes 6 w) (highest_of ws)

-- the word that has them, with no degree
abbrev pub highest_word : List ℕ → ℕ
highest_word ws = of_bytes (highest_of ws)

-- r has, field by field, the larger exponent of h and w, and no degree
pub record Raised (h w r : ℕ) : Type 0 where
  pub exponents-are : bytes 6 r ≡ each max (bytes 6 h) (bytes 6 w)
  pub no-degree : r < 2 ^ 48

pub record Multiplicands (f : Factor) (q : ℕ) (ws cs : List ℕ) (to : ℕ) (ow oc : List ℕ) : Type 0 where
  pub prepared : Prepared f
  pub poly : Poly f.prime ws cs
  pub monomial : Packed q
  pub packed : AllPacked ws
  pub words-room : to + length ws ≤ length ow
  pub coefs-room : to + length ws ≤ length oc

-- the multiple by f·q was put from place `to` on, with keys for words; all else is as it was
pub record Multiplied (o : Order) (p c q : ℕ) (ws cs : List ℕ) (to : ℕ) (ow oc ow' oc' : List ℕ) : Type 0 where
  pub words_are : ow' ≡ sets ow to (map (key_of o) (words (multiple (λ x y. x + y) p c q (terms ws cs))))
  pub coefs-are : oc' ≡ sets oc to (coefs (multiple (λ x y. x + y) p c q (terms ws cs)))
  pub back : map (from_key o) (map (key_of o) (words (multiple (λ x y. x + y) p c q (terms ws cs)))) ≡ words (multiple (λ x y. x + y) p c q (terms ws cs))
