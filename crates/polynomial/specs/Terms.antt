-- Terms and polynomials, over any type of monomials with a comparison. A polynomial is a list of terms; what it is as a polynomial modulo p is said by its coefficients. Assumes nothing.
use Prim.Native.Nat.{ℕ, ◌+◌, ◌%◌, ◌<◌, Ordering}
use Rattle.std.specs.Prelude.{◌≡◌, List, [], ◌∷◌, map}

pub record Term (A : Type 0) : Type 0 where
  pub mono : A
  pub coef : ℕ

abbrev pub term : {A : Type 0} → A → ℕ → Term A
term m c = record { mono = m; coef = c }

-- each monomial under another name
abbrev pub renamed : {A B : Type 0} → (A → B) → List (Term A) → List (Term B)
renamed f ts = map (λ t. term (f t.mono) t.coef) ts

-- ---- polynomials as they are lent: a slice of words and a slice of coefficients

-- the terms of the two slices, as many as the shorter has
abbrev pub terms : List ℕ → List ℕ → List (Term ℕ)
terms [] cs = []
terms (w ∷ ws) [] = []
terms (w ∷ ws) (c ∷ cs) = term w c ∷ terms ws cs

abbrev pub words : List (Term ℕ) → List ℕ
words ts = map (λ t. t.mono) ts

abbrev pub coefs : List (Term ℕ) → List ℕ
coefs ts = map (λ t. t.coef) ts

-- ---- polynomials

-- P holds of each term
abbrev pub All : {A : Type 0} → (Term A → Type 0) → List (Term A) → Type 0
All P [] = Unit {0}
All P (t ∷ ts) = P t × All P ts

-- the coefficients are from 1 to p - 1
abbrev pub Reduced : {A : Type 0} → ℕ → List (Term A) → Type 0
Reduced p ts = All (λ t. (0 < t.coef) × (t.coef < p)) ts

-- c where the comparison says "equal", and else 0
abbrev pub here : Ordering → ℕ → ℕ
here Ordering.lt c = 0
here Ordering.eq c = c
here Ordering.gt c = 0

module _ {A : Type 0} (cmp : A → A → Ordering) where
  -- m is larger than each monomial
  abbrev pub Under : A → List (Term A) → Type 0
  Under m ts = All (λ t. cmp m t.mono ≡ Ordering.gt) ts

  -- the terms fall strictly: each monomial is larger than all after it
  abbrev pub Falling : List (Term A) → Type 0
  Falling [] = Unit {0}
  Falling (t ∷ ts) = Under t.mono ts × Falling ts

  -- the coefficients of the terms with the monomial m, added up
  unfoldable pub total : A → List (Term A) → ℕ
  total m [] = 0
  total m (t ∷ ts) = here (cmp t.mono m) t.coef + total m ts

  -- the coefficient of m in the polynomial, modulo p
  abbrev pub coef_at : ℕ → A → List (Term A) → ℕ
  coef_at p m f = total m f % p

  -- f and g are the same polynomial modulo p
  abbrev pub Same : ℕ → List (Term A) → List (Term A) → Type 0
  Same p f g = (m : A) → coef_at p m f ≡ coef_at p m g

  -- the one list of terms that a polynomial modulo p is written as (theorem `canonical-unique`)
  pub record Canonical (p : ℕ) (f : List (Term A)) : Type 0 where
    pub falling : Falling f
    pub reduced : Reduced p f
