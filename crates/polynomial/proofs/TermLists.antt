-- Terms of two slices, and back: a polynomial as a list of terms and as a list of words with a list of coefficients. Assumes nothing.
use mathlib.Core.Path.{◌≡◌, refl, sym, ap, ap₂, ◌∙◌}
use mathlib.Core.List.{List, [], ◌∷◌, ◌++◌, map}
use Prim.Native.Nat.{ℕ, zero, suc, ◌+◌, ◌<◌}
use native.Mathlib.Nat.{suc_inj}
use native.Mathlib.Numerals.{add-one}
use native.Mathlib.Omega.{arith}
use lib.ListN.{length, get_or, take, drop}
use lib.Seq.{drop-cons}
use Rattle.polynomial.specs.Terms.{Term, term, terms, words, coefs}

pub length-terms : (ws cs : List ℕ) → length cs ≡ length ws → length (terms ws cs) ≡ length ws
length-terms [] cs e = refl
length-terms (w ∷ ws) [] e = e
length-terms (w ∷ ws) (c ∷ cs) e = ap suc (length-terms ws cs (suc_inj e))

-- the term at a place
pub term-at : (ws cs : List ℕ) (i : ℕ) → length cs ≡ length ws → get_or (terms ws cs) i (term 0 0) ≡ term (get_or ws i 0) (get_or cs i 0)
term-at [] [] i e = refl
term-at [] (c ∷ cs) i e = absurd (let z : ⊥ = omega arith in z)
term-at (w ∷ ws) [] i e = absurd (let z : ⊥ = omega arith in z)
term-at (w ∷ ws) (c ∷ cs) zero e = refl
term-at (w ∷ ws) (c ∷ cs) (suc i) e = term-at ws cs i (suc_inj e)

-- what is left from i on begins with the term at i
pub lead-at : (ws cs : List ℕ) (i : ℕ) → length cs ≡ length ws → i < length ws → drop i (terms ws cs) ≡ term (get_or ws i 0) (get_or cs i 0) ∷ drop (i + 1) (terms ws cs)
lead-at ws cs i e h =
    drop-cons (terms ws cs) i (term 0 0) (let k : i < length (terms ws cs) = omega (arith, length-terms ws cs e) in k)
    ∙ ap₂ (λ (t : Term ℕ) (n : ℕ). t ∷ drop n (terms ws cs)) (term-at ws cs i e) (sym (add-one i))

-- two parts of two slices, one after the other
pub terms-append : (ws cs us ds : List ℕ) → length cs ≡ length ws → terms ws cs ++ terms us ds ≡ terms (ws ++ us) (cs ++ ds)
terms-append [] [] us ds e = refl
terms-append [] (c ∷ cs) us ds e = absurd (let z : ⊥ = omega arith in z)
terms-append (w ∷ ws) [] us ds e = absurd (let z : ⊥ = omega arith in z)
terms-append (w ∷ ws) (c ∷ cs) us ds e = ap (λ (ts : List (Term ℕ)). term w c ∷ ts) (terms-append ws cs us ds (suc_inj e))

pub words-terms : (ws cs : List ℕ) → length cs ≡ length ws → words (terms ws cs) ≡ ws
words-terms [] cs e = refl
words-terms (w ∷ ws) [] e = absurd (let z : ⊥ = omega arith in z)
words-terms (w ∷ ws) (c ∷ cs) e = ap (λ (l : List ℕ). w ∷ l) (words-terms ws cs (suc_inj e))

pub coefs-terms : (ws cs : List ℕ) → length cs ≡ length ws → coefs (terms ws cs) ≡ cs
coefs-terms [] [] e = refl
coefs-terms [] (c ∷ cs) e = absurd (let z : ⊥ = omega arith in z)
coefs-terms (w ∷ ws) [] e = absurd (let z : ⊥ = omega arith in z)
coefs-terms (w ∷ ws) (c ∷ cs) e = ap (λ (l : List ℕ). c ∷ l) (coefs-terms ws cs (suc_inj e))

pub terms-of : (ts : List (Term ℕ)) → terms (words ts) (coefs ts) ≡ ts
terms-of [] = refl
terms-of (t ∷ ts) = ap (λ (l : List (Term ℕ)). t ∷ l) (terms-of ts)

pub map-drop : {A B : Type 0} (f : A → B) (n : ℕ) (l : List A) → map f (drop n l) ≡ drop n (map f l)
map-drop f zero l = refl
map-drop f (suc n) [] = refl
map-drop f (suc n) (a ∷ l) = map-drop f n l

pub terms-drop : (n : ℕ) (ws cs : List ℕ) → terms (drop n ws) (drop n cs) ≡ drop n (terms ws cs)
terms-drop zero ws cs = refl
terms-drop (suc n) [] cs = refl
terms-drop (suc n) (w ∷ ws) [] = nothing (drop n ws)
  where
    nothing : (l : List ℕ) → terms l [] ≡ []
    nothing [] = refl
    nothing (x ∷ l) = refl
terms-drop (suc n) (w ∷ ws) (c ∷ cs) = terms-drop n ws cs

pub terms-take : (n : ℕ) (ws cs : List ℕ) → terms (take n ws) (take n cs) ≡ take n (terms ws cs)
terms-take zero ws cs = refl
terms-take (suc n) [] cs = refl
terms-take (suc n) (w ∷ ws) [] = refl
terms-take (suc n) (w ∷ ws) (c ∷ cs) = ap (λ (l : List (Term ℕ)). term w c ∷ l) (terms-take n ws cs)
