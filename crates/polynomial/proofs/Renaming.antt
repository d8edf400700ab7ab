-- Renaming the monomials along a map that keeps the comparison commutes with the merge, keeps its count, and keeps canonical lists. Assumes nothing.
use mathlib.Core.Path.{◌≡◌, refl, sym, ap, ◌∙◌}
use mathlib.Core.List.{List, [], ◌∷◌, map}
use Prim.Native.Nat.{ℕ, zero, suc, ◌+◌, ◌%◌, Ordering}
use lib.ListN.{length, length-map}
use Rattle.polynomial.specs.Terms.{Term, term, renamed, terms, words, coefs, Reduced, Under, Falling, Canonical}
use Rattle.polynomial.specs.Merge.{keep, merge, compared, merge_count}
use Rattle.polynomial.proofs.MergeLaws.{merge_less, merge-same, merge-more, merge-nil, compared-less, compared_same, compared-more, compared-nil, along}

pub length-renamed : {A B : Type 0} (f : A → B) (ts : List (Term A)) → length (renamed f ts) ≡ length ts
length-renamed f ts = length-map ts (λ t. term (f t.mono) t.coef)

-- ---- lists of words and coefficients
pub renamed-terms : (f : ℕ → ℕ) (ws cs : List ℕ) → renamed f (terms ws cs) ≡ terms (map f ws) cs
renamed-terms f [] cs = refl
renamed-terms f (w ∷ ws) [] = refl
renamed-terms f (w ∷ ws) (c ∷ cs) = ap (λ (l : List (Term ℕ)). term (f w) c ∷ l) (renamed-terms f ws cs)

pub words-renamed : (f : ℕ → ℕ) (ts : List (Term ℕ)) → words (renamed f ts) ≡ map f (words ts)
words-renamed f [] = refl
words-renamed f (t ∷ ts) = ap (λ (l : List ℕ). f t.mono ∷ l) (words-renamed f ts)

pub coefs-renamed : (f : ℕ → ℕ) (ts : List (Term ℕ)) → coefs (renamed f ts) ≡ coefs ts
coefs-renamed f [] = refl
coefs-renamed f (t ∷ ts) = ap (λ (l : List ℕ). t.coef ∷ l) (coefs-renamed f ts)

-- both monomials of each pair under another name
abbrev pub renamed_pairs : {A B : Type 0} → (A → B) → List (A × A) → List (B × B)
renamed_pairs f qs = map (λ q. (f q.0, f q.1)) qs

pub length_pairs : {A B : Type 0} (f : A → B) (qs : List (A × A)) → length (renamed_pairs f qs) ≡ length qs
length_pairs f qs = length-map qs (λ q. (f q.0, f q.1))

pub renamed-keep : {A B : Type 0} (f : A → B) (m : A) (c : ℕ) (ts : List (Term A)) → keep (f m) c (renamed f ts) ≡ renamed f (keep m c ts)
unfolding keep
renamed-keep f m zero ts = refl
renamed-keep f m (suc c) ts = refl

module _ {A B : Type 0} (cmp_a : A → A → Ordering) (cmp_b : B → B → Ordering) (f : A → B) (keeps : (x y : A) → cmp_b (f x) (f y) ≡ cmp_a x y) where
  -- the term under its new name
  abbrev R : Term A → Term B
  R t = term (f t.mono) t.coef

  -- ---- the merge
  pub renamed-merge : (p : ℕ) (xs ys : List (Term A)) → merge cmp_b p (renamed f xs) (renamed f ys) ≡ renamed f (merge cmp_a p xs ys)
  unfolding merge
  renamed-merge p =
      along cmp_a p (λ xs ys zs qs. merge cmp_b p (renamed f xs) (renamed f ys) ≡ renamed f zs)
      (λ ys. refl)
      (λ x xs. merge-nil cmp_b p (renamed f (x ∷ xs)))
      (λ x xs y ys zs qs h r. merge_less cmp_b p (R x) (renamed f xs) (R y) (renamed f ys) (keeps x.mono y.mono ∙ h) ∙ ap (λ (l : List (Term B)). R y ∷ l) r)
      (λ x xs y ys zs qs h r.
      let c = (x.coef + y.coef) % p in
      merge-same cmp_b p (R x) (renamed f xs) (R y) (renamed f ys) (keeps x.mono y.mono ∙ h) ∙ (ap (λ (l : List (Term B)). keep (f x.mono) c l) r ∙ renamed-keep f x.mono c zs))
      (λ x xs y ys zs qs h r. merge-more cmp_b p (R x) (renamed f xs) (R y) (renamed f ys) (keeps x.mono y.mono ∙ h) ∙ ap (λ (l : List (Term B)). R x ∷ l) r)

  -- the pairs compared are the same ones, renamed
  pub renamed-compared : (xs ys : List (Term A)) → compared cmp_b (renamed f xs) (renamed f ys) ≡ renamed_pairs f (compared cmp_a xs ys)
  unfolding compared
  renamed-compared =
      along cmp_a 0 (λ xs ys zs qs. compared cmp_b (renamed f xs) (renamed f ys) ≡ renamed_pairs f qs)
      (λ ys. refl)
      (λ x xs. compared-nil cmp_b (renamed f (x ∷ xs)))
      (λ x xs y ys zs qs h r. compared-less cmp_b (R x) (renamed f xs) (R y) (renamed f ys) (keeps x.mono y.mono ∙ h) ∙ ap (λ (l : List (B × B)). (f x.mono, f y.mono) ∷ l) r)
      (λ x xs y ys zs qs h r. compared_same cmp_b (R x) (renamed f xs) (R y) (renamed f ys) (keeps x.mono y.mono ∙ h) ∙ ap (λ (l : List (B × B)). (f x.mono, f y.mono) ∷ l) r)
      (λ x xs y ys zs qs h r. compared-more cmp_b (R x) (renamed f xs) (R y) (renamed f ys) (keeps x.mono y.mono ∙ h) ∙ ap (λ (l : List (B × B)). (f x.mono, f y.mono) ∷ l) r)

  pub renamed-count : (xs ys : List (Term A)) → merge_count cmp_b (renamed f xs) (renamed f ys) ≡ merge_count cmp_a xs ys
  renamed-count xs ys = ap length (renamed-compared xs ys) ∙ length_pairs f (compared cmp_a xs ys)

  -- ---- canonical lists, both ways
  renamed-under : (m : A) (ts : List (Term A)) → Under cmp_a m ts → Under cmp_b (f m) (renamed f ts)
  renamed-under m [] u = tt
  renamed-under m (t ∷ ts) u = (keeps m t.mono ∙ u.0, renamed-under m ts u.1)

  under-renamed : (m : A) (ts : List (Term A)) → Under cmp_b (f m) (renamed f ts) → Under cmp_a m ts
  under-renamed m [] u = tt
  under-renamed m (t ∷ ts) u = (sym (keeps m t.mono) ∙ u.0, under-renamed m ts u.1)

  renamed-falling : (ts : List (Term A)) → Falling cmp_a ts → Falling cmp_b (renamed f ts)
  renamed-falling [] h = tt
  renamed-falling (t ∷ ts) h = (renamed-under t.mono ts h.0, renamed-falling ts h.1)

  falling-renamed : (ts : List (Term A)) → Falling cmp_b (renamed f ts) → Falling cmp_a ts
  falling-renamed [] h = tt
  falling-renamed (t ∷ ts) h = (under-renamed t.mono ts h.0, falling-renamed ts h.1)

  renamed-reduced : (p : ℕ) (ts : List (Term A)) → Reduced p ts → Reduced p (renamed f ts)
  renamed-reduced p [] h = tt
  renamed-reduced p (t ∷ ts) h = (h.0, renamed-reduced p ts h.1)

  reduced-renamed : (p : ℕ) (ts : List (Term A)) → Reduced p (renamed f ts) → Reduced p ts
  reduced-renamed p [] h = tt
  reduced-renamed p (t ∷ ts) h = (h.0, reduced-renamed p ts h.1)

  pub renamed-canonical : (p : ℕ) (ts : List (Term A)) → Canonical cmp_a p ts → Canonical cmp_b p (renamed f ts)
  renamed-canonical p ts c = record { falling = renamed-falling ts c.falling; reduced = renamed-reduced p ts c.reduced }

  pub canonical-renamed : (p : ℕ) (ts : List (Term A)) → Canonical cmp_b p (renamed f ts) → Canonical cmp_a p ts
  canonical-renamed p ts c = record { falling = falling-renamed ts c.falling; reduced = reduced-renamed p ts c.reduced }
