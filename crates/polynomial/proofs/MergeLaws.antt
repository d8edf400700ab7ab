-- Laws of the merge, for any total order. Assumes nothing.
use mathlib.Core.Path.{◌≡◌, refl, sym, ap, ◌∙◌, subst}
use mathlib.Core.List.{List, [], ◌∷◌}
use Prim.Native.Nat.{ℕ, zero, suc, ◌+◌, ◌-◌, ◌%◌, ◌<◌, ◌≤◌, Ordering}
use native.Mathlib.Nat.{mod-lt}
use native.Mathlib.Omega.{arith}
use lib.ListN.{length}
use Rattle.monomial.specs.TotalOrder.{turned, TotalOrder}
use Rattle.polynomial.specs.Terms.{Term, term, All, Reduced, Under, Falling, Canonical}
use Rattle.polynomial.specs.Merge.{keep, into, merge, compared_into, compared, merge_count}

-- the three outcomes of a comparison
pub data Stands {A : Type 0} (cmp : A → A → Ordering) (a b : A) : Type 0 where
  less : cmp a b ≡ Ordering.lt → Stands cmp a b
  same : cmp a b ≡ Ordering.eq → Stands cmp a b
  more : cmp a b ≡ Ordering.gt → Stands cmp a b

pub stands : {A : Type 0} (cmp : A → A → Ordering) (a b : A) → Stands cmp a b
stands cmp a b = go (cmp a b) refl
  where
    go : (t : Ordering) → cmp a b ≡ t → Stands cmp a b
    go Ordering.lt e = less e
    go Ordering.eq e = same e
    go Ordering.gt e = more e

module _ {A : Type 0} (cmp : A → A → Ordering) where
  -- ---- the equations of the merge and of what it compares
  module _ (p : ℕ) (x : Term A) (xs : List (Term A)) (y : Term A) (ys : List (Term A)) where
    pub merge_less : cmp x.mono y.mono ≡ Ordering.lt → merge cmp p (x ∷ xs) (y ∷ ys) ≡ y ∷ merge cmp p (x ∷ xs) ys
    unfolding merge into
    merge_less h = rw (h, into)

    pub merge-same : cmp x.mono y.mono ≡ Ordering.eq → merge cmp p (x ∷ xs) (y ∷ ys) ≡ keep x.mono ((x.coef + y.coef) % p) (merge cmp p xs ys)
    unfolding merge into
    merge-same h = rw (h, into)

    pub merge-more : cmp x.mono y.mono ≡ Ordering.gt → merge cmp p (x ∷ xs) (y ∷ ys) ≡ x ∷ merge cmp p xs (y ∷ ys)
    unfolding merge into
    merge-more h = rw (h, into)

  module _ (x : Term A) (xs : List (Term A)) (y : Term A) (ys : List (Term A)) where
    pub compared-less : cmp x.mono y.mono ≡ Ordering.lt → compared cmp (x ∷ xs) (y ∷ ys) ≡ (x.mono, y.mono) ∷ compared cmp (x ∷ xs) ys
    unfolding compared compared_into
    compared-less h = rw h

    pub compared_same : cmp x.mono y.mono ≡ Ordering.eq → compared cmp (x ∷ xs) (y ∷ ys) ≡ (x.mono, y.mono) ∷ compared cmp xs ys
    unfolding compared compared_into
    compared_same h = rw h

    pub compared-more : cmp x.mono y.mono ≡ Ordering.gt → compared cmp (x ∷ xs) (y ∷ ys) ≡ (x.mono, y.mono) ∷ compared cmp xs (y ∷ ys)
    unfolding compared compared_into
    compared-more h = rw h

  pub merge-nil : (p : ℕ) (xs : List (Term A)) → merge cmp p xs [] ≡ xs
  unfolding merge into
  merge-nil p [] = refl
  merge-nil p (x ∷ xs) = refl

  pub compared-nil : (xs : List (Term A)) → compared cmp xs [] ≡ []
  unfolding compared compared_into
  compared-nil [] = refl
  compared-nil (x ∷ xs) = refl

-- ---- Induction along the merge: a statement on the two lists, their merge and the pairs compared holds of all if each way of a step keeps it.
module _
    {A : Type 0} (cmp : A → A → Ordering) (p : ℕ)
    (P : List (Term A) → List (Term A) → List (Term A) → List (A × A) → Type 0)
    (none_left : (ys : List (Term A)) → P [] ys ys [])
    (none_right : (x : Term A) (xs : List (Term A)) → P (x ∷ xs) [] (x ∷ xs) [])
    (step_less : (x : Term A) (xs : List (Term A)) (y : Term A) (ys zs : List (Term A)) (qs : List (A × A)) → cmp x.mono y.mono ≡ Ordering.lt → P (x ∷ xs) ys zs qs → P (x ∷ xs) (y ∷ ys) (y ∷ zs) ((x.mono, y.mono) ∷ qs))
    (step_same : (x : Term A) (xs : List (Term A)) (y : Term A) (ys zs : List (Term A)) (qs : List (A × A)) → cmp x.mono y.mono ≡ Ordering.eq → P xs ys zs qs → P (x ∷ xs) (y ∷ ys) (keep x.mono ((x.coef + y.coef) % p) zs) ((x.mono, y.mono) ∷ qs))
    (step-more : (x : Term A) (xs : List (Term A)) (y : Term A) (ys zs : List (Term A)) (qs : List (A × A)) → cmp x.mono y.mono ≡ Ordering.gt → P xs (y ∷ ys) zs qs → P (x ∷ xs) (y ∷ ys) (x ∷ zs) ((x.mono, y.mono) ∷ qs)) where
  abbrev At : List (Term A) → List (Term A) → Type 0
  At xs ys = P xs ys (merge cmp p xs ys) (compared cmp xs ys)

  -- the step at two leads, by the comparison
  at-leads : (x : Term A) (xs : List (Term A)) (y : Term A) (ys : List (Term A)) → Stands cmp x.mono y.mono → At (x ∷ xs) ys → At xs ys → At xs (y ∷ ys) → At (x ∷ xs) (y ∷ ys)
  at-leads x xs y ys (less h) a b c = rw (merge_less cmp p x xs y ys h, compared-less cmp x xs y ys h) (step_less x xs y ys _ _ h a)
  at-leads x xs y ys (same h) a b c = rw (merge-same cmp p x xs y ys h, compared_same cmp x xs y ys h) (step_same x xs y ys _ _ h b)
  at-leads x xs y ys (more h) a b c = rw (merge-more cmp p x xs y ys h, compared-more cmp x xs y ys h) (step-more x xs y ys _ _ h c)

  at-lead : (x : Term A) (xs : List (Term A)) → ((ys : List (Term A)) → At xs ys) → (ys : List (Term A)) → At (x ∷ xs) ys
  at-lead x xs r [] = rw (merge-nil cmp p (x ∷ xs), compared-nil cmp (x ∷ xs)) (none_right x xs)
  at-lead x xs r (y ∷ ys) = at-leads x xs y ys (stands cmp x.mono y.mono) (at-lead x xs r ys) (r ys) (r (y ∷ ys))

  pub along : (xs ys : List (Term A)) → P xs ys (merge cmp p xs ys) (compared cmp xs ys)
  unfolding merge compared
  along [] ys = none_left ys
  along (x ∷ xs) ys = at-lead x xs (λ zs. along xs zs) ys

-- how a kept sum adds to a list
pub length-keep : {A : Type 0} (m : A) (c : ℕ) (ts : List (Term A)) → length (keep m c ts) ≤ suc (length ts)
unfolding keep
length-keep m zero ts = omega arith
length-keep m (suc c) ts = omega arith

pub all_keep : {A : Type 0} (P : Term A → Type 0) (m : A) (c : ℕ) (ts : List (Term A)) → (0 < c → P (term m c)) → All P ts → All P (keep m c ts)
unfolding keep
all_keep P m zero ts h a = a
all_keep P m (suc c) ts h a = (h (omega arith), a)

pub all_map : {A : Type 0} {P Q : Term A → Type 0} → ((t : Term A) → P t → Q t) → (ts : List (Term A)) → All P ts → All Q ts
all_map f [] a = tt
all_map f (t ∷ ts) a = (f t a.0, all_map f ts a.1)

-- where both have terms, at least one comparison is made
some-compared : {A : Type 0} (cmp : A → A → Ordering) (x : Term A) (xs : List (Term A)) (y : Term A) (ys : List (Term A)) → 1 ≤ merge_count cmp (x ∷ xs) (y ∷ ys)
unfolding compared compared_into
some-compared cmp x xs y ys = omega arith

module _ {A : Type 0} (cmp : A → A → Ordering) (p : ℕ) where
  -- the result has at most the terms of both; with the comparisons, one less where both have terms
  pub merge-size : (xs ys : List (Term A)) → length (merge cmp p xs ys) ≤ length xs + length ys
  merge-size =
      along cmp p (λ xs ys zs qs. length zs ≤ length xs + length ys)
      (λ ys. omega arith)
      (λ x xs. omega arith)
      (λ x xs y ys zs qs h r. omega arith)
      (λ x xs y ys zs qs h r. omega (arith, length-keep x.mono ((x.coef + y.coef) % p) zs))
      (λ x xs y ys zs qs h r. omega arith)

  -- comparisons are at most the two lengths less 1
  pub count-size : (xs ys : List (Term A)) → merge_count cmp xs ys ≤ length xs + length ys - 1
  count-size =
      along cmp p (λ xs ys zs qs. length qs ≤ length xs + length ys - 1)
      (λ ys. omega arith)
      (λ x xs. omega arith)
      (λ x xs y ys zs qs h r. omega arith)
      (λ x xs y ys zs qs h r. omega arith)
      (λ x xs y ys zs qs h r. omega arith)

  -- what holds of each term of both, and of each sum of like terms that is not 0, holds of each term of the merge
  pub merge-all : (P : Term A → Type 0)
      → ((x y : Term A) → cmp x.mono y.mono ≡ Ordering.eq → P x → P y → 0 < (x.coef + y.coef) % p → P (term x.mono ((x.coef + y.coef) % p)))
      → (xs ys : List (Term A)) → All P xs → All P ys → All P (merge cmp p xs ys)
  merge-all P sum =
      along cmp p (λ xs ys zs qs. All P xs → All P ys → All P zs)
      (λ ys a b. b)
      (λ x xs a b. a)
      (λ x xs y ys zs qs h r a b. (b.0, r a b.1))
      (λ x xs y ys zs qs h r a b. all_keep P x.mono ((x.coef + y.coef) % p) zs (sum x y h a.0 b.0) (r a.1 b.1))
      (λ x xs y ys zs qs h r a b. (a.0, r a.1 b))

  -- coefficients stay from 1 to p - 1
  pub merge-reduced : 0 < p → (xs ys : List (Term A)) → Reduced p xs → Reduced p ys → Reduced p (merge cmp p xs ys)
  merge-reduced h = merge-all (λ t. (0 < t.coef) × (t.coef < p)) (λ x y e a b s. (s, mod-lt (x.coef + y.coef) h))

  pub merge-under : (m : A) (xs ys : List (Term A)) → Under cmp m xs → Under cmp m ys → Under cmp m (merge cmp p xs ys)
  merge-under m = merge-all (λ t. cmp m t.mono ≡ Ordering.gt) (λ x y h a b s. a)

-- where one list is empty, nothing is compared
pub count_left : {A : Type 0} (cmp : A → A → Ordering) (ys : List (Term A)) → merge_count cmp [] ys ≡ 0
unfolding compared
count_left cmp ys = refl

pub count-right : {A : Type 0} (cmp : A → A → Ordering) (xs : List (Term A)) → merge_count cmp xs [] ≡ 0
count-right cmp xs = ap length (compared-nil cmp xs)

-- ---- falling lists
pub falling-keep : {A : Type 0} (cmp : A → A → Ordering) (m : A) (c : ℕ) (ts : List (Term A)) → Under cmp m ts → Falling cmp ts → Falling cmp (keep m c ts)
unfolding keep
falling-keep cmp m zero ts u f = f
falling-keep cmp m (suc c) ts u f = (u, f)

module _ {A : Type 0} (cmp : A → A → Ordering) (O : TotalOrder A cmp) where
  pub turned-gt : (a b : A) → cmp a b ≡ Ordering.lt → cmp b a ≡ Ordering.gt
  turned-gt a b h = O.turn a b ∙ ap turned h

  pub turned_lt : (a b : A) → cmp a b ≡ Ordering.gt → cmp b a ≡ Ordering.lt
  turned_lt a b h = O.turn a b ∙ ap turned h

  pub under_more : (m l : A) → cmp m l ≡ Ordering.gt → (ts : List (Term A)) → Under cmp l ts → Under cmp m ts
  under_more m l h ts u = all_map {P = λ t. cmp l t.mono ≡ Ordering.gt} {Q = λ t. cmp m t.mono ≡ Ordering.gt} (λ t k. O.falls m l t.mono h k) ts u

  -- The induction carries what is under any monomial too, since a step puts a lead on the merge of the rest.
  pub merge-falling : (p : ℕ) (xs ys : List (Term A)) → Falling cmp xs → Falling cmp ys → Falling cmp (merge cmp p xs ys)
  merge-falling p xs ys f g =
      (along cmp p (λ xs ys zs qs. Falling cmp xs → Falling cmp ys → Falling cmp zs × ((m : A) → Under cmp m xs → Under cmp m ys → Under cmp m zs))
      (λ ys f g. (g, λ m a b. b))
      (λ x xs f g. (f, λ m a b. a))
      (λ x xs y ys zs qs h r f g.
      let k = turned-gt x.mono y.mono h in
      (((r f g.1).1 y.mono (k, under_more y.mono x.mono k xs f.0) g.0, (r f g.1).0), λ m a b. (b.0, (r f g.1).1 m a b.1)))
      (λ x xs y ys zs qs h r f g.
      let e = O.same x.mono y.mono h in (
        falling-keep cmp x.mono ((x.coef + y.coef) % p) zs ((r f.1 g.1).1 x.mono f.0 (subst (λ (m : A). Under cmp m ys) (sym e) g.0)) (r f.1 g.1).0,
        λ m a b. all_keep (λ t. cmp m t.mono ≡ Ordering.gt) x.mono ((x.coef + y.coef) % p) zs (λ s. a.0) ((r f.1 g.1).1 m a.1 b.1),
      ))
      (λ x xs y ys zs qs h r f g.
      (((r f.1 g).1 x.mono f.0 (h, under_more x.mono y.mono h ys g.0), (r f.1 g).0), λ m a b. (a.0, (r f.1 g).1 m a.1 b)))
      xs ys f g).0

  pub merge-canonical : (p : ℕ) → 0 < p → (xs ys : List (Term A)) → Canonical cmp p xs → Canonical cmp p ys → Canonical cmp p (merge cmp p xs ys)
  merge-canonical p h xs ys a b = record { falling = merge-falling p xs ys a.falling b.falling; reduced = merge-reduced cmp p h xs ys a.reduced b.reduced }
