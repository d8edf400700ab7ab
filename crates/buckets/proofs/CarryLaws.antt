-- The published carry and the published addition, bucket by bucket. Assumes nothing.
use mathlib.Core.Path.{◌≡◌, refl, sym, ap, ◌∙◌, subst}
use mathlib.Core.List.{List, [], ◌∷◌, ◌++◌, append-nil}
use Prim.Native.Nat.{ℕ, zero, suc, ◌+◌, ◌-◌, ◌*◌, ◌<◌, ◌≤◌, Ordering}
use native.Mathlib.Omega.{arith}
use borrow.Author.Tests.{le-leb, lt-leb}
use lib.ListN.{length, length-append}
use Rattle.polynomial.specs.Terms.{Term}
use Rattle.polynomial.specs.Merge.{merge, compared, merge_count}
use Rattle.geobucket.specs.Buckets.{carry, carry_compared, place, place_compared, add, add_compared}
use Rattle.space.specs.Space.{capacity, list_from}
use Rattle.space.proofs.Starts.{next-capacity, cap-zero}
use Rattle.buckets.specs.Levels.{LevelFor}

module _ (cmp : ℕ → ℕ → Ordering) (p : ℕ) (cap : ℕ) (f b : List (Term ℕ)) (bs : List (List (Term ℕ))) where
  -- the merge is not larger than the bucket
  pub carry-stays : length (merge cmp p f b) ≤ cap → carry cmp p cap f (b ∷ bs) ≡ merge cmp p f b ∷ bs
  unfolding carry
  carry-stays h = rw (le-leb (length (merge cmp p f b)) cap h, carry)

  compared-stays : length (merge cmp p f b) ≤ cap → carry_compared cmp p cap f (b ∷ bs) ≡ compared cmp f b ++ []
  unfolding carry_compared
  compared-stays h = rw (le-leb (length (merge cmp p f b)) cap h, carry_compared)

  pub count-stays : length (merge cmp p f b) ≤ cap → length (carry_compared cmp p cap f (b ∷ bs)) ≡ merge_count cmp f b
  count-stays h = ap length (compared-stays h ∙ append-nil (compared cmp f b))

  -- it is larger
  pub carry-goes : cap < length (merge cmp p f b) → carry cmp p cap f (b ∷ bs) ≡ [] ∷ carry cmp p (4 * cap) (merge cmp p f b) bs
  unfolding carry
  carry-goes h = rw (lt-leb (length (merge cmp p f b)) cap h, carry)

  compared-goes : cap < length (merge cmp p f b) → carry_compared cmp p cap f (b ∷ bs) ≡ compared cmp f b ++ carry_compared cmp p (4 * cap) (merge cmp p f b) bs
  unfolding carry_compared
  compared-goes h = rw (lt-leb (length (merge cmp p f b)) cap h, carry_compared)

  pub count-goes : cap < length (merge cmp p f b) → length (carry_compared cmp p cap f (b ∷ bs)) ≡ merge_count cmp f b + length (carry_compared cmp p (4 * cap) (merge cmp p f b) bs)
  count-goes h = ap length (compared-goes h) ∙ length-append (compared cmp f b) (carry_compared cmp p (4 * cap) (merge cmp p f b) bs)

-- ---- the bucket that an addition begins with
module _ (cmp : ℕ → ℕ → Ordering) (p : ℕ) (f : List (Term ℕ)) (g : ℕ → List (Term ℕ)) where
  place-on : (cap : ℕ) (b : List (Term ℕ)) (bs : List (List (Term ℕ))) → cap < length f → place cmp p cap f (b ∷ bs) ≡ b ∷ place cmp p (4 * cap) f bs
  unfolding place
  place-on cap b bs h = rw (lt-leb (length f) cap h, place)

  place_here : (cap : ℕ) (b : List (Term ℕ)) (bs : List (List (Term ℕ))) → length f ≤ cap → place cmp p cap f (b ∷ bs) ≡ carry cmp p cap f (b ∷ bs)
  unfolding place
  place_here cap b bs h = rw (le-leb (length f) cap h, place)

  compared-on : (cap : ℕ) (b : List (Term ℕ)) (bs : List (List (Term ℕ))) → cap < length f → place_compared cmp p cap f (b ∷ bs) ≡ place_compared cmp p (4 * cap) f bs
  unfolding place_compared
  compared-on cap b bs h = rw (lt-leb (length f) cap h, place_compared)

  compared-here : (cap : ℕ) (b : List (Term ℕ)) (bs : List (List (Term ℕ))) → length f ≤ cap → place_compared cmp p cap f (b ∷ bs) ≡ carry_compared cmp p cap f (b ∷ bs)
  unfolding place_compared
  compared-here cap b bs h = rw (le-leb (length f) cap h, place_compared)

  -- from bucket a on, i buckets are too small and the next is not
  place_at : (i a k : ℕ) → ((j : ℕ) → j < i → capacity (a + j) < length f) → length f ≤ capacity (a + i)
      → (place cmp p (capacity a) f (list_from g a (i + suc k)) ≡ list_from g a i ++ carry cmp p (capacity (a + i)) f (list_from g (a + i) (suc k)))
      × (place_compared cmp p (capacity a) f (list_from g a (i + suc k)) ≡ carry_compared cmp p (capacity (a + i)) f (list_from g (a + i) (suc k)))
  unfolding list_from
  place_at zero a k small fits =
      let e : a + 0 ≡ a = omega arith in
      let n : 0 + suc k ≡ suc k = omega arith in
      let h : length f ≤ capacity a = subst (λ (x : ℕ). length f ≤ capacity x) e fits in
      rw (e, n) (place_here (capacity a) (g a) (list_from g (suc a) k) h, compared-here (capacity a) (g a) (list_from g (suc a) k) h)
  place_at (suc i) a k small fits =
      let e : suc a + i ≡ a + suc i = omega arith in
      let n : suc i + suc k ≡ suc (i + suc k) = omega arith in
      let h : capacity a < length f = subst (λ (x : ℕ). capacity x < length f) (let z : a + 0 ≡ a = omega arith in z) (small 0 (omega arith)) in
      let r = place_at i (suc a) k (λ j l. subst (λ (x : ℕ). capacity x < length f) (let z : a + suc j ≡ suc a + j = omega arith in z) (small (suc j) (omega arith))) (subst (λ (x : ℕ). length f ≤ capacity x) (sym e) fits) in
      rw (← e, n) (
        place-on (capacity a) (g a) (list_from g (suc a) (i + suc k)) h ∙ ap (λ (x : List (List (Term ℕ))). g a ∷ x) (ap (λ (q : ℕ). place cmp p q f (list_from g (suc a) (i + suc k))) (sym (next-capacity a)) ∙ r.0),
        compared-on (capacity a) (g a) (list_from g (suc a) (i + suc k)) h ∙ (ap (λ (q : ℕ). place_compared cmp p q f (list_from g (suc a) (i + suc k))) (sym (next-capacity a)) ∙ r.1),
      )

add-some : (cmp : ℕ → ℕ → Ordering) (p : ℕ) (f : List (Term ℕ)) (bs : List (List (Term ℕ))) → 0 < length f → (add cmp p f bs ≡ place cmp p 4 f bs) × (add_compared cmp p f bs ≡ place_compared cmp p 4 f bs)
unfolding add add_compared
add-some cmp p [] bs h = absurd (let z : ⊥ = omega arith in z)
add-some cmp p (t ∷ ts) bs h = (refl, refl)

-- an addition is a carry from the bucket that f goes to
pub add_at : (cmp : ℕ → ℕ → Ordering) (p : ℕ) (f : List (Term ℕ)) (g : ℕ → List (Term ℕ)) (i : ℕ) → LevelFor (length f) i → 0 < length f
    → (add cmp p f (list_from g 0 6) ≡ list_from g 0 i ++ carry cmp p (capacity i) f (list_from g i (6 - i)))
    × (add_compared cmp p f (list_from g 0 6) ≡ carry_compared cmp p (capacity i) f (list_from g i (6 - i)))
add_at cmp p f g i v some =
    let six : i + suc (5 - i) ≡ 6 = let w = v.within in omega arith in
    let left : suc (5 - i) ≡ 6 - i = let w = v.within in omega arith in
    let z : 0 + i ≡ i = omega arith in
    let r = place_at cmp p f g i 0 (5 - i) (λ j h. subst (λ (x : ℕ). capacity x < length f) (let e : j ≡ 0 + j = omega arith in e) (v.least j h)) (subst (λ (x : ℕ). length f ≤ capacity x) (sym z) v.fits) in
    let s = add-some cmp p f (list_from g 0 6) some in
    let q = rw (z, six, cap-zero, left) at r in
    (s.0 ∙ q.0, s.1 ∙ q.1)

-- a zero polynomial
pub add_none : (cmp : ℕ → ℕ → Ordering) (p : ℕ) (f : List (Term ℕ)) (bs : List (List (Term ℕ))) → length f ≡ 0 → (add cmp p f bs ≡ bs) × (add_compared cmp p f bs ≡ [])
unfolding add add_compared
add_none cmp p [] bs h = (refl, refl)
add_none cmp p (t ∷ ts) bs h = absurd (let z : ⊥ = omega arith in z)
