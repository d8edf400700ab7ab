-- An addition to a geobucket: it adds the polynomials, keeps the buckets good, and holds no more terms than both. Assumes nothing.
use mathlib.Core.Path.{◌≡◌, refl, ap, ◌∙◌}
use mathlib.Core.List.{List, [], ◌∷◌, ◌++◌, append-nil}
use Prim.Native.Nat.{ℕ, suc, ◌+◌, ◌*◌, ◌%◌, ◌<◌, ◌≤◌, Ordering}
use native.Mathlib.Decide.{dec_le}
use native.Mathlib.Omega.{arith}
use borrow.Author.Tests.{le-leb, lt-leb}
use lib.ListN.{length}
use Rattle.residue.proofs.Remainder.{add_same, add-both}
use Rattle.monomial.specs.TotalOrder.{TotalOrder}
use Rattle.polynomial.specs.Terms.{Term, total, Canonical}
use Rattle.polynomial.specs.Merge.{merge, compared}
use Rattle.polynomial.proofs.MergeLaws.{merge-size, merge-canonical}
use Rattle.polynomial.proofs.CoefLaws.{total-nil, total-merge}
use Rattle.geobucket.specs.Buckets.{held, Good, room, total_in, carry, carry_compared, place, place_compared, add}
use Rattle.geobucket.specs.TrueSum.{Adds}

module _ {A : Type 0} (cmp : A → A → Ordering) (p : ℕ) where
  abbrev Buckets : Type 0
  Buckets = List (List (Term A))

  -- ---- Induction along a carry: a statement on the capacity, f, the buckets before and after, and the pairs.
  module _
      (P : ℕ → List (Term A) → List (List (Term A)) → List (List (Term A)) → List (A × A) → Type 0)
      (none : (cap : ℕ) (f : List (Term A)) → P cap f [] [] [])
      (stays : (cap : ℕ) (f b : List (Term A)) (bs : List (List (Term A))) → length (merge cmp p f b) ≤ cap → P cap f (b ∷ bs) (merge cmp p f b ∷ bs) (compared cmp f b))
      (goes : (cap : ℕ) (f b : List (Term A)) (bs cs : List (List (Term A))) (qs : List (A × A)) → cap < length (merge cmp p f b) → P (4 * cap) (merge cmp p f b) bs cs qs → P cap f (b ∷ bs) ([] ∷ cs) (compared cmp f b ++ qs)) where
    pub carry-along : (cap : ℕ) (f : List (Term A)) (bs : List (List (Term A))) → P cap f bs (carry cmp p cap f bs) (carry_compared cmp p cap f bs)
    unfolding carry carry_compared
    carry-along cap f [] = none cap f
    carry-along cap f (b ∷ bs) = go (dec_le (length (merge cmp p f b)) cap) (carry-along (4 * cap) (merge cmp p f b) bs)
      where
        go : Dec (length (merge cmp p f b) ≤ cap) → P (4 * cap) (merge cmp p f b) bs (carry cmp p (4 * cap) (merge cmp p f b) bs) (carry_compared cmp p (4 * cap) (merge cmp p f b) bs) → P cap f (b ∷ bs) (carry cmp p cap f (b ∷ bs)) (carry_compared cmp p cap f (b ∷ bs))
        go (yes h) r = rw (le-leb (length (merge cmp p f b)) cap h, carry, carry_compared, append-nil) (stays cap f b bs h)
        go (no h) r =
            let k : cap < length (merge cmp p f b) = omega arith in
            rw (lt-leb (length (merge cmp p f b)) cap k, carry, carry_compared) (goes cap f b bs _ _ k r)

  -- ---- the same along the choice of the bucket
  module _
      (P : ℕ → List (Term A) → List (List (Term A)) → List (List (Term A)) → List (A × A) → Type 0)
      (none : (cap : ℕ) (f : List (Term A)) → P cap f [] [] [])
      (here : (cap : ℕ) (f b : List (Term A)) (bs : List (List (Term A))) → length f ≤ cap → P cap f (b ∷ bs) (carry cmp p cap f (b ∷ bs)) (carry_compared cmp p cap f (b ∷ bs)))
      (on : (cap : ℕ) (f b : List (Term A)) (bs cs : List (List (Term A))) (qs : List (A × A)) → cap < length f → P (4 * cap) f bs cs qs → P cap f (b ∷ bs) (b ∷ cs) qs) where
    pub place-along : (cap : ℕ) (f : List (Term A)) (bs : List (List (Term A))) → P cap f bs (place cmp p cap f bs) (place_compared cmp p cap f bs)
    unfolding place place_compared
    place-along cap f [] = none cap f
    place-along cap f (b ∷ bs) = go (dec_le (length f) cap) (place-along (4 * cap) f bs)
      where
        go : Dec (length f ≤ cap) → P (4 * cap) f bs (place cmp p (4 * cap) f bs) (place_compared cmp p (4 * cap) f bs) → P cap f (b ∷ bs) (place cmp p cap f (b ∷ bs)) (place_compared cmp p cap f (b ∷ bs))
        go (yes h) r = rw (le-leb (length f) cap h, place, place_compared) (here cap f b bs h)
        go (no h) r =
            let k : cap < length f = omega arith in
            rw (lt-leb (length f) cap k, place, place_compared) (on cap f b bs _ _ k r)

  -- ---- what an addition makes of good buckets, if there is room
  module _ (O : TotalOrder A cmp) (pos : 0 < p) where
    -- no bucket is left: then there is nothing to add
    nowhere : (cap : ℕ) (f : List (Term A)) → length f + held {A = A} [] ≤ room {A = A} cap [] → Adds cmp p cap f [] []
    unfolding held room total_in Good
    nowhere cap [] h = record { sums = λ m. ap (λ (n : ℕ). n % p) (let e : 0 ≡ total cmp m [] + 0 = omega (arith, total-nil cmp m) in e); good = tt; size = omega arith; count = refl }
    nowhere cap (t ∷ ts) h = absurd (let z : ⊥ = omega arith in z)

    carried : (cap : ℕ) (f : List (Term A)) (bs : List (List (Term A))) → length f + held bs ≤ room cap bs → Canonical cmp p f → Good cmp p cap bs → Adds cmp p cap f bs (carry cmp p cap f bs)
    unfolding held room total_in Good
    carried =
        carry-along (λ cap f bs cs qs. length f + held bs ≤ room cap bs → Canonical cmp p f → Good cmp p cap bs → Adds cmp p cap f bs cs)
        (λ cap f h c g. nowhere cap f h)
        (λ cap f b bs l h c g. record {
          sums = λ m. add_same p (total cmp m (merge cmp p f b)) (total cmp m f + total cmp m b) (total_in cmp m bs) (total-merge cmp O p m f b) ∙ ap (λ (n : ℕ). n % p) (let e : total cmp m f + total cmp m b + total_in cmp m bs ≡ total cmp m f + (total cmp m b + total_in cmp m bs) = omega arith in e);
          good = ((merge-canonical cmp O p pos f b c g.0.0, l), g.1);
          size = omega (arith, merge-size cmp p f b);
          count = refl;
        })
        (λ cap f b bs cs qs l r h c g.
        let a = r (let e : length (merge cmp p f b) + held bs ≤ room (4 * cap) bs = omega (arith, merge-size cmp p f b) in e) (merge-canonical cmp O p pos f b c g.0.0) g.1 in
        record {
          sums = λ m.
              ap (λ (n : ℕ). n % p) (let e : total cmp m [] + total_in cmp m cs ≡ total_in cmp m cs = omega (arith, total-nil cmp m) in e)
              ∙ (a.sums m ∙ (add_same p (total cmp m (merge cmp p f b)) (total cmp m f + total cmp m b) (total_in cmp m bs) (total-merge cmp O p m f b) ∙ ap (λ (n : ℕ). n % p) (let e : total cmp m f + total cmp m b + total_in cmp m bs ≡ total cmp m f + (total cmp m b + total_in cmp m bs) = omega arith in e)));
          good = ((record { falling = tt; reduced = tt }, let z : 0 ≤ cap = omega arith in z), a.good);
          size = omega (arith, a.size, merge-size cmp p f b);
          count = ap suc a.count;
        })

    placed : (cap : ℕ) (f : List (Term A)) (bs : List (List (Term A))) → length f + held bs ≤ room cap bs → Canonical cmp p f → Good cmp p cap bs → Adds cmp p cap f bs (place cmp p cap f bs)
    unfolding held room total_in Good
    placed =
        place-along (λ cap f bs cs qs. length f + held bs ≤ room cap bs → Canonical cmp p f → Good cmp p cap bs → Adds cmp p cap f bs cs)
        (λ cap f h c g. nowhere cap f h)
        (λ cap f b bs l h c g. carried cap f (b ∷ bs) h c g)
        (λ cap f b bs cs qs l r h c g.
        let a = r (let e : length f + held bs ≤ room (4 * cap) bs = omega arith in e) c g.1 in
        record {
          sums = λ m.
              add-both p (total cmp m b) (total cmp m b) (total_in cmp m cs) (total cmp m f + total_in cmp m bs) refl (a.sums m)
              ∙ ap (λ (n : ℕ). n % p) (let e : total cmp m b + (total cmp m f + total_in cmp m bs) ≡ total cmp m f + (total cmp m b + total_in cmp m bs) = omega arith in e);
          good = (g.0, a.good);
          size = omega (arith, a.size);
          count = ap suc a.count;
        })

    -- an addition adds the polynomials, and keeps the buckets good
    pub adds : (f : List (Term A)) (bs : List (List (Term A))) → length f + held bs ≤ room 4 bs → Canonical cmp p f → Good cmp p 4 bs → Adds cmp p 4 f bs (add cmp p f bs)
    unfolding add
    adds [] bs h c g = record { sums = λ m. ap (λ (n : ℕ). n % p) (let e : total_in cmp m bs ≡ total cmp m [] + total_in cmp m bs = omega (arith, total-nil cmp m) in e); good = g; size = omega arith; count = refl }
    adds (t ∷ ts) bs h c g = placed 4 (t ∷ ts) bs h c g
