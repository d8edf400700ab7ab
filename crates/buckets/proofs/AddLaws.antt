-- An addition by keys: a carry from the bucket that the polynomial goes to. Assumes nothing.
use mathlib.Core.Path.{◌≡◌, sym, ap, ◌∙◌, subst}
use mathlib.Core.List.{List, ◌++◌}
use mathlib.Core.Logic.{inr}
use Prim.Native.Nat.{ℕ, zero, suc, ◌+◌, ◌-◌, ◌<◌, ◌≤◌, compare}
use native.Mathlib.Omega.{arith}
use lib.ListN.{length}
use Rattle.limits.specs.Limits.{most_terms}
use Rattle.polynomial.specs.Terms.{Term, terms}
use Rattle.polynomial.proofs.TermLists.{length-terms}
use Rattle.merge_common.specs.Lent.{part}
use Rattle.merge_common.proofs.Lists.{length_part}
use Rattle.geobucket.specs.Buckets.{held}
use Rattle.space.specs.Space.{Buckets, len_at, capacity, list_from, bucket_at, buckets_in, Slices}
use Rattle.space.proofs.Starts.{cap-last}
use Rattle.space.proofs.SpaceLaws.{from-split, held-append, held-lens}
use Rattle.buckets.specs.Levels.{LevelFor}
use Rattle.buckets.specs.Adding.{Addition, AddDone, Carry, CarryDone, free, most_small}
use Rattle.buckets.specs.Last.{LastMerged, last_at}
use Rattle.buckets.proofs.CarryLaws.{add_at, add_none}
use Rattle.buckets.proofs.LastLaws.{last-merged}
use Rattle.buckets.proofs.PlaceLaws.{canon-of, all-long}

-- the terms held from bucket i on are at most all terms held
held-from : (g : ℕ → List (Term ℕ)) (i : ℕ) → i < 6 → held (list_from g i (6 - i)) ≤ held (list_from g 0 6)
held-from g i h =
    let e : i + (6 - i) ≡ 6 = omega arith in
    let z : 0 + i ≡ i = omega arith in
    omega (arith, ap held (ap (list_from g 0) (sym e) ∙ from-split g 0 i (6 - i)) ∙ held-append (list_from g 0 i) (list_from g (0 + i) (6 - i)), ap (λ (k : ℕ). held (list_from g k (6 - i))) z)

-- ---- a small polynomial, which lies past the areas
module _ {p : ℕ} {b : Buckets} {n : ℕ} {ww wc sw sc : List ℕ} (a : Addition compare p b (terms (part free n ww) (part free n wc)) (ww ++ sw) (wc ++ sc)) (q : Slices ww wc sw sc) (small : n ≤ most_small) where
  abbrev F : List (Term ℕ)
  F = terms (part free n ww) (part free n wc)

  lw : length (part free n ww) ≡ n
  lw = length_part free n ww (omega (arith, small, q.work-words))

  F-long : length F ≡ n
  F-long = length-terms (part free n ww) (part free n wc) (length_part free n wc (omega (arith, small, q.work-coefs)) ∙ sym lw) ∙ lw

  pub zero-done : n ≡ 0 → AddDone compare p b F (ww ++ sw) (wc ++ sc) (ww ++ sw) (wc ++ sc) b 0
  zero-done e =
      let z = add_none compare p F (buckets_in b (ww ++ sw) (wc ++ sc)) (F-long ∙ e) in
      record { lists-are = sym z.0; count-is = ap length (sym z.1); few = omega arith; stands = a.stands }

  module _ (i : ℕ) (v : LevelFor n i) (some : n ≡ 0 → ⊥) where
    w : LevelFor (length F) i
    w = subst (λ (k : ℕ). LevelFor k i) (sym F-long) v

    pub carry-asks : Carry p b i free n ww wc sw sc
    carry-asks = record {
      stands = a.stands;
      slices = q;
      within = v.within;
      some = omega (arith, some);
      canonical = a.canonical;
      fits = v.fits;
      in-work = omega (arith, small);
      apart = inr (omega arith);
      room = omega (arith, F-long, a.room, held-from (bucket_at b (ww ++ sw) (wc ++ sc)) i v.within);
    }

    pub carry-done : {sw' sc' : List ℕ} {b' : Buckets} {r : ℕ} → CarryDone p b i F (ww ++ sw) (wc ++ sc) b' sw' sc' r → AddDone compare p b F (ww ++ sw) (wc ++ sc) sw' sc' b' r
    carry-done d =
        let e = add_at compare p F (bucket_at b (ww ++ sw) (wc ++ sc)) i w (omega (arith, F-long, some)) in
        record { lists-are = d.lists-are ∙ sym e.0; count-is = d.count-is ∙ ap length (sym e.1); few = d.few; stands = d.stands }

-- the capacities of buckets 0 to 4
small-cap : (j : ℕ) → j < 5 → capacity j ≤ most_small
unfolding capacity
small-cap zero h = omega arith
small-cap (suc zero) h = omega arith
small-cap (suc (suc zero)) h = omega arith
small-cap (suc (suc (suc zero))) h = omega arith
small-cap (suc (suc (suc (suc zero)))) h = omega arith
small-cap (suc (suc (suc (suc (suc j))))) h = absurd (let z : ⊥ = omega arith in z)

-- ---- any other goes to the last bucket
module _ {p : ℕ} {b : Buckets} {ww wc sw sc : List ℕ} (F : List (Term ℕ)) (a : Addition compare p b F (ww ++ sw) (wc ++ sc)) (q : Slices ww wc sw sc) (large : most_small < length F) where
  last-level : LevelFor (length F) 5
  last-level = record { within = omega arith; fits = omega (arith, a.room, cap-last); least = λ j h. omega (arith, small-cap j h, large) }

  pub last-room : length F + len_at b 5 ≤ most_terms
  last-room = let l = all-long q in omega (arith, a.room, held-lens b a.stands.laid (ww ++ sw) (wc ++ sc) l.0 l.1)

  pub last_done : {sw' sc' : List ℕ} {b' : Buckets} {r : ℕ} → LastMerged p b F (last_at b sw sc) sw' sc' b' r → AddDone compare p b F (ww ++ sw) (wc ++ sc) (ww ++ sw') (wc ++ sc') b' r
  last_done d =
      let m = last-merged a.stands.modulus a.stands.laid q (canon-of a.stands) F a.canonical last-room d in
      let e = add_at compare p F (bucket_at b (ww ++ sw) (wc ++ sc)) 5 last-level (omega (arith, large)) in
      record { lists-are = m.0 ∙ sym e.0; count-is = m.1 ∙ ap length (sym e.1); few = omega (arith, m.2); stands = m.3 }
