-- The tests of the lengths are the statements on them. Assumes nothing.
use mathlib.Core.Path.{◌≡◌}
use mathlib.Core.Bool.{true, ◌&&◌}
use Prim.Native.Nat.{ℕ, ◌/◌, ◌%◌}
use borrow.Author.Tests.{eq-eqb, eqb-true, le-leb, leb-true}
use lib.Dec.{leb, eqb}
use Rattle.limits.specs.Limits.{bucket_places, most_operations, weight_count, work_places}
use Rattle.monomial.proofs.Places.{and_both}
use Rattle.conditions.specs.Lengths.{space_good, lent_good, pairs_good, GoodLent, GoodPairs}
use Rattle.conditions.proofs.Tests.{both}

-- what is lent, by its lengths
pub lent-passes : {weights words coefs bw bc ww wc ow oc : ℕ} → lent_good weights words coefs bw bc ww wc ow oc ≡ true → GoodLent weights words coefs bw bc ww wc ow oc
unfolding lent_good space_good
lent-passes {weights} {words} {coefs} {bw} {bc} {ww} {wc} {ow} {oc} h =
    let a = and_both (eqb weights weight_count) (eqb words coefs && (eqb ow oc && space_good bw bc ww wc)) h in
    let b = and_both (eqb words coefs) (eqb ow oc && space_good bw bc ww wc) a.1 in
    let d = and_both (eqb ow oc) (space_good bw bc ww wc) b.1 in
    let e = and_both (eqb bw bucket_places) (eqb bc bucket_places && (eqb ww work_places && eqb wc work_places)) d.1 in
    let f = and_both (eqb bc bucket_places) (eqb ww work_places && eqb wc work_places) e.1 in
    let g = and_both (eqb ww work_places) (eqb wc work_places) f.1 in
    record {
      weights-six = eqb-true weights weight_count a.0;
      lent = eqb-true words coefs b.0;
      output = eqb-true ow oc d.0;
      bucket-words = eqb-true bw bucket_places e.0;
      bucket-coefs = eqb-true bc bucket_places f.0;
      work-words = eqb-true ww work_places g.0;
      work-coefs = eqb-true wc work_places g.1;
    }

pub good-lent : {weights words coefs bw bc ww wc ow oc : ℕ} → GoodLent weights words coefs bw bc ww wc ow oc → lent_good weights words coefs bw bc ww wc ow oc ≡ true
unfolding lent_good space_good
good-lent g = both _ _ (eq-eqb _ _ g.weights-six) (both _ _ (eq-eqb _ _ g.lent) (both _ _ (eq-eqb _ _ g.output) (both _ _ (eq-eqb _ _ g.bucket-words) (both _ _ (eq-eqb _ _ g.bucket-coefs) (both _ _ (eq-eqb _ _ g.work-words) (eq-eqb _ _ g.work-coefs))))))

pub pairs-passes : {len : ℕ} → pairs_good len ≡ true → GoodPairs len
unfolding pairs_good
pairs-passes {len} h = let q = and_both (eqb (len % 2) 0) (leb (len / 2) most_operations) h in record { whole = eqb-true (len % 2) 0 q.0; most = leb-true (len / 2) most_operations q.1 }

pub good-pairs : {len : ℕ} → GoodPairs len → pairs_good len ≡ true
unfolding pairs_good
good-pairs {len} g = both (eqb (len % 2) 0) (leb (len / 2) most_operations) (eq-eqb (len % 2) 0 g.whole) (le-leb (len / 2) most_operations g.most)
