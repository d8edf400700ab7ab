-- What a good shape is. Assumes nothing.
use mathlib.Core.Path.{◌≡◌}
use mathlib.Core.Bool.{true, ◌&&◌}
use mathlib.Core.List.{List}
use Prim.Native.Nat.{ℕ}
use Rattle.limits.specs.Limits.{bucket_places, weight_count, work_places}
use Rattle.monomial.proofs.Places.{and_both}
use Rattle.polynomial.specs.Opening.{starts_good}
use Rattle.conditions.specs.Lengths.{lent_good, pairs_good}
use Rattle.conditions.proofs.LengthLaws.{lent-passes}
use Rattle.opening.specs.Run.{shape_good}

pub record Shaped (weights words coefs : ℕ) (ss : List ℕ) (ops bw bc ww wc ow oc : ℕ) : Type 0 where
  pub weights-six : weights ≡ weight_count
  pub lent : words ≡ coefs
  pub output : ow ≡ oc
  pub bucket-words : bw ≡ bucket_places
  pub bucket-coefs : bc ≡ bucket_places
  pub work-words : ww ≡ work_places
  pub work-coefs : wc ≡ work_places
  pub starts : starts_good ss words ≡ true
  pub pairs : pairs_good ops ≡ true

pub shape-passes : {weights words coefs : ℕ} {ss : List ℕ} {ops bw bc ww wc ow oc : ℕ} → shape_good weights words coefs ss ops bw bc ww wc ow oc ≡ true → Shaped weights words coefs ss ops bw bc ww wc ow oc
unfolding shape_good
shape-passes {weights} {words} {coefs} {ss} {ops} {bw} {bc} {ww} {wc} {ow} {oc} h =
    let a = and_both (lent_good weights words coefs bw bc ww wc ow oc) (starts_good ss words && pairs_good ops) h in
    let s = and_both (starts_good ss words) (pairs_good ops) a.1 in
    let l = lent-passes a.0 in
    record {
      weights-six = l.weights-six;
      lent = l.lent;
      output = l.output;
      bucket-words = l.bucket-words;
      bucket-coefs = l.bucket-coefs;
      work-words = l.work-words;
      work-coefs = l.work-coefs;
      starts = s.0;
      pairs = s.1;
    }
