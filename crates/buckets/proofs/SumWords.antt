-- A full sum in words, from that by keys. Assumes nothing.
use mathlib.Core.Path.{◌≡◌, sym, ap, ◌∙◌}
use mathlib.Core.List.{List, [], ◌++◌, map}
use Prim.Native.Nat.{ℕ, compare}
use lib.ListN.{length}
use Rattle.monomial.specs.declared.order.Order.{Order}
use Rattle.monomial.specs.Words.{compare_words, from_key}
use Rattle.monomial.proofs.KeyLaws.{from-key-compare}
use Rattle.polynomial.specs.Terms.{terms}
use Rattle.polynomial.proofs.Renaming.{renamed-terms, length-renamed}
use Rattle.merge_common.specs.Lent.{part}
use Rattle.geobucket.specs.Buckets.{full_sum, sum_compared}
use Rattle.geobucket.proofs.Renaming.{renamed-sum, renamed-sum-count}
use Rattle.space.specs.Space.{Buckets, buckets_in, spaces, in_words, words_in}
use Rattle.merge_common.specs.declared.merging.Placed.{Placed}
use Rattle.buckets.specs.Summing.{SumDone}

module _ (o : Order) {p : ℕ} {b : Buckets} (ww wc sw sc : List ℕ) {b' : Buckets} {sw' sc' : List ℕ} {r : Placed} (d : SumDone p b (ww ++ sw) (wc ++ sc) b' sw' sc' r) where
  -- the terms in the bucket space, as words, are the full sum
  pub sum-words : terms (map (from_key o) (part r.head r.len sw')) (part r.head r.len sc') ≡ full_sum (compare_words o) p (words_in o (spaces b ww wc sw sc))
  sum-words =
      sym (renamed-terms (from_key o) (part r.head r.len sw') (part r.head r.len sc'))
      ∙ (ap (in_words o) d.sum_is ∙ sym (renamed-sum compare (compare_words o) (from_key o) (from-key-compare o) p [] (buckets_in b (ww ++ sw) (wc ++ sc))))

  pub sum-count : r.comparisons ≡ length (sum_compared (compare_words o) p [] (words_in o (spaces b ww wc sw sc)))
  sum-count = d.count-is ∙ sym (renamed-sum-count compare (compare_words o) (from_key o) (from-key-compare o) p [] (buckets_in b (ww ++ sw) (wc ++ sc)))

  pub sum-len : r.len ≡ length (full_sum (compare_words o) p (words_in o (spaces b ww wc sw sc)))
  sum-len =
      d.len_is
      ∙ (sym (length-renamed (from_key o) (full_sum compare p (buckets_in b (ww ++ sw) (wc ++ sc))))
      ∙ ap length (sym (renamed-sum compare (compare_words o) (from_key o) (from-key-compare o) p [] (buckets_in b (ww ++ sw) (wc ++ sc)))))
