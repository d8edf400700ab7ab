-- A polynomial that is merged into the last bucket: the other buckets stand as they stood. Assumes nothing.
use mathlib.Core.Path.{◌≡◌, sym, ap, ap₂, ◌∙◌, subst}
use mathlib.Core.List.{List, ◌∷◌, ◌++◌}
use Prim.Native.Nat.{ℕ, ◌+◌, ◌-◌, ◌<◌, ◌≤◌, compare}
use native.Mathlib.Decide.{dec_le}
use native.Mathlib.Omega.{arith}
use lib.ListN.{length}
use Rattle.limits.specs.Limits.{most_terms}
use Rattle.residue.specs.Modular.{Modulus}
use Rattle.monomial.proofs.OrderLaws.{numbers-order}
use Rattle.polynomial.specs.Terms.{Term, terms, Canonical}
use Rattle.polynomial.specs.Merge.{merge, merge_count}
use Rattle.polynomial.proofs.MergeLaws.{merge-size, merge-canonical, count-size}
use Rattle.merge_common.specs.Lent.{part}
use Rattle.geobucket.specs.Buckets.{carry, carry_compared}
use Rattle.space.specs.Space.{Buckets, head_at, len_at, capacity, list_from, bucket_at, buckets_in, Laid, Stands, Slices}
use Rattle.space.proofs.Starts.{cap-last}
use Rattle.space.proofs.SpaceLaws.{from-same, from-none, from_at, bucket-long, moved-head-other, moved-len-other}
use Rattle.buckets.specs.Last.{LastMerged, last_at}
use Rattle.buckets.proofs.CarryLaws.{carry-stays, count-stays}
use Rattle.buckets.proofs.PlaceLaws.{in-work, in-space, all-long, stands_of, from-here}

module _ {p : ℕ} {b : Buckets} {ww wc sw sc : List ℕ} (m : Modulus p) (laid : Laid b) (q : Slices ww wc sw sc) (canon : (j : ℕ) → j < 6 → Canonical compare p (bucket_at b (ww ++ sw) (wc ++ sc) j)) (F : List (Term ℕ)) (c : Canonical compare p F) (room : length F + len_at b 5 ≤ most_terms) {sw' sc' : List ℕ} {b' : Buckets} {r : ℕ} (d : LastMerged p b F (last_at b sw sc) sw' sc' b' r) where
  abbrev g : ℕ → List (Term ℕ)
  g = bucket_at b (ww ++ sw) (wc ++ sc)

  abbrev k : ℕ → List (Term ℕ)
  k = bucket_at b' (ww ++ sw') (wc ++ sc')

  slices' : Slices ww wc sw' sc'
  slices' = record { work-words = q.work-words; work-coefs = q.work-coefs; words_long = d.words_long; coefs-long = d.coefs-long }

  g-last : g 5 ≡ last_at b sw sc
  g-last = in-space b laid q

  g-long : length (g 5) ≡ len_at b 5
  g-long = let a = all-long q in bucket-long b laid 5 (omega arith) (ww ++ sw) (wc ++ sc) a.0 a.1

  -- buckets 0 to 4 stand as they stood
  lower : (j : ℕ) → j < 5 → k j ≡ g j
  lower j h =
      in-work b' d.laid j h slices'
      ∙ (ap₂ (λ (x y : ℕ). terms (part x y ww) (part x y wc))
      (ap (λ (x : Buckets). head_at x j) d.moved-is ∙ moved-head-other b 5 d.head d.len laid (omega arith) j (omega arith) (λ e. let z : ⊥ = omega arith in z))
      (ap (λ (x : Buckets). len_at x j) d.moved-is ∙ moved-len-other b 5 d.head d.len laid (omega arith) j (λ e. let z : ⊥ = omega arith in z))
      ∙ sym (in-work b laid j h q))

  top : k 5 ≡ merge compare p F (g 5)
  top = in-space b' d.laid slices' ∙ (d.here ∙ ap (merge compare p F) (sym g-last))

  size : length (merge compare p F (g 5)) ≤ capacity 5
  size = omega (arith, merge-size compare p F (g 5), g-long, room, cap-last)

  rest : list_from g 5 (6 - 5) ≡ g 5 ∷ list_from g 6 0
  rest = from-here g 5 (omega arith)

  lists : buckets_in b' (ww ++ sw') (wc ++ sc') ≡ list_from g 0 5 ++ carry compare p (capacity 5) F (list_from g 5 (6 - 5))
  lists =
      from_at k 5 (omega arith)
      ∙ ap₂ (λ (x y : List (List (Term ℕ))). x ++ y)
      (from-same k g 0 5 (λ j u w. lower j (omega arith)))
      (ap₂ (λ (x : List (Term ℕ)) (y : List (List (Term ℕ))). x ∷ y) top (from-none k 6 ∙ sym (from-none g 6))
      ∙ sym (ap (carry compare p (capacity 5) F) rest ∙ carry-stays compare p (capacity 5) F (g 5) (list_from g 6 0) size))

  count : r ≡ length (carry_compared compare p (capacity 5) F (list_from g 5 (6 - 5)))
  count = d.count-is ∙ (ap (merge_count compare F) (sym g-last) ∙ sym (ap length (ap (carry_compared compare p (capacity 5) F) rest) ∙ count-stays compare p (capacity 5) F (g 5) (list_from g 6 0) size))

  few : r ≤ most_terms
  few = omega (arith, d.count-is ∙ ap (merge_count compare F) (sym g-last), count-size compare p F (g 5), g-long, room)

  canon' : (j : ℕ) → j < 6 → Canonical compare p (k j)
  canon' j h = by (dec_le 5 j)
    where
      by : Dec (5 ≤ j) → Canonical compare p (k j)
      by (yes u) = subst (λ (x : ℕ). Canonical compare p (k x)) (let e : 5 ≡ j = omega arith in e) (subst (Canonical compare p) (sym top) (merge-canonical compare numbers-order p (omega (arith, m.two)) F (g 5) c (canon 5 (omega arith))))
      by (no u) = subst (Canonical compare p) (sym (lower j (omega arith))) (canon j h)

  pub last-merged :
      (buckets_in b' (ww ++ sw') (wc ++ sc') ≡ list_from g 0 5 ++ carry compare p (capacity 5) F (list_from g 5 (6 - 5)))
      × (r ≡ length (carry_compared compare p (capacity 5) F (list_from g 5 (6 - 5))))
      × (r ≤ most_terms)
      × Stands compare p b' (ww ++ sw') (wc ++ sc')
  last-merged = let a = all-long slices' in (lists, count, few, stands_of m a.0 a.1 d.laid canon')
