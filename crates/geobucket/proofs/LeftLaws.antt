-- A search whose lead is left in its bucket makes no bucket longer. Assumes nothing.
use mathlib.Core.List.{List, [], ◌∷◌}
use Prim.Native.Nat.{ℕ, zero, suc, ◌≤◌, Ordering}
use native.Mathlib.Omega.{arith}
use lib.ListN.{length}
use Rattle.polynomial.specs.Terms.{Term}
use Rattle.polynomial.specs.Merge.{keep}
use Rattle.polynomial.proofs.MergeLaws.{length-keep}
use Rattle.geobucket.specs.Buckets.{held}
use Rattle.geobucket.specs.Search.{passed, seek, Lead, none, lead, higher, pass, search, put_back, with_lead}
use Rattle.geobucket.proofs.SearchLaws.{Shrunk, shrunk-refl, shrunk-trans, seek-along, search-along}

module _ {A : Type 0} where
  put-longer : (at : ℕ) (t : Term A) (bs : List (List (Term A))) → Shrunk bs (put_back at t bs)
  unfolding put_back Shrunk
  put-longer at t [] = tt
  put-longer zero t (b ∷ bs) = (let e : length b ≤ suc (length b) = omega arith in e, shrunk-refl bs)
  put-longer (suc at) t (b ∷ bs) = (let e : length b ≤ length b = omega arith in e, put-longer at t bs)

  with-longer : (a : Lead A) (bs : List (List (Term A))) → Shrunk bs (with_lead a bs)
  with-longer none bs = shrunk-refl bs
  with-longer (lead at t) bs = put-longer at t bs

  -- the next bucket, c, is passed by and left as b
  passes-by : (at : ℕ) (t : Term A) (own b c : List (Term A)) (above bs : List (List (Term A))) (o o' : List (Term A)) → length o ≤ length o' → length b ≤ length c
      → Shrunk (put_back at t (own ∷ above)) (o ∷ bs) → Shrunk (put_back (passed at) t (own ∷ (b ∷ above))) (o' ∷ (c ∷ bs))
  unfolding put_back Shrunk
  passes-by zero t own b c above bs o o' h k r = (let e : suc (length own) ≤ length o' = omega (arith, r.0) in e, (k, r.1))
  passes-by (suc at) t own b c above bs o o' h k r = (let e : length own ≤ length o' = omega (arith, r.0) in e, (k, r.1))

  raised : (a : Lead A) (cs bs : List (List (Term A))) → Shrunk (with_lead a cs) bs → Shrunk (with_lead (higher a) ([] ∷ cs)) ([] ∷ bs)
  unfolding put_back Shrunk
  raised none cs bs r = (let e : 0 ≤ 0 = omega arith in e, r)
  raised (lead at t) cs bs r = (let e : 0 ≤ 0 = omega arith in e, r)

module _ {A : Type 0} (cmp : A → A → Ordering) (p : ℕ) where
  seek-left : (bs : List (List (Term A))) (x : Term A) (xs : List (Term A)) → let s = seek cmp p x xs bs in Shrunk (put_back s.at s.lead (s.own ∷ s.above)) ((x ∷ xs) ∷ bs)
  unfolding put_back Shrunk
  seek-left =
      seek-along cmp p (λ x xs bs s. Shrunk (put_back s.at s.lead (s.own ∷ s.above)) ((x ∷ xs) ∷ bs))
      (λ x xs. (let e : suc (length xs) ≤ suc (length xs) = omega arith in e, tt))
      (λ x xs bs s r. passes-by s.at s.lead s.own [] [] s.above bs (x ∷ xs) (x ∷ xs) (omega arith) (omega arith) r)
      (λ x xs y ys bs s h r. (let e : length (keep x.mono x.coef xs) ≤ suc (length xs) = omega (arith, length-keep x.mono x.coef xs) in e, r))
      (λ x xs y ys bs s h r. passes-by s.at s.lead s.own ys (y ∷ ys) s.above bs (_ ∷ xs) (x ∷ xs) (omega arith) (omega arith) r)
      (λ x xs y ys bs s h r. passes-by s.at s.lead s.own (y ∷ ys) (y ∷ ys) s.above bs (x ∷ xs) (x ∷ xs) (omega arith) (omega arith) r)

  pass-left : (bs : List (List (Term A))) → Shrunk (with_lead (pass cmp p bs).answer (pass cmp p bs).buckets) bs
  unfolding pass Shrunk
  pass-left [] = tt
  pass-left ([] ∷ bs) = raised (pass cmp p bs).answer (pass cmp p bs).buckets bs (pass-left bs)
  pass-left ((x ∷ xs) ∷ bs) = seek-left bs x xs

  pub search-left : (bs : List (List (Term A))) → Shrunk (with_lead (search cmp p bs).answer (search cmp p bs).buckets) bs
  search-left bs =
      search-along cmp p (λ bs s. Shrunk (with_lead s.answer s.buckets) bs)
      (λ bs. shrunk-refl bs)
      pass-left
      (λ bs s r. shrunk-trans _ _ _ r (shrunk-trans _ _ _ (with-longer (pass cmp p bs).answer (pass cmp p bs).buckets) (pass-left bs)))
      (suc (held bs)) bs
