-- A lead that was found and left, and its removal. Assumes nothing.
use mathlib.Core.Path.{◌≡◌, sym, ap, ◌∙◌, subst}
use mathlib.Core.List.{List, ◌∷◌}
use Prim.Native.Nat.{ℕ, ◌<◌, Ordering}
use native.Mathlib.Nat.{zero-add}
use native.Mathlib.Omega.{arith}
use lib.ListN.{length}
use Rattle.monomial.specs.TotalOrder.{TotalOrder}
use Rattle.polynomial.specs.Terms.{Term}
use Rattle.geobucket.specs.Search.{Lead, none, lead, search, with_lead}
use Rattle.geobucket.specs.Buckets.{Canon}
use Rattle.geobucket.proofs.SearchLaws.{Within, Finds, search-within, finds}
use Rattle.space.specs.Space.{Buckets, bucket_at, buckets_in, Laid, dropped}
use Rattle.space.proofs.SpaceLaws.{dropped-laid, dropped-other, some_of, drop_here}
use Rattle.search.specs.Searching.{Removal, FindDone, TakeDone}
use Rattle.search.proofs.FindLaws.{Fronted, fronted, shrunk-long}
use Rattle.search.proofs.FindState.{stands_by}

module _ {cmp : ℕ → ℕ → Ordering} {p : ℕ} (bs : List (List (Term ℕ))) (O : TotalOrder ℕ cmp) (pos : 0 < p) (canon : Canon cmp p bs) (six : length bs ≡ 6) where
  found : Finds cmp p bs (search cmp p bs)
  found = finds cmp p O pos bs canon

  long : length (search cmp p bs).buckets ≡ 6
  long = shrunk-long (search cmp p bs).buckets bs found.short ∙ six

  -- a lead is in one of the six buckets
  pub inside : (at : ℕ) (t : Term ℕ) → (search cmp p bs).answer ≡ lead at t → at < 6
  inside at t e = let w : at < length (search cmp p bs).buckets = subst (λ (a : Lead ℕ). Within cmp p a (search cmp p bs).buckets) e (search-within cmp p bs) in omega (arith, w, long)

module _ {cmp : ℕ → ℕ → Ordering} {p : ℕ} {bs : List (List (Term ℕ))} {b : Buckets} {sw sc : List ℕ} {n : ℕ} (O : TotalOrder ℕ cmp) (canon : Canon cmp p bs) (six : length bs ≡ 6) where
  -- zero was found: nothing is to be removed
  pub take_none : FindDone cmp p bs b sw sc none n → TakeDone cmp p bs b sw sc none n
  take_none d = record { answer-is = d.answer-is; count-is = d.count-is; few = d.few; lists-are = d.lists-are ∙ ap (λ (a : Lead ℕ). with_lead a (search cmp p bs).buckets) (sym d.answer-is); stands = d.stands }

  module _ {at : ℕ} {t : Term ℕ} (d : FindDone cmp p bs b sw sc (lead at t) n) where
    pos : 0 < p
    pos = omega (arith, d.stands.modulus.two)

    within : at < 6
    within = inside bs O pos canon six at t (sym d.answer-is)

    at_front : Fronted (bucket_at b sw sc) 0 6 at t (search cmp p bs).buckets
    at_front = fronted (bucket_at b sw sc) 6 0 at t (search cmp p bs).buckets (d.lists-are ∙ ap (λ (a : Lead ℕ). with_lead a (search cmp p bs).buckets) (sym d.answer-is)) within (long bs O pos canon six)

    own : bucket_at b sw sc at ≡ t ∷ at_front.rest
    own = ap (bucket_at b sw sc) (sym (zero-add at)) ∙ at_front.front

    pub removal-asks : Removal b at
    removal-asks = let s = d.stands in record { laid = s.laid; within = within; some = some_of b at s.laid within sw sc s.words_long s.coefs-long t at_front.rest own }

    removed : buckets_in (dropped b at) sw sc ≡ (search cmp p bs).buckets
    removed =
        let s = d.stands in
        at_front.back (bucket_at (dropped b at) sw sc)
        (ap (bucket_at (dropped b at) sw sc) (zero-add at) ∙ drop_here b at s.laid within sw sc s.words_long s.coefs-long t at_front.rest own)
        (λ m u w no_front. dropped-other b at s.laid within removal-asks.some sw sc s.words_long s.coefs-long m (omega arith) (λ q. no_front (q ∙ sym (zero-add at))))

    pub take-lead : {b' : Buckets} → b' ≡ dropped b at → TakeDone cmp p bs b' sw sc (lead at t) n
    take-lead {b'} e =
        let s = d.stands in
        let lists : buckets_in b' sw sc ≡ (search cmp p bs).buckets = ap (λ (x : Buckets). buckets_in x sw sc) e ∙ removed in
        record {
          answer-is = d.answer-is;
          count-is = d.count-is;
          few = d.few;
          lists-are = lists;
          stands = stands_by s.modulus s.words_long s.coefs-long (subst Laid (sym e) (dropped-laid b at s.laid within removal-asks.some)) (subst (Canon cmp p) (sym lists) (found bs O pos canon six).canon);
        }
