-- What holds before each step of a reduction, and that each step keeps it. Assumes nothing.
use mathlib.Core.Path.{◌≡◌, refl, sym, ap, ◌∙◌, subst}
use mathlib.Core.Bool.{Bool, false}
use mathlib.Core.List.{List, [], ◌∷◌, ◌++◌}
use Prim.Native.Nat.{ℕ, suc, ◌+◌, ◌*◌, ◌<◌, ◌≤◌, Ordering}
use native.Mathlib.Omega.{arith}
use lib.ListN.{length, length-append}
use Rattle.limits.specs.Limits.{most_terms}
use Rattle.residue.specs.Prime.{Prime}
use Rattle.monomial.specs.TotalOrder.{TotalOrder}
use Rattle.polynomial.specs.Terms.{Term, All, Under, Falling, Canonical}
use Rattle.polynomial.proofs.MergeLaws.{all_map, under_more}
use Rattle.polynomial.proofs.MultipleLaws.{length-multiple}
use Rattle.geobucket.specs.Buckets.{empty, held, add}
use Rattle.geobucket.specs.Search.{Lead, lead, search}
use Rattle.geobucket.specs.Events.{Work, start, lead_terms, added, removed}
use Rattle.geobucket.proofs.AddLaws.{adds}
use Rattle.geobucket.proofs.SearchLaws.{Above, Leads, Fewer, finds}
use Rattle.geobucket.proofs.EventLaws.{Holds, room-six, good-canon, start-holds, added-holds, removed-holds}
use Rattle.division.specs.Choice.{Fit, unfit, fits}
use Rattle.division.specs.Division.{tail_multiple}
use Rattle.division.specs.Steps.{any_too_large}
use Rattle.division.specs.Operations.{Operations}
use Rattle.division.proofs.HeldTerms.{Every, OfLead, add-every, search-every, above-every, every-above}
use Rattle.division.proofs.TailLaws.{Added, tail-added, all-zip}
use Rattle.division.proofs.FitLaws.{Sound}

-- ---- a term more at the end of a list
pub all_append : {A : Type 0} (P : Term A → Type 0) (xs ys : List (Term A)) → All P xs → All P ys → All P (xs ++ ys)
all_append P [] ys a b = b
all_append P (x ∷ xs) ys a b = (a.0, all_append P xs ys a.1 b)

pub falling-last : {A : Type 0} (cmp : A → A → Ordering) (ts : List (Term A)) (t : Term A) → Falling cmp ts → All (λ u. cmp u.mono t.mono ≡ Ordering.gt) ts → Falling cmp (ts ++ t ∷ [])
falling-last cmp [] t f o = (tt, tt)
falling-last cmp (u ∷ ts) t f o = (all_append (λ v. cmp u.mono v.mono ≡ Ordering.gt) ts (t ∷ []) f.0 (o.0, tt), falling-last cmp ts t f.1 o.1)

module _ {A : Type 0} (cmp : A → A → Ordering) (p : ℕ) (Is : A → Type 0) where
  -- Terms that were removed: they fall, and each is larger than all that the buckets hold.
  pub record Gone (bs : List (List (Term A))) (ts : List (Term A)) : Type 0 where
    pub canonical : Canonical cmp p ts
    pub over : All (λ u. Above cmp p u.mono bs) ts
    pub are : All (λ u. Is u.mono) ts

  -- the lead t of the buckets bs
  pub record Found (bs : List (List (Term A))) (t : Term A) : Type 0 where
    pub is : Is t.mono
    pub not-zero : 0 < t.coef
    pub small : t.coef < p
    pub above : Above cmp p t.mono (search cmp p bs).buckets
    pub fewer : held (search cmp p bs).buckets < held bs

  pub gone-none : (bs : List (List (Term A))) → Gone bs []
  gone-none bs = record { canonical = record { falling = tt; reduced = tt }; over = tt; are = tt }

  -- each is larger than the lead that is found
  gone-lead : (bs : List (List (Term A))) (ts : List (Term A)) (at : ℕ) (t : Term A) → (search cmp p bs).answer ≡ lead at t → Gone bs ts → All (λ u. cmp u.mono t.mono ≡ Ordering.gt) ts
  gone-lead bs ts at t e h =
      all_map {P = λ u. Above cmp p u.mono bs} {Q = λ u. cmp u.mono t.mono ≡ Ordering.gt}
      (λ u a. subst (OfLead (λ m. cmp u.mono m ≡ Ordering.gt)) e (search-every (λ m. cmp u.mono m ≡ Ordering.gt) cmp p bs (above-every cmp p u.mono bs a)).0)
      ts h.over

  gone-search : (bs : List (List (Term A))) (ts : List (Term A)) → Gone bs ts → Gone (search cmp p bs).buckets ts
  gone-search bs ts h = record {
    canonical = h.canonical;
    over = all_map {P = λ u. Above cmp p u.mono bs} {Q = λ u. Above cmp p u.mono (search cmp p bs).buckets}
        (λ u a. every-above cmp p u.mono (search cmp p bs).buckets (search-every (λ m. cmp u.mono m ≡ Ordering.gt) cmp p bs (above-every cmp p u.mono bs a)).1)
        ts h.over;
    are = h.are;
  }

  gone-add : (f : List (Term A)) (bs : List (List (Term A))) (ts : List (Term A)) → All (λ u. Under cmp u.mono f) ts → Gone bs ts → Gone (add cmp p f bs) ts
  gone-add f bs ts o h = record {
    canonical = h.canonical;
    over = all-zip {P = λ u. Under cmp u.mono f} {Q = λ u. Above cmp p u.mono bs} {R = λ u. Above cmp p u.mono (add cmp p f bs)}
        (λ u k a. every-above cmp p u.mono (add cmp p f bs) (add-every (λ m. cmp u.mono m ≡ Ordering.gt) cmp p f bs k (above-every cmp p u.mono bs a)))
        ts o h.over;
    are = h.are;
  }

  -- the lead goes too
  gone-more : (bs : List (List (Term A))) (ts : List (Term A)) (t : Term A) → All (λ u. cmp u.mono t.mono ≡ Ordering.gt) ts → Found bs t → Gone (search cmp p bs).buckets ts → Gone (search cmp p bs).buckets (ts ++ t ∷ [])
  gone-more bs ts t o f h = record {
    canonical = record {
      falling = falling-last cmp ts t h.canonical.falling o;
      reduced = all_append (λ u. (0 < u.coef) × (u.coef < p)) ts (t ∷ []) h.canonical.reduced ((f.not-zero, f.small), tt);
    };
    over = all_append (λ u. Above cmp p u.mono (search cmp p bs).buckets) ts (t ∷ []) h.over (f.above, tt);
    are = all_append (λ u. Is u.mono) ts (t ∷ []) h.are (f.is, tt);
  }

  module _ (choose : A → Fit A) (places : ℕ) where
    -- What holds before each step: so many leads are removed, r is the remainder so far, and w what was done with the geobucket.
    pub record State (leads : ℕ) (r : List (Term A)) (w : Work A) : Type 0 where
      -- six good buckets, paid comparisons, and nothing lost
      pub holds : Holds cmp p 6 w
      pub held-few : held w.buckets ≤ most_terms
      pub are : Every Is w.buckets
      pub brought-few : length w.brought ≤ most_terms * suc leads
      -- the leads removed are what the geobucket gave out
      pub given-count : length w.given ≡ leads
      pub given-gone : Gone w.buckets w.given
      -- the remainder: of these, those that no divisor fits
      pub out-few : length r ≤ leads
      pub out-places : length r ≤ places
      pub out-gone : Gone w.buckets r
      pub out-unfit : All (λ u. choose u.mono ≡ unfit) r

module _ {A : Type 0} (cmp : A → A → Ordering) (O : TotalOrder A cmp) (divides : A → A → Bool) (quotient ◌·◌ : A → A → A) (too_large : A → A → Bool) (Is : A → Type 0) (ops : Operations A cmp divides quotient ◌·◌ too_large Is) (p : ℕ) (prime : Prime p) (choose : A → Fit A) (sound : Sound cmp p Is divides choose) (places : ℕ) where
  pos : 0 < p
  pos = omega (arith, prime.above)

  -- ---- polynomial 0 is added
  pub start-state : (f : List (Term A)) → Canonical cmp p f → All (λ t. Is t.mono) f → length f ≤ most_terms → State cmp p Is choose places 0 [] (added cmp p f start)
  unfolding held Every
  start-state f c is few = record {
    holds = added-holds cmp p O pos 6 (omega arith) start (start-holds cmp p 6) f c (omega arith) (omega arith);
    held-few = omega (arith, (adds cmp p O pos f empty (omega (arith, room-six {A = A} empty refl)) c (start-holds cmp p 6).good).size);
    are = add-every Is cmp p f empty is (tt, (tt, (tt, (tt, (tt, (tt, tt))))));
    brought-few = omega arith;
    given-count = refl;
    given-gone = gone-none cmp p Is (add cmp p f empty);
    out-few = omega arith;
    out-places = omega arith;
    out-gone = gone-none cmp p Is (add cmp p f empty);
    out-unfit = tt;
  }

  module _ {leads : ℕ} {r : List (Term A)} {w : Work A} (s : State cmp p Is choose places leads r w) (at : ℕ) (t : Term A) (e : (search cmp p w.buckets).answer ≡ lead at t) where
    -- ---- the lead, and the buckets without it
    pub found : Found cmp p Is w.buckets t
    found =
        let a = finds cmp p O pos w.buckets (good-canon cmp p 4 w.buckets s.holds.good) in
        let l : (0 < t.coef) × (t.coef < p) × Above cmp p t.mono (search cmp p w.buckets).buckets = subst (λ (x : Lead A). Leads cmp p x (search cmp p w.buckets).buckets) e a.leads in
        record {
          is = subst (OfLead Is) e (search-every Is cmp p w.buckets s.are).0;
          not-zero = l.0;
          small = l.1;
          above = l.2;
          fewer = subst (λ (x : Lead A). Fewer cmp p x (search cmp p w.buckets).buckets w.buckets) e a.fewer;
        }

    pub removed-are : Every Is (search cmp p w.buckets).buckets
    removed-are = (search-every Is cmp p w.buckets s.are).1

    pub removed-given : (removed cmp p w).given ≡ w.given ++ t ∷ []
    removed-given = ap (λ (x : Lead A). w.given ++ lead_terms x) e

    removed-count : length (removed cmp p w).given ≡ suc leads
    removed-count = ap length removed-given ∙ (length-append w.given (t ∷ []) ∙ (let k : length w.given + 1 ≡ suc leads = omega (arith, s.given-count) in k))

    given-over : All (λ u. cmp u.mono t.mono ≡ Ordering.gt) w.given
    given-over = gone-lead cmp p Is w.buckets w.given at t e s.given-gone

    out-over : All (λ u. cmp u.mono t.mono ≡ Ordering.gt) r
    out-over = gone-lead cmp p Is w.buckets r at t e s.out-gone

    given-more : Gone cmp p Is (search cmp p w.buckets).buckets (w.given ++ t ∷ [])
    given-more = gone-more cmp p Is w.buckets w.given t given-over found (gone-search cmp p Is w.buckets w.given s.given-gone)

    -- ---- the lead goes to the remainder
    pub kept-state : choose t.mono ≡ unfit → length r < places → State cmp p Is choose places (suc leads) (r ++ t ∷ []) (removed cmp p w)
    kept-state u free = record {
      holds = removed-holds cmp p O pos 6 (omega arith) w s.holds;
      held-few = omega (arith, found.fewer, s.held-few);
      are = removed-are;
      brought-few = omega (arith, s.brought-few);
      given-count = removed-count;
      given-gone = subst (Gone cmp p Is (search cmp p w.buckets).buckets) (sym removed-given) given-more;
      out-few = omega (arith, s.out-few, length-append r (t ∷ []));
      out-places = omega (arith, length-append r (t ∷ []));
      out-gone = gone-more cmp p Is w.buckets r t out-over found (gone-search cmp p Is w.buckets r s.out-gone);
      out-unfit = all_append (λ v. choose v.mono ≡ unfit) r (t ∷ []) s.out-unfit (u, tt);
    }

    -- ---- the multiple of a divisor's tail is added
    module _ (j : ℕ) (g : Term A) (tail : List (Term A)) (fit : choose t.mono ≡ fits j g tail) (none-large : any_too_large too_large (quotient t.mono g.mono) tail ≡ false) where
      pub step-adds : Added cmp p Is t (tail_multiple quotient ◌·◌ p t g tail)
      step-adds =
          let d = sound t.mono j g tail fit in
          tail-added cmp divides quotient ◌·◌ too_large Is ops p prime t g tail found.is found.not-zero found.small d.0 d.1 none-large

      pub step-length : length (tail_multiple quotient ◌·◌ p t g tail) ≡ length tail
      step-length = length-multiple ◌·◌ p _ _ tail

      -- what is larger than the lead is larger than all of the multiple
      over-added : (ts : List (Term A)) → All (λ u. cmp u.mono t.mono ≡ Ordering.gt) ts → All (λ u. Under cmp u.mono (tail_multiple quotient ◌·◌ p t g tail)) ts
      over-added ts o =
          all_map {P = λ u. cmp u.mono t.mono ≡ Ordering.gt} {Q = λ u. Under cmp u.mono (tail_multiple quotient ◌·◌ p t g tail)}
          (λ u k. under_more cmp O u.mono t.mono k (tail_multiple quotient ◌·◌ p t g tail) step-adds.under) ts o

      pub divided-state : held (removed cmp p w).buckets + length tail ≤ most_terms → State cmp p Is choose places (suc leads) r (added cmp p (tail_multiple quotient ◌·◌ p t g tail) (removed cmp p w))
      divided-state few =
          let h = tail_multiple quotient ◌·◌ p t g tail in
          let cs = (search cmp p w.buckets).buckets in
          let hold = removed-holds cmp p O pos 6 (omega arith) w s.holds in
          let few' : held cs + length h ≤ most_terms = omega (arith, step-length) in
          record {
            holds = added-holds cmp p O pos 6 (omega arith) (removed cmp p w) hold h step-adds.canonical few' few';
            held-few = omega (arith, (adds cmp p O pos h cs (omega (arith, room-six cs hold.six)) step-adds.canonical hold.good).size);
            are = add-every Is cmp p h cs step-adds.are removed-are;
            brought-few = omega (arith, s.brought-few, length-append w.brought h);
            given-count = removed-count;
            given-gone = subst (Gone cmp p Is (add cmp p h cs)) (sym removed-given)
                (gone-add cmp p Is h cs (w.given ++ t ∷ []) (all_append (λ u. Under cmp u.mono h) w.given (t ∷ []) (over-added w.given given-over) (step-adds.under, tt)) given-more);
            out-few = omega (arith, s.out-few);
            out-places = s.out-places;
            out-gone = gone-add cmp p Is h cs r (over-added r out-over) (gone-search cmp p Is w.buckets r s.out-gone);
            out-unfit = s.out-unfit;
          }
