-- Every list of events from the empty geobucket, finished or refused: the comparisons are within the bound, and nothing is lost. Assumes nothing.
use mathlib.Core.Path.{◌≡◌, refl, sym, ap, ◌∙◌}
use mathlib.Core.List.{List, [], ◌∷◌, ◌++◌}
use Prim.Native.Nat.{ℕ, zero, suc, ◌+◌, ◌-◌, ◌*◌, ◌%◌, ◌^◌, ◌<◌, ◌≤◌, Ordering}
use native.Mathlib.Nat.{mul_comm, mul-le-mul_right}
use native.Mathlib.Decide.{dec_le}
use native.Mathlib.Omega.{arith}
use borrow.Author.Tests.{le-leb, lt-leb}
use lib.ListN.{length, length-append}
use Rattle.limits.specs.Limits.{most_terms}
use Rattle.residue.proofs.Remainder.{add_same, add-both}
use Rattle.monomial.specs.TotalOrder.{TotalOrder}
use Rattle.polynomial.specs.Terms.{Term, here, total, Canonical}
use Rattle.polynomial.proofs.CoefLaws.{total-nil, total-cons}
use Rattle.geobucket.specs.Buckets.{empty, held, Good, Canon, Fit, room, total_in, add, add_compared, full_sum, sum_compared, emptied}
use Rattle.geobucket.specs.Search.{Lead, none, lead, Searched, search, put_back, with_lead}
use Rattle.geobucket.specs.Events.{Event, addition, removal, summation, finding, Work, start, lead_terms, added, removed, summed, left, perform, Polynomials, levels, bound}
use Rattle.geobucket.specs.Credit.{credit, Low}
use Rattle.geobucket.proofs.AddLaws.{adds}
use Rattle.geobucket.proofs.Credit.{add-paid}
use Rattle.geobucket.proofs.Levels.{levels-are, levels-enough}
use Rattle.geobucket.proofs.SearchLaws.{Shrunk, lead_total, Fewer, finds, Within, search-within, shrunk-low}
use Rattle.geobucket.proofs.SearchCost.{search-paid}
use Rattle.geobucket.proofs.SumLaws.{sum-totals, sum-paid, emptied-credit, emptied-held}

-- ---- six buckets
pub room-six : {A : Type 0} (bs : List (List (Term A))) → length bs ≡ 6 → most_terms ≤ room 4 bs
unfolding room
room-six [] h = absurd (let z : ⊥ = omega arith in z)
room-six (a ∷ []) h = absurd (let z : ⊥ = omega arith in z)
room-six (a ∷ (b ∷ [])) h = absurd (let z : ⊥ = omega arith in z)
room-six (a ∷ (b ∷ (c ∷ []))) h = absurd (let z : ⊥ = omega arith in z)
room-six (a ∷ (b ∷ (c ∷ (d ∷ [])))) h = absurd (let z : ⊥ = omega arith in z)
room-six (a ∷ (b ∷ (c ∷ (d ∷ (e ∷ []))))) h = absurd (let z : ⊥ = omega arith in z)
room-six (a ∷ (b ∷ (c ∷ (d ∷ (e ∷ (f ∷ [])))))) h = omega arith
room-six (a ∷ (b ∷ (c ∷ (d ∷ (e ∷ (f ∷ (g ∷ bs))))))) h = absurd (let z : ⊥ = omega arith in z)

pub shrunk-count : {A : Type 0} (cs bs : List (List (Term A))) → Shrunk cs bs → length cs ≡ length bs
unfolding Shrunk
shrunk-count [] [] h = refl
shrunk-count [] (b ∷ bs) h = absurd h
shrunk-count (c ∷ cs) [] h = absurd h
shrunk-count (c ∷ cs) (b ∷ bs) h = ap suc (shrunk-count cs bs h.1)

emptied-count : {A : Type 0} (bs : List (List (Term A))) → length (emptied bs) ≡ length bs
unfolding emptied
emptied-count [] = refl
emptied-count (b ∷ bs) = ap suc (emptied-count bs)

emptied-low : {A : Type 0} (M i : ℕ) (bs : List (List (Term A))) → Low M i (emptied bs)
unfolding emptied Low
emptied-low M i [] = tt
emptied-low M i (b ∷ bs) = (λ h. absurd (let z : ⊥ = omega arith in z), emptied-low M (suc i) bs)

module _ {A : Type 0} (cmp : A → A → Ordering) where
  pub total-append : (m : A) (xs ys : List (Term A)) → total cmp m (xs ++ ys) ≡ total cmp m xs + total cmp m ys
  total-append m [] ys = omega (arith, total-nil cmp m)
  total-append m (x ∷ xs) ys = omega (arith, total-cons cmp m x (xs ++ ys), total-cons cmp m x xs, total-append m xs ys)

  emptied-total : (m : A) (bs : List (List (Term A))) → total_in cmp m (emptied bs) ≡ 0
  unfolding emptied total_in
  emptied-total m [] = refl
  emptied-total m (b ∷ bs) = omega (arith, total-nil cmp m, emptied-total m bs)

  pub put-total : (m : A) (at : ℕ) (t : Term A) (bs : List (List (Term A))) → at < length bs → total_in cmp m (put_back at t bs) ≡ here (cmp t.mono m) t.coef + total_in cmp m bs
  unfolding put_back total_in
  put-total m at t [] h = absurd (let z : ⊥ = omega arith in z)
  put-total m zero t (b ∷ bs) h = omega (arith, total-cons cmp m t b)
  put-total m (suc at) t (b ∷ bs) h = omega (arith, put-total m at t bs (omega arith))

module _ {A : Type 0} (cmp : A → A → Ordering) (p : ℕ) where
  pub good-canon : (cap : ℕ) (bs : List (List (Term A))) → Good cmp p cap bs → Canon cmp p bs
  unfolding Good Canon
  good-canon cap [] g = tt
  good-canon cap (b ∷ bs) g = (g.0.0, good-canon (4 * cap) bs g.1)

  pub good-fit : (cap : ℕ) (bs : List (List (Term A))) → Good cmp p cap bs → Fit cap bs
  unfolding Good Fit
  good-fit cap [] g = tt
  good-fit cap (b ∷ bs) g = (g.0.1, good-fit (4 * cap) bs g.1)

  pub shrunk-good : (cap : ℕ) (cs bs : List (List (Term A))) → Shrunk cs bs → Canon cmp p cs → Good cmp p cap bs → Good cmp p cap cs
  unfolding Good Canon Shrunk
  shrunk-good cap [] [] h c g = tt
  shrunk-good cap [] (b ∷ bs) h c g = absurd h
  shrunk-good cap (x ∷ cs) [] h c g = absurd h
  shrunk-good cap (x ∷ cs) (b ∷ bs) h c g = ((c.0, let e : length x ≤ cap = omega arith in e), shrunk-good (4 * cap) cs bs h.1 c.1 g.1)

  pub emptied-good : (cap : ℕ) (bs : List (List (Term A))) → Good cmp p cap (emptied bs)
  unfolding Good emptied
  emptied-good cap [] = tt
  emptied-good cap (b ∷ bs) = ((record { falling = tt; reduced = tt }, let z : 0 ≤ cap = omega arith in z), emptied-good (4 * cap) bs)

  -- ---- Induction along a list of events.
  module _
      (P : List (Event A) → Work A → Work A → Type 0)
      (ends : (w : Work A) → P [] w w)
      (Adds-on : (f : List (Term A)) (es : List (Event A)) (w v : Work A) → held w.buckets + length f ≤ most_terms → P es (added cmp p f w) v → P (addition f ∷ es) w v)
      (refuses : (f : List (Term A)) (es : List (Event A)) (w : Work A) → most_terms < held w.buckets + length f → P (addition f ∷ es) w w)
      (removes : (es : List (Event A)) (w v : Work A) → P es (removed cmp p w) v → P (removal ∷ es) w v)
      (sums-up : (es : List (Event A)) (w v : Work A) → P es (summed cmp p w) v → P (summation ∷ es) w v)
      (leaves : (es : List (Event A)) (w : Work A) → P (finding ∷ es) w (left cmp p w)) where
    pub perform-along : (es : List (Event A)) (w : Work A) → P es w (perform cmp p es w)
    unfolding perform
    perform-along [] w = ends w
    perform-along (addition f ∷ es) w = go (dec_le (held w.buckets + length f) most_terms) (perform-along es (added cmp p f w))
      where
        go : Dec (held w.buckets + length f ≤ most_terms) → P es (added cmp p f w) (perform cmp p es (added cmp p f w)) → P (addition f ∷ es) w (perform cmp p (addition f ∷ es) w)
        go (yes h) r = rw (le-leb (held w.buckets + length f) most_terms h, perform) (Adds-on f es w _ h r)
        go (no h) r =
            let k : most_terms < held w.buckets + length f = omega arith in
            rw (lt-leb (held w.buckets + length f) most_terms k, perform) (refuses f es w k)
    perform-along (removal ∷ es) w = removes es w _ (perform-along es (removed cmp p w))
    perform-along (summation ∷ es) w = sums-up es w _ (perform-along es (summed cmp p w))
    perform-along (finding ∷ es) w = leaves es w

  -- ---- what holds before each event, with M levels
  pub record Holds (M : ℕ) (w : Work A) : Type 0 where
    pub good : Good cmp p 4 w.buckets
    pub six : length w.buckets ≡ 6
    pub low : Low M 1 w.buckets
    pub few : held w.buckets ≤ length w.brought
    pub paid : length w.pairs + credit M 1 w.buckets ≤ (6 * M - 1) * length w.brought
    pub kept : (m : A) → (total cmp m w.given + total_in cmp m w.buckets) % p ≡ total cmp m w.brought % p

  -- what holds at the end
  pub record Ends (M : ℕ) (w : Work A) : Type 0 where
    pub paid : length w.pairs ≤ (6 * M - 1) * length w.brought
    pub kept : (m : A) → (total cmp m w.given + total_in cmp m w.buckets) % p ≡ total cmp m w.brought % p

  so_far : (M : ℕ) (w : Work A) → Holds M w → Ends M w
  so_far M w h = record { paid = omega (arith, h.paid); kept = h.kept }

  pub start-holds : (M : ℕ) → Holds M start
  unfolding Good Low held credit total_in emptied
  start-holds M = record {
    good = emptied-good 4 empty;
    six = refl;
    low = emptied-low {A = A} M 1 empty;
    few = omega arith;
    paid = omega (arith, emptied-credit {A = A} M 1 empty);
    kept = λ m. ap (λ (n : ℕ). n % p) (let e : total cmp m [] + total_in cmp m empty ≡ total cmp m [] = omega (arith, emptied-total cmp m empty) in e);
  }

  -- ---- the sums of one event, on plain numbers: G is given out, T and then U held, B brought in
  kept-added : (G T U F B : ℕ) → U % p ≡ (F + T) % p → (G + T) % p ≡ B % p → (G + U) % p ≡ (B + F) % p
  kept-added G T U F B h k =
      add-both p G G U (F + T) refl h
      ∙ (ap (λ (n : ℕ). n % p) (let e : G + (F + T) ≡ G + T + F = omega arith in e)
      ∙ add_same p (G + T) B F k)

  kept-moved : (G L T U B : ℕ) → (L + U) % p ≡ T % p → (G + T) % p ≡ B % p → (G + (L + U)) % p ≡ B % p
  kept-moved G L T U B h k = add-both p G G (L + U) T refl h ∙ k

  pub lead-total : (m : A) (a : Lead A) → total cmp m (lead_terms a) ≡ lead_total cmp p m a
  lead-total m none = total-nil cmp m
  lead-total m (lead at t) = omega (arith, total-cons cmp m t [], total-nil cmp m)

  pub with-total : (m : A) (a : Lead A) (cs : List (List (Term A))) → Within cmp p a cs → total_in cmp m (with_lead a cs) ≡ lead_total cmp p m a + total_in cmp m cs
  with-total m none cs h = omega arith
  with-total m (lead at t) cs h = put-total cmp m at t cs h

  pub fewer-held : (a : Lead A) (cs bs : List (List (Term A))) → Fewer cmp p a cs bs → held cs ≤ held bs
  fewer-held none cs bs h = h
  fewer-held (lead at t) cs bs h = omega arith

  adds-up : (c B F P Q d e : ℕ) → P + d ≤ c * B → Q + e ≤ c * F + d → P + Q + e ≤ c * (B + F)
  adds-up c B F P Q d e h k = omega arith

  module _ (O : TotalOrder A cmp) (pos : 0 < p) (M : ℕ) (one : 1 ≤ M) (w : Work A) (h : Holds M w) where
    pub added-holds : (f : List (Term A)) → Canonical cmp p f → held w.buckets + length f ≤ most_terms → held w.buckets + length f ≤ 4 ^ M → Holds M (added cmp p f w)
    added-holds f c small few =
        let a = adds cmp p O pos f w.buckets (let e : length f + held w.buckets ≤ room 4 w.buckets = omega (arith, room-six w.buckets h.six) in e) c h.good in
        let b = add-paid cmp p M one f w.buckets (let e : length f + held w.buckets ≤ 4 ^ M = omega arith in e) (good-fit 4 w.buckets h.good) h.low in
        record {
          good = a.good;
          six = a.count ∙ h.six;
          low = b.1;
          few = omega (arith, a.size, h.few, length-append w.brought f);
          paid = rw (length-append w.pairs (add_compared cmp p f w.buckets), length-append w.brought f)
              (adds-up (6 * M - 1) (length w.brought) (length f) (length w.pairs) (length (add_compared cmp p f w.buckets)) (credit M 1 w.buckets) (credit M 1 (add cmp p f w.buckets)) h.paid b.0);
          kept = λ m. kept-added (total cmp m w.given) (total_in cmp m w.buckets) (total_in cmp m (add cmp p f w.buckets)) (total cmp m f) (total cmp m w.brought) (a.sums m) (h.kept m) ∙ ap (λ (n : ℕ). n % p) (sym (total-append cmp m w.brought f));
        }

    -- the search from here
    abbrev s : Searched A
    s = search cmp p w.buckets

    pub removed-holds : Holds M (removed cmp p w)
    removed-holds =
        let canon = good-canon 4 w.buckets h.good in
        let a = finds cmp p O pos w.buckets canon in
        record {
          good = shrunk-good 4 s.buckets w.buckets a.short a.canon h.good;
          six = shrunk-count s.buckets w.buckets a.short ∙ h.six;
          low = shrunk-low M 1 s.buckets w.buckets a.short h.low;
          few = omega (arith, fewer-held s.answer s.buckets w.buckets a.fewer, h.few);
          paid = rw (length-append w.pairs s.pairs) (let e : length w.pairs + length s.pairs + credit M 1 s.buckets ≤ (6 * M - 1) * length w.brought = omega (arith, search-paid cmp p M O pos w.buckets canon h.low, h.paid) in e);
          kept = λ m.
              ap (λ (n : ℕ). n % p) (let e : total cmp m (w.given ++ lead_terms s.answer) + total_in cmp m s.buckets ≡ total cmp m w.given + (lead_total cmp p m s.answer + total_in cmp m s.buckets) = omega (arith, total-append cmp m w.given (lead_terms s.answer), lead-total m s.answer) in e)
              ∙ kept-moved (total cmp m w.given) (lead_total cmp p m s.answer) (total_in cmp m w.buckets) (total_in cmp m s.buckets) (total cmp m w.brought) (a.sums m) (h.kept m);
        }

    summed-holds : Holds M (summed cmp p w)
    summed-holds = record {
      good = emptied-good 4 w.buckets;
      six = emptied-count w.buckets ∙ h.six;
      low = emptied-low M 1 w.buckets;
      few = omega (arith, emptied-held w.buckets);
      paid = rw (length-append w.pairs (sum_compared cmp p [] w.buckets), emptied-credit M 1 w.buckets) (let e : length w.pairs + length (sum_compared cmp p [] w.buckets) + 0 ≤ (6 * M - 1) * length w.brought = omega (arith, sum-paid cmp p M one w.buckets h.low, h.paid) in e);
      kept = λ m.
          ap (λ (n : ℕ). n % p) (let e : total cmp m (w.given ++ full_sum cmp p w.buckets) + total_in cmp m (emptied w.buckets) ≡ total cmp m w.given + (total cmp m (full_sum cmp p w.buckets) + 0) = omega (arith, total-append cmp m w.given (full_sum cmp p w.buckets), emptied-total cmp m w.buckets) in e)
          ∙ kept-moved (total cmp m w.given) (total cmp m (full_sum cmp p w.buckets)) (total_in cmp m w.buckets) 0 (total cmp m w.brought)
          (ap (λ (n : ℕ). n % p) (let e : total cmp m (full_sum cmp p w.buckets) + 0 ≡ total cmp m (full_sum cmp p w.buckets) = omega arith in e) ∙ (sum-totals cmp p O m [] w.buckets ∙ ap (λ (n : ℕ). n % p) (let e : total cmp m [] + total_in cmp m w.buckets ≡ total_in cmp m w.buckets = omega (arith, total-nil cmp m) in e)))
          (h.kept m);
    }

    pub left-ends : Ends M (left cmp p w)
    left-ends =
        let canon = good-canon 4 w.buckets h.good in
        let a = finds cmp p O pos w.buckets canon in
        record {
          paid = rw (length-append w.pairs s.pairs) (let e : length w.pairs + length s.pairs ≤ (6 * M - 1) * length w.brought = omega (arith, search-paid cmp p M O pos w.buckets canon h.low, h.paid) in e);
          kept = λ m.
              ap (λ (n : ℕ). (total cmp m w.given + n) % p) (with-total m s.answer s.buckets (search-within cmp p w.buckets))
              ∙ kept-moved (total cmp m w.given) (lead_total cmp p m s.answer) (total_in cmp m w.buckets) (total_in cmp m s.buckets) (total cmp m w.brought) (a.sums m) (h.kept m);
        }

  module _ (O : TotalOrder A cmp) (pos : 0 < p) where
    -- with M levels, which have room for n terms or for 4,096: no less is brought in in the end, and where that is up to n, all holds
    performs : (M : ℕ) → 1 ≤ M → (n : ℕ) → ((k : ℕ) → k ≤ n → k ≤ most_terms → k ≤ 4 ^ M) → (es : List (Event A)) (w : Work A)
        → (length w.brought ≤ length (perform cmp p es w).brought) × (Polynomials cmp p es → Holds M w → length (perform cmp p es w).brought ≤ n → Ends M (perform cmp p es w))
    unfolding Polynomials
    performs M one n enough =
        perform-along (λ es w v. (length w.brought ≤ length v.brought) × (Polynomials cmp p es → Holds M w → length v.brought ≤ n → Ends M v))
        (λ w. (omega arith, λ f h l. so_far M w h))
        (λ f es w v k r.
        let grows : length w.brought + length f ≤ length v.brought = omega (arith, r.0, length-append w.brought f) in (
          omega arith,
          λ g h l.
              let few : held w.buckets + length f ≤ n = omega (arith, h.few) in
              r.1 g.1 (added-holds O pos M one w h f g.0 k (enough (held w.buckets + length f) few k)) l,
        ))
        (λ f es w k. (omega arith, λ g h l. so_far M w h))
        (λ es w v r. (r.0, λ g h l. r.1 g (removed-holds O pos M one w h) l))
        (λ es w v r. (r.0, λ g h l. r.1 g (summed-holds O pos M one w h) l))
        (λ es w. (omega arith, λ g h l. left-ends O pos M one w h))

    at-end : (es : List (Event A)) → Polynomials cmp p es → Ends (levels (length (perform cmp p es start).brought)) (perform cmp p es start)
    at-end es f =
        let n = length (perform cmp p es start).brought in
        let l = levels-are n in
        (performs (levels n) l.one n (levels-enough n (levels n) l) es start).1 f (start-holds (levels n)) (omega arith)

    -- demand 3: "They are at most 6·N·M", for every list of events, to its end or up to a refused addition
    pub events-bound : (es : List (Event A)) → Polynomials cmp p es → length (perform cmp p es start).pairs ≤ bound (length (perform cmp p es start).brought)
    events-bound es f = within (length (perform cmp p es start).brought) (levels (length (perform cmp p es start).brought)) (length (perform cmp p es start).pairs) (at-end es f).paid
      where
        within : (n M q : ℕ) → q ≤ (6 * M - 1) * n → q ≤ 6 * n * M
        within n M q h = let e : (6 * M - 1) * n ≤ 6 * M * n = mul-le-mul_right n (omega arith) in omega (arith, mul_comm M n)

    -- demand 3: "And as polynomials modulo p, terms given out + terms still held = terms brought in."
    pub events-kept : (es : List (Event A)) → Polynomials cmp p es → (m : A) → (total cmp m (perform cmp p es start).given + total_in cmp m (perform cmp p es start).buckets) % p ≡ total cmp m (perform cmp p es start).brought % p
    events-kept es f m = (at-end es f).kept m
