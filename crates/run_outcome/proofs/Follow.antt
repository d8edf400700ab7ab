-- A run, operation by operation: induction along it, the events that it does, and what holds of its buckets and its output. Assumes nothing.
use mathlib.Core.Path.{◌≡◌, refl, sym, ap, ap₂, ◌∙◌, subst}
use mathlib.Core.Bool.{Bool, true, false, ◌||◌, true≢false}
use mathlib.Core.List.{List, [], ◌∷◌, ◌++◌, append-nil}
use mathlib.Core.Logic.{inl, inr}
use Prim.Native.Nat.{ℕ, suc, ◌+◌, ◌-◌, ◌<◌, ◌≤◌, Ordering}
use native.Mathlib.Decide.{dec_le}
use native.Mathlib.Omega.{arith}
use borrow.Author.Tests.{le-leb, lt-leb, eq-eqb, eqb-true, ltb-true}
use lib.Dec.{eqb}
use lib.ListN.{length}
use Rattle.limits.specs.Limits.{most_terms}
use Rattle.monomial.specs.TotalOrder.{TotalOrder}
use Rattle.monomial.proofs.Places.{and_both}
use Rattle.polynomial.specs.Terms.{Term, term, Canonical}
use Rattle.geobucket.specs.Buckets.{empty, held, Good, full_sum, emptied, Canon}
use Rattle.geobucket.specs.Search.{Lead, none, lead, search}
use Rattle.geobucket.specs.Events.{lead_terms, Polynomials}
use Rattle.geobucket.proofs.AddLaws as G
use Rattle.geobucket.proofs.EventLaws.{room-six, good-canon, shrunk-good, emptied-good}
use Rattle.geobucket.proofs.SearchLaws.{Leads, finds}
use Rattle.geobucket.proofs.LeadLaws.{sum-right}
use Rattle.search.proofs.FindLaws.{shrunk-long}
use Rattle.call.specs.Lending.{polynomial}
use Rattle.call.specs.Places.{non_zero}
use Rattle.call.proofs.PlaceLaws.{non_zero-append, non_zero-reduced}
use Rattle.conditions.specs.Operations.{operation_good, operations_good}
use Rattle.conditions.specs.Operations as O
use Rattle.run_outcome.specs.Runs.{Operation, adds, leads, sums, Running, begun, stopped, operate, operate_all, added, taken, summed, added_by, taken_by, summed_by, place_of, operation_by, operation_of, operations_of}
use Rattle.run_outcome.specs.Demanded.{Names, NameAll, events_of}

module _ (cmp : ℕ → ℕ → Ordering) (p places : ℕ) where
  -- the operation leaves u: the run goes on from there, or is stopped
  pub all-on : {u : Running} (o : Operation) (os : List Operation) (t : Running) → operate cmp p places o t ≡ u → u.stop ≡ 0 → operate_all cmp p places (o ∷ os) t ≡ operate_all cmp p places os u
  unfolding operate_all
  all-on {u} o os t is z = ap (λ (x : Running). elim (eqb x.stop 0) [ true ↦ operate_all cmp p places os x | false ↦ x ]) is ∙ rw (eq-eqb u.stop 0 z)

  pub all-off : {u : Running} (o : Operation) (os : List Operation) (t : Running) → operate cmp p places o t ≡ u → eqb u.stop 0 ≡ false → operate_all cmp p places (o ∷ os) t ≡ u
  unfolding operate_all
  all-off {u} o os t is z = ap (λ (x : Running). elim (eqb x.stop 0) [ true ↦ operate_all cmp p places os x | false ↦ x ]) is ∙ rw z

  -- ---- Induction along a run.
  module _
      (P : List Operation → Running → Running → Type 0)
      (ends : (t : Running) → t.stop ≡ 0 → P [] t t)
      (Adds-on : (f : List (Term ℕ)) (os : List Operation) (t v : Running) → held t.work.buckets + length f ≤ most_terms → P os (added cmp p f t) v → P (adds f ∷ os) t v)
      (adds-off : (f : List (Term ℕ)) (os : List Operation) (t : Running) → most_terms < held t.work.buckets + length f → P (adds f ∷ os) t (stopped 11 t))
      (leads-on : (os : List Operation) (t v : Running) → length t.output + 1 ≤ places → P os (taken cmp p t) v → P (leads ∷ os) t v)
      (leads-off : (os : List Operation) (t : Running) → places < length t.output + 1 → P (leads ∷ os) t (stopped 10 t))
      (sums_on : (os : List Operation) (t v : Running) → length t.output + (held t.work.buckets + 1) ≤ places → P os (summed cmp p t) v → P (sums ∷ os) t v)
      (sums-off : (os : List Operation) (t : Running) → places < length t.output + (held t.work.buckets + 1) → P (sums ∷ os) t (stopped 10 t)) where
    pub along : (os : List Operation) (t : Running) → t.stop ≡ 0 → P os t (operate_all cmp p places os t)
    unfolding operate_all operate
    along [] t z = ends t z
    along (adds f ∷ os) t z = go (dec_le (held t.work.buckets + length f) most_terms) (along os (added cmp p f t) z)
      where
        go : Dec (held t.work.buckets + length f ≤ most_terms) → P os (added cmp p f t) (operate_all cmp p places os (added cmp p f t)) → P (adds f ∷ os) t (operate_all cmp p places (adds f ∷ os) t)
        go (yes h) r = subst (P (adds f ∷ os) t) (sym (all-on (adds f) os t (ap (λ (b : Bool). added_by cmp p b f t) (le-leb (held t.work.buckets + length f) most_terms h)) z)) (Adds-on f os t _ h r)
        go (no h) r =
            let k : most_terms < held t.work.buckets + length f = omega arith in
            subst (P (adds f ∷ os) t) (sym (all-off (adds f) os t (ap (λ (b : Bool). added_by cmp p b f t) (lt-leb (held t.work.buckets + length f) most_terms k)) refl)) (adds-off f os t k)
    along (leads ∷ os) t z = go (dec_le (length t.output + 1) places) (along os (taken cmp p t) z)
      where
        go : Dec (length t.output + 1 ≤ places) → P os (taken cmp p t) (operate_all cmp p places os (taken cmp p t)) → P (leads ∷ os) t (operate_all cmp p places (leads ∷ os) t)
        go (yes h) r = subst (P (leads ∷ os) t) (sym (all-on leads os t (ap (λ (b : Bool). taken_by cmp p b t) (le-leb (length t.output + 1) places h)) z)) (leads-on os t _ h r)
        go (no h) r =
            let k : places < length t.output + 1 = omega arith in
            subst (P (leads ∷ os) t) (sym (all-off leads os t (ap (λ (b : Bool). taken_by cmp p b t) (lt-leb (length t.output + 1) places k)) refl)) (leads-off os t k)
    along (sums ∷ os) t z = go (dec_le (length t.output + (held t.work.buckets + 1)) places) (along os (summed cmp p t) z)
      where
        go : Dec (length t.output + (held t.work.buckets + 1) ≤ places) → P os (summed cmp p t) (operate_all cmp p places os (summed cmp p t)) → P (sums ∷ os) t (operate_all cmp p places (sums ∷ os) t)
        go (yes h) r = subst (P (sums ∷ os) t) (sym (all-on sums os t (ap (λ (b : Bool). summed_by cmp p b t) (le-leb (length t.output + (held t.work.buckets + 1)) places h)) z)) (sums_on os t _ h r)
        go (no h) r =
            let k : places < length t.output + (held t.work.buckets + 1) = omega arith in
            subst (P (sums ∷ os) t) (sym (all-off sums os t (ap (λ (b : Bool). summed_by cmp p b t) (lt-leb (length t.output + (held t.work.buckets + 1)) places k)) refl)) (sums-off os t k)

emptied-long : (bs : List (List (Term ℕ))) → length (emptied bs) ≡ length bs
unfolding emptied
emptied-long [] = refl
emptied-long (b ∷ bs) = ap suc (emptied-long bs)

-- ---- the buckets are good, and the terms given out are the non-zero ones of the output
module _ (cmp : ℕ → ℕ → Ordering) (p : ℕ) where
  pub record Sound (t : Running) : Type 0 where
    pub good : Good cmp p 4 t.work.buckets
    pub six : length t.work.buckets ≡ 6
    pub output-is : non_zero t.output ≡ t.work.given

  sound-begun : Sound begun
  unfolding emptied
  sound-begun = record { good = emptied-good cmp p 4 empty; six = refl; output-is = refl }

  pub canon : {t : Running} → Sound t → Canon cmp p t.work.buckets
  canon {t} a = good-canon cmp p 4 t.work.buckets a.good

  -- the place of a lead holds the term given out, if it is not zero
  pub placed : (x : Lead ℕ) (cs : List (List (Term ℕ))) → Leads cmp p x cs → non_zero (place_of x ∷ []) ≡ lead_terms x
  placed none cs l = refl
  placed (lead at u) cs l = non_zero-reduced p (u ∷ []) ((l.0, l.1), tt)

  module _ (O : TotalOrder ℕ cmp) (pos : 0 < p) {t : Running} (a : Sound t) where
    sound-added : (f : List (Term ℕ)) → Canonical cmp p f → held t.work.buckets + length f ≤ most_terms → Sound (added cmp p f t)
    sound-added f c h =
        let r = G.adds cmp p O pos f t.work.buckets (omega (arith, h, room-six t.work.buckets a.six)) c a.good in
        record { good = r.good; six = r.count ∙ a.six; output-is = a.output-is }

    sound-taken : Sound (taken cmp p t)
    sound-taken =
        let bs = t.work.buckets in
        let s = search cmp p bs in
        let f = finds cmp p O pos bs (canon a) in
        record {
          good = shrunk-good cmp p 4 s.buckets bs f.short f.canon a.good;
          six = shrunk-long s.buckets bs f.short ∙ a.six;
          output-is = non_zero-append t.output (place_of s.answer ∷ []) ∙ ap₂ (λ (x y : List (Term ℕ)). x ++ y) a.output-is (placed s.answer s.buckets f.leads);
        }

    sound-summed : Sound (summed cmp p t)
    sound-summed =
        let bs = t.work.buckets in
        let f = full_sum cmp p bs in
        record {
          good = emptied-good cmp p 4 bs;
          six = emptied-long bs ∙ a.six;
          output-is =
              non_zero-append t.output (f ++ (term 0 0 ∷ []))
              ∙ ap₂ (λ (x y : List (Term ℕ)). x ++ y) a.output-is
              (non_zero-append f (term 0 0 ∷ []) ∙ (append-nil (non_zero f) ∙ non_zero-reduced p f (sum-right cmp p O pos bs (canon a)).0.reduced));
        }

  -- ---- Induction along a run of canonical polynomials, which is sound before each operation.
  module _ (O : TotalOrder ℕ cmp) (pos : 0 < p) (places : ℕ)
      (P : List Operation → Running → Running → Type 0)
      (ends : (t : Running) → Sound t → P [] t t)
      (Adds-on : (f : List (Term ℕ)) (os : List Operation) (t v : Running) → Sound t → Canonical cmp p f → held t.work.buckets + length f ≤ most_terms → P os (added cmp p f t) v → P (adds f ∷ os) t v)
      (leads-on : (os : List Operation) (t v : Running) → Sound t → P os (taken cmp p t) v → P (leads ∷ os) t v)
      (sums_on : (os : List Operation) (t v : Running) → Sound t → P os (summed cmp p t) v → P (sums ∷ os) t v)
      (stops : (r : ℕ) (o : Operation) (os : List Operation) (t : Running) → Sound t → P (o ∷ os) t (stopped r t)) where
    pub sound-along : (os : List Operation) → Polynomials cmp p (events_of os) → P os begun (operate_all cmp p places os begun)
    unfolding Polynomials
    sound-along os g =
        along cmp p places (λ os t v. Polynomials cmp p (events_of os) → Sound t → P os t v)
        (λ t z g a. ends t a)
        (λ f os t v h r g a. Adds-on f os t v a g.0 h (r g.1 (sound-added O pos a f g.0 h)))
        (λ f os t h g a. stops 11 (adds f) os t a)
        (λ os t v h r g a. leads-on os t v a (r g (sound-taken O pos a)))
        (λ os t h g a. stops 10 leads os t a)
        (λ os t v h r g a. sums_on os t v a (r g (sound-summed O pos a)))
        (λ os t h g a. stops 10 sums os t a)
        os begun refl g sound-begun

  pub sound : TotalOrder ℕ cmp → 0 < p → (places : ℕ) (os : List Operation) → Polynomials cmp p (events_of os) → Sound (operate_all cmp p places os begun)
  sound O pos places = sound-along O pos places (λ os t v. Sound v) (λ t a. a) (λ f os t v a c h r. r) (λ os t v a r. r) (λ os t v a r. r) (λ r o os t a. record { good = a.good; six = a.six; output-is = a.output-is })

-- ---- the operations of a run that passed its opening checks
-- the polynomial of an addition is there
pub one-there : (code k polynomials : ℕ) → operation_good code k polynomials ≡ true → code ≡ 1 → k < polynomials
unfolding operation_good
one-there code k polynomials h e = ltb-true k polynomials (ap (λ (b : Bool). O.operation_by b code k polynomials) (sym (eq-eqb code 1 e)) ∙ h)

module _ (words coefs starts : List ℕ) where
  named : (code k m : ℕ) → operation_good code k m ≡ true → Names words coefs starts code k (operation_of words coefs starts code k)
  unfolding operation_good
  named code k m good = by (eqb code 1) (eqb code 2) (eqb code 3) refl refl refl
    where
      by : (one two three : Bool) → eqb code 1 ≡ one → eqb code 2 ≡ two → eqb code 3 ≡ three → Names words coefs starts code k (operation_of words coefs starts code k)
      by true two three a b c = inl (eqb-true code 1 a, ap₂ (λ (x y : Bool). operation_by x y (polynomial words coefs starts k)) a b)
      by false true three a b c = inr (inl (eqb-true code 2 b, ap₂ (λ (x y : Bool). operation_by x y (polynomial words coefs starts k)) a b))
      by false false true a b c = inr (inr (eqb-true code 3 c, ap₂ (λ (x y : Bool). operation_by x y (polynomial words coefs starts k)) a b))
      by false false false a b c =
          let two-or-three = (and_both (eqb k 0) (eqb code 2 || eqb code 3) (ap (λ (x : Bool). O.operation_by x code k m) (sym a) ∙ good)).1 in
          absurd (true≢false (sym two-or-three ∙ ap₂ (λ (x y : Bool). x || y) b c))

  pub all_named : (ops : List ℕ) (m : ℕ) → operations_good ops m ≡ true → NameAll words coefs starts ops (operations_of words coefs starts ops)
  unfolding NameAll operations_of operations_good
  all_named [] m good = refl
  all_named (code ∷ []) m good = absurd (true≢false (sym good))
  all_named (code ∷ (k ∷ ops)) m good =
      let e = and_both (operation_good code k m) (operations_good ops m) good in
      (named code k m e.0, all_named ops m e.1)

-- P holds of each polynomial that the operations add
unfoldable pub EachAdded : (List (Term ℕ) → Type 0) → List Operation → Type 0
EachAdded P [] = Unit {0}
EachAdded P (adds f ∷ os) = P f × EachAdded P os
EachAdded P (leads ∷ os) = EachAdded P os
EachAdded P (sums ∷ os) = EachAdded P os

pub added-front : (P : List (Term ℕ) → Type 0) (xs ys : List Operation) → EachAdded P (xs ++ ys) → EachAdded P xs
unfolding EachAdded
added-front P [] ys g = tt
added-front P (adds f ∷ xs) ys g = (g.0, added-front P xs ys g.1)
added-front P (leads ∷ xs) ys g = added-front P xs ys g
added-front P (sums ∷ xs) ys g = added-front P xs ys g

pub added-both : (P : List (Term ℕ) → Type 0) (xs ys : List Operation) → EachAdded P xs → EachAdded P ys → EachAdded P (xs ++ ys)
unfolding EachAdded
added-both P [] ys g h = h
added-both P (adds f ∷ xs) ys g h = (g.0, added-both P xs ys g.1 h)
added-both P (leads ∷ xs) ys g h = added-both P xs ys g h
added-both P (sums ∷ xs) ys g h = added-both P xs ys g h

module _ (P : List (Term ℕ) → Type 0) (words coefs starts : List ℕ) where
  by_code : (code k : ℕ) (os : List Operation) → (code ≡ 1 → P (polynomial words coefs starts k)) → EachAdded P os → EachAdded P (operation_of words coefs starts code k ∷ os)
  unfolding EachAdded
  by_code code k os h g = by (eqb code 1) (eqb code 2) refl
    where
      by : (x y : Bool) → eqb code 1 ≡ x → EachAdded P (operation_by x y (polynomial words coefs starts k) ∷ os)
      by true y e = (h (eqb-true code 1 e), g)
      by false true e = g
      by false false e = g

  pub each-added : (ops : List ℕ) → operations_good ops (length starts - 1) ≡ true → ((k : ℕ) → k < length starts - 1 → P (polynomial words coefs starts k)) → EachAdded P (operations_of words coefs starts ops)
  unfolding EachAdded operations_of operations_good
  each-added [] h c = tt
  each-added (code ∷ []) h c = tt
  each-added (code ∷ (k ∷ ops)) h c =
      let e = and_both (operation_good code k (length starts - 1)) (operations_good ops (length starts - 1)) h in
      by_code code k (operations_of words coefs starts ops) (λ one. c k (one-there code k (length starts - 1) e.0 one)) (each-added ops e.1 c)

pub canonical-added : (cmp : ℕ → ℕ → Ordering) (p : ℕ) (os : List Operation) → EachAdded (Canonical cmp p) os → Polynomials cmp p (events_of os)
unfolding EachAdded Polynomials
canonical-added cmp p [] g = tt
canonical-added cmp p (adds f ∷ os) g = (g.0, canonical-added cmp p os g.1)
canonical-added cmp p (leads ∷ os) g = canonical-added cmp p os g
canonical-added cmp p (sums ∷ os) g = canonical-added cmp p os g

pub all-polynomials : (cmp : ℕ → ℕ → Ordering) (p : ℕ) (words coefs starts ops : List ℕ) → operations_good ops (length starts - 1) ≡ true → ((k : ℕ) → k < length starts - 1 → Canonical cmp p (polynomial words coefs starts k)) → Polynomials cmp p (events_of (operations_of words coefs starts ops))
all-polynomials cmp p words coefs starts ops h c = canonical-added cmp p (operations_of words coefs starts ops) (each-added (Canonical cmp p) words coefs starts ops h c)
