-- The theorems on reductions of words, whose polynomials have passed the opening checks: how they end, what they leave, their leads, and their comparisons. `ByExponents` has what they mean. Assumes nothing.
use mathlib.Core.Path.{◌≡◌, refl, subst}
use mathlib.Core.List.{List, [], ◌++◌, append-nil}
use Prim.Native.Nat.{ℕ, ◌+◌, ◌-◌, ◌%◌, ◌^◌, ◌<◌, ◌≤◌, Ordering}
use native.Mathlib.Omega.{arith}
use lib.ListN.{length}
use Rattle.limits.specs.Limits.{most_steps, most_terms}
use Rattle.residue.specs.Prime.{Prime}
use Rattle.monomial.specs.declared.order.Order.{Order}
use Rattle.monomial.specs.Layout.{Below, Layout}
use Rattle.monomial.specs.Words.{compare_words, divides_word}
use Rattle.monomial.proofs.OrderLaws.{words-order}
use Rattle.polynomial.specs.Terms.{Term, All, Falling, total, Canonical}
use Rattle.polynomial.proofs.MergeLaws.{all_map}
use Rattle.geobucket.specs.Buckets.{total_in, full_sum, Canon}
use Rattle.geobucket.specs.Events.{start, perform, bound}
use Rattle.geobucket.proofs.EventLaws.{good-canon}
use Rattle.division.specs.Choice.{Fit, unfit, Choice, chosen}
use Rattle.division.specs.Division.{Division}
use Rattle.division.specs.Steps.{Reduction, over_word, reduction_of_words}
use Rattle.division.specs.Divisors.{Valid, AllOf, Undivided}
use Rattle.division.specs.Ending.{Ending}
use Rattle.division.specs.Demanded.{reduction_events}
use Rattle.division.specs.Combination.{Combination, LeadsOf}
use Rattle.division.proofs.DivisionLaws.{division-unique}
use Rattle.division.proofs.FitLaws.{Sound, choice-sound, chosen-choice}
use Rattle.division.proofs.WordOperations.{word-operations}
use Rattle.division.proofs.Endings.{by_first, ending}
use Rattle.division.proofs.Lasts.{Last, last}
use Rattle.division.proofs.Performing.{reduction-performs, reduction-bound, reduction-kept}
use Rattle.division.proofs.Dividing.{reduction-follows, finished-follows}
use Rattle.division.proofs.Combining.{combination-none, combination-kept, combination-divided}
use Rattle.division.proofs.AnyDivision.{division-none, division-kept, division-divided, leads-none, leads-kept, leads-divided}

-- what the opening checks leave of the polynomial f and the divisors gs
pub record Given (o : Order) (n : ℕ) (vs : List ℕ) (p : ℕ) (gs : List (List (Term ℕ))) (f : List (Term ℕ)) : Type 0 where
  pub few : n ≤ 6
  pub small : Below 17 vs
  pub prime : Prime p
  pub divisors : AllOf (Valid (compare_words o) p (λ w. Layout o n vs w)) gs
  pub valid : Valid (compare_words o) p (λ w. Layout o n vs w) f

module _ {o : Order} {n : ℕ} {vs : List ℕ} {p : ℕ} {gs : List (List (Term ℕ))} {f : List (Term ℕ)} (given : Given o n vs p gs f) (places limit : ℕ) where
  abbrev pub cmp : ℕ → ℕ → Ordering
  cmp = compare_words o

  abbrev pub Is : ℕ → Type 0
  Is w = Layout o n vs w

  -- the reduction of f by gs
  abbrev pub reduced : Reduction ℕ
  reduced = reduction_of_words o p gs places limit f

  -- the divisor that document 01 takes
  abbrev pub choose : ℕ → Fit ℕ
  choose = chosen divides_word gs

  choice : Choice divides_word gs (chosen divides_word gs)
  choice = chosen-choice divides_word gs

  sound : Sound cmp p Is divides_word choose
  sound = choice-sound cmp p Is divides_word gs given.divisors choose choice

  pos : 0 < p
  pos = omega (arith, given.prime.above)

  -- ---- Demand 1: "a result, or a numbered refusal under its stated condition and no other". It bars a reduction that stops with 13 before the limit's leads are removed.
  pub demand-1-ending : Ending cmp choose ◌-◌ over_word p places limit reduced.stop reduced.leads f reduced.remainder reduced.work.buckets
  demand-1-ending = ending cmp (words-order o) divides_word ◌-◌ ◌+◌ over_word Is (word-operations o n vs given.few given.small) p given.prime choose sound places limit f given.valid

  -- ---- Demand 2: "A finished remainder is that of the division algorithm in its stated divisor order", and the leads removed are its steps
  pub demand-2-division : reduced.stop ≡ 0 → Division cmp choose ◌-◌ ◌+◌ p reduced.leads f reduced.remainder
  demand-2-division z =
      finished-follows cmp (words-order o) divides_word ◌-◌ ◌+◌ over_word Is (word-operations o n vs given.few given.small) p given.prime choose sound places (λ k g r ls. Division cmp choose ◌-◌ ◌+◌ p k g r)
      (λ k t ts s ks i e d. division-kept cmp choose ◌-◌ ◌+◌ p k t ts s e d)
      (λ k t ts s ks g tail h a d. division-divided cmp choose ◌-◌ ◌+◌ p k t ts s a.number g tail h a.fit a.sum d)
      limit f given.valid (division-none cmp choose ◌-◌ ◌+◌ p) z

  -- and no other number and list are
  pub demand-2-only : reduced.stop ≡ 0 → (k : ℕ) (s : List (Term ℕ)) → Division cmp choose ◌-◌ ◌+◌ p k f s → (reduced.leads ≡ k) × (reduced.remainder ≡ s)
  demand-2-only z k s d = division-unique cmp (words-order o) choose ◌-◌ ◌+◌ p pos reduced.leads k f reduced.remainder s (demand-2-division z) d

  -- what a stopped reduction leaves, divided further, gives the remainder and the steps of f
  pub demand-2-stopped : length f ≤ most_terms → (k : ℕ) (s : List (Term ℕ)) → Division cmp choose ◌-◌ ◌+◌ p k (full_sum cmp p reduced.work.buckets) s
      → Division cmp choose ◌-◌ ◌+◌ p (reduced.leads + k) f (reduced.remainder ++ s)
  demand-2-stopped h k s d =
      reduction-follows cmp (words-order o) divides_word ◌-◌ ◌+◌ over_word Is (word-operations o n vs given.few given.small) p given.prime choose sound places (λ k g r ls. Division cmp choose ◌-◌ ◌+◌ p k g r)
      (λ k t ts s ks i e d. division-kept cmp choose ◌-◌ ◌+◌ p k t ts s e d)
      (λ k t ts s ks g tail h a d. division-divided cmp choose ◌-◌ ◌+◌ p k t ts s a.number g tail h a.fit a.sum d)
      limit f given.valid h k s [] d

  -- the polynomial is the remainder, what the buckets still hold, and a sum of multiples of divisors
  pub demand-2-sum : length f ≤ most_terms → Combination cmp ◌+◌ Is p gs f (reduced.remainder ++ full_sum cmp p reduced.work.buckets)
  demand-2-sum h =
      reduction-follows cmp (words-order o) divides_word ◌-◌ ◌+◌ over_word Is (word-operations o n vs given.few given.small) p given.prime choose sound places (λ k g r ls. Combination cmp ◌+◌ Is p gs g r)
      (λ k t ts s ks i e c. combination-kept cmp ◌+◌ Is p gs t ts s c)
      (λ k t ts s ks g tail h a c. combination-divided cmp ◌+◌ Is p gs divides_word ◌-◌ over_word (word-operations o n vs given.few given.small) given.prime given.divisors choose choice t ts g tail h a s c)
      limit f given.valid h 0 _ [] (combination-none cmp ◌+◌ Is p gs _)

  -- of a finished one, the remainder and that
  pub demand-2-remainder : reduced.stop ≡ 0 → Combination cmp ◌+◌ Is p gs f reduced.remainder
  demand-2-remainder z =
      finished-follows cmp (words-order o) divides_word ◌-◌ ◌+◌ over_word Is (word-operations o n vs given.few given.small) p given.prime choose sound places (λ k g r ls. Combination cmp ◌+◌ Is p gs g r)
      (λ k t ts s ks i e c. combination-kept cmp ◌+◌ Is p gs t ts s c)
      (λ k t ts s ks g tail h a c. combination-divided cmp ◌+◌ Is p gs divides_word ◌-◌ over_word (word-operations o n vs given.few given.small) given.prime given.divisors choose choice t ts g tail h a s c)
      limit f given.valid (combination-none cmp ◌+◌ Is p gs []) z

  -- what holds of the last state, finished or stopped
  pub last-state : Last cmp p Is choose places limit reduced
  last-state = last cmp (words-order o) divides_word ◌-◌ ◌+◌ over_word Is (word-operations o n vs given.few given.small) p given.prime choose sound places limit f given.valid

  -- the buckets at return are canonical
  pub held-canon : Canon cmp p reduced.work.buckets
  held-canon = good-canon cmp p 4 reduced.work.buckets last-state.held-good

  -- the remainder so far is canonical, and no term of it is divisible by a divisor's lead
  pub remainder-canonical : Canonical cmp p reduced.remainder
  remainder-canonical = last-state.out-gone.canonical

  pub remainder-irreducible : All (λ u. Undivided divides_word gs u.mono) reduced.remainder
  remainder-irreducible =
      all_map {P = λ u. choose u.mono ≡ unfit} {Q = λ u. Undivided divides_word gs u.mono} (λ u e. choice.none u.mono e) reduced.remainder last-state.out-unfit

  -- ---- the leads that the reduction removes are what its geobucket gives out: those of the division, and they fall strictly
  pub leads-are : LeadsOf cmp choose ◌-◌ ◌+◌ p reduced.leads f reduced.work.given
  leads-are =
      by_first cmp choose ◌-◌ ◌+◌ over_word p places limit f (λ x. x ≡ reduced → LeadsOf cmp choose ◌-◌ ◌+◌ p reduced.leads f reduced.work.given)
      (λ h e. subst (λ (x : Reduction ℕ). LeadsOf cmp choose ◌-◌ ◌+◌ p x.leads f x.work.given) e (leads-none cmp choose ◌-◌ ◌+◌ p f))
      (λ h e. few-leads h)
      refl
    where
      few-leads : length f ≤ most_terms → LeadsOf cmp choose ◌-◌ ◌+◌ p reduced.leads f reduced.work.given
      few-leads h =
          subst (λ (k : ℕ). LeadsOf cmp choose ◌-◌ ◌+◌ p k f reduced.work.given) (let i : reduced.leads + 0 ≡ reduced.leads = omega arith in i)
          (subst (λ (l : List (Term ℕ)). LeadsOf cmp choose ◌-◌ ◌+◌ p (reduced.leads + 0) f l) (append-nil reduced.work.given)
          (reduction-follows cmp (words-order o) divides_word ◌-◌ ◌+◌ over_word Is (word-operations o n vs given.few given.small) p given.prime choose sound places (λ k g r ls. LeadsOf cmp choose ◌-◌ ◌+◌ p k g ls)
          (λ k t ts s ks i e d. leads-kept cmp choose ◌-◌ ◌+◌ p k t ts ks e d)
          (λ k t ts s ks g tail h a d. leads-divided cmp choose ◌-◌ ◌+◌ p k t ts ks a.number g tail h a.fit a.sum d)
          limit f given.valid h 0 [] [] (leads-none cmp choose ◌-◌ ◌+◌ p _)))

  pub leads-fall : Falling cmp reduced.work.given
  leads-fall = last-state.given-gone.canonical.falling

  pub leads-count : length reduced.work.given ≡ reduced.leads
  leads-count = last-state.given-count

  -- ---- Demand 3, finished or stopped
  -- "The monomial comparisons counted are exactly those that the published merge and search make on that list, one by one": the work is that of the events, from the empty geobucket
  pub demand-3-events : reduced.work ≡ perform cmp p (reduction_events choose ◌-◌ ◌+◌ p f reduced.work.given) start
  demand-3-events = reduction-performs cmp (words-order o) divides_word ◌-◌ ◌+◌ over_word Is (word-operations o n vs given.few given.small) p given.prime choose sound places limit f given.valid

  -- "They are at most 6·N·M"
  pub demand-3-bound : length reduced.work.pairs ≤ bound (length reduced.work.brought)
  demand-3-bound = reduction-bound cmp (words-order o) divides_word ◌-◌ ◌+◌ over_word Is (word-operations o n vs given.few given.small) p given.prime choose sound places limit f given.valid

  -- "as polynomials modulo p, terms given out + terms still held = terms brought in"
  pub demand-3-kept : (m : ℕ) → (total cmp m reduced.work.given + total_in cmp m reduced.work.buckets) % p ≡ total cmp m reduced.work.brought % p
  demand-3-kept m = reduction-kept cmp (words-order o) divides_word ◌-◌ ◌+◌ over_word Is (word-operations o n vs given.few given.small) p given.prime choose sound places limit f given.valid m

  -- the counts fit in 64 bits, with the largest limit that the opening checks pass
  pub counts-fit : limit ≤ most_steps → (length reduced.work.pairs < 2 ^ 61) × (length reduced.work.brought < 2 ^ 56)
  counts-fit h = (omega (arith, last-state.pairs-few, last-state.brought-few, last-state.leads-few), omega (arith, last-state.brought-few, last-state.leads-few))
