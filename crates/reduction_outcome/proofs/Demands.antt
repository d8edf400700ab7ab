-- The theorems on reductions that meet the customer's demands, about what a call leaves: the contract of `reduce` and `reduce_in_place` equates it with `reduction_outcome`. Polynomials are meant by exponents (`Meaning`). Assumes nothing.
use mathlib.Core.Path.{◌≡◌, refl, sym, ap, ◌∙◌, subst}
use mathlib.Core.List.{List, [], ◌∷◌, ◌++◌, map}
use Prim.Native.Nat.{ℕ, zero, suc, ◌+◌, ◌-◌, ◌*◌, ◌%◌, ◌<◌, ◌≤◌, Ordering}
use native.Mathlib.Nat.{le_trans}
use native.Mathlib.Omega.{arith}
use lib.ListN.{length, take, drop, replicate}
use Rattle.limits.specs.Limits.{most_terms, work_places}
use Rattle.monomial.specs.Exponents.{order_of, divides, quotient, compare_in}
use Rattle.monomial.specs.Layout.{exponents, Layout}
use Rattle.monomial.specs.Words.{compare_words, divides_word}
use Rattle.monomial.proofs.OrderLaws.{exponents-order}
use Rattle.polynomial.specs.Terms.{Term, terms, All, Under, Falling, Same, total, coef_at, Canonical}
use Rattle.polynomial.specs.Terms as T
use Rattle.polynomial.specs.declared.setting.Setting.{Setting}
use Rattle.geobucket.specs.Buckets.{empty, held}
use Rattle.geobucket.specs.Events.{Work, bound}
use Rattle.geobucket.proofs.SearchLaws.{Above}
use Rattle.geobucket.proofs.BoundLaws.{bound-monotone}
use Rattle.space.specs.Space.{LiesIn}
use Rattle.call.specs.declared.answer.Tally.{Tally}
use Rattle.call.specs.Places.{written_in, held_at}
use Rattle.call.specs.Demand3.{Demand3}
use Rattle.call.proofs.PlaceLaws.{non_zero-reduced, flat, flat-total, flat-held, held_back, terms-back, written_back, words-past, coefs-past}
use Rattle.geobucket.proofs.EventLaws.{total-append}
use Rattle.call.specs.Answers.{Stated, opening_refused, Outcome, returned}
use Rattle.call.specs.Lending.{polynomial, divisors_of}
use Rattle.call.proofs.OutcomeLaws.{decided-none, decided-refused, returned-lies}
use Rattle.opening.specs.Reduction.{reduction_refusal, ReductionOpened}
use Rattle.refusal.specs.Judgement.{Judged, OneOf}
use Rattle.refusal.proofs.JudgementLaws.{one-of, one-of-more}
use Rattle.opening.specs.ReductionJudgement.{reduction_conditions}
use Rattle.opening.proofs.WeightsJudged.{weights-range}
use Rattle.opening.proofs.ReductionLaws.{reduction-opened}
use Rattle.opening.proofs.ReductionJudgements.{reduction-judged}
use Rattle.opening.proofs.ListedLaws.{reduction-numbers}
use Rattle.division.specs.Choice.{chosen}
use Rattle.division.specs.Steps.{Reduction, over_word}
use Rattle.division.specs.Divisors.{Valid, AllOf, Undivided}
use Rattle.division.specs.Ending.{finished, at-limit, over, too_many, no_place, Ending, first-too-many, by-steps}
use Rattle.division.proofs.HeldTerms.{Every, above-every}
use Rattle.division.proofs.TailLaws.{all-zip}
use Rattle.division.proofs.WordOperations.{words-agree, valid-exponents, all-exponents}
use Rattle.division.proofs.Renaming.{under-renamed}
use Rattle.division.proofs.StateLaws.{all_append}
use Rattle.division.proofs.RenamedEndings.{OneList, renamed-long, renamed-all}
use Rattle.division.proofs.Endings.{begins-not, ending-once}
use Rattle.division.proofs.Reductions.{Given}
use Rattle.division.proofs.Reductions as R
use Rattle.division.proofs.ByExponents as X
use Rattle.reduction_outcome.specs.Outcome.{tally_of, ended, reduced_through, reduction_outcome}
use Rattle.reduction_outcome.specs.Meaning.{reduction_numbers, by_exponents, remainder_in, held_in, InVariables, over_exponents, dividend_in, divisors_in, leads_removed, work_on, DividesTo, Removes, SumWith, EndsWith}
use Rattle.reduction_outcome.proofs.OpenedLaws.{valid-polynomial, valid-divisors}

-- Demand 1: every call ends (its contract says so), with "a result, or a numbered refusal under its stated condition and no other". The opening: each number under its condition, where no earlier one holds.
pub demand-1-opening : (t : Setting) (words coefs ss : List ℕ) (limit bw bc ww wc ow oc : ℕ) → Judged (reduction_conditions t words coefs ss limit bw bc ww wc ow oc) (reduction_refusal t words coefs ss limit bw bc ww wc ow oc)
demand-1-opening = reduction-judged

-- ---- what the buckets hold, side by side
flat-are : (P : ℕ → Type 0) (bs : List (List (Term ℕ))) → Every P bs → All (λ t. P t.mono) (flat bs)
unfolding Every
flat-are P [] e = tt
flat-are P (b ∷ bs) e = all_append (λ t. P t.mono) b (flat bs) e.0 (flat-are P bs e.1)

module _ (tally : Tally) (t : Setting) (words coefs ss : List ℕ) (limit : ℕ) (bw bc ww wc ow oc : List ℕ) where
  -- what the call leaves
  abbrev pub outcome : Outcome
  outcome = reduction_outcome tally t words coefs ss limit bw bc ww wc ow oc

  -- the number that the opening checks give, 0 for none
  abbrev pub opening : ℕ
  opening = reduction_refusal t words coefs ss limit (length bw) (length bc) (length ww) (length wc) (length ow) (length oc)

  -- "A call refused in its opening checks changes no lent memory"
  pub demand-1-unchanged : (opening ≡ 0 → ⊥) → outcome ≡ record { answer = opening_refused opening; tally = tally; bw = bw; bc = bc; ww = ww; wc = wc; ow = ow; oc = oc }
  demand-1-unchanged ne = sym (decided-refused opening tally (ended (reduced_through t words coefs ss limit (length ow)) ow oc) bw bc ww wc ow oc ne (refl, refl))

  pub refused-number : {k : ℕ} → opening ≡ suc k → outcome.answer.number ≡ opening
  refused-number e = ap (λ (x : Outcome). x.answer.number) (demand-1-unchanged (λ z. let q : ⊥ = omega (arith, z, e) in q))

  -- so a call that answers 0 has passed them
  pub answered-opened : outcome.answer.number ≡ 0 → opening ≡ 0
  answered-opened z = by opening refl
    where
      by : (k : ℕ) → opening ≡ k → opening ≡ 0
      by zero e = e
      by (suc k) e = sym (refused-number e) ∙ z

  -- ---- polynomial 0 and the divisors, by exponents
  abbrev pub f : List (Term (List ℕ))
  f = dividend_in t words coefs ss

  abbrev pub gs : List (List (Term (List ℕ)))
  gs = divisors_in t words coefs ss

  -- what the reduction comes to, in words
  abbrev last : Reduction ℕ
  last = reduced_through t words coefs ss limit (length ow)

  -- the leads that it removes, in words
  abbrev pub leads : List (Term ℕ)
  leads = leads_removed t words coefs ss limit (length ow)

  -- ---- a call that no opening check refuses
  module _ (none : opening ≡ 0) where
    abbrev p : ℕ
    p = t.p

    abbrev order : ℕ
    order = t.order

    abbrev n : ℕ
    n = t.n

    abbrev weights : List ℕ
    weights = t.weights

    abbrev cmp : ℕ → ℕ → Ordering
    cmp = compare_words (order_of t.order)

    pub opened : ReductionOpened t words coefs ss limit (length bw) (length bc) (length ww) (length wc) (length ow) (length oc)
    opened = reduction-opened t words coefs ss limit (length bw) (length bc) (length ww) (length wc) (length ow) (length oc) none

    given : Given (order_of t.order) t.n t.weights t.p (divisors_of words coefs ss) (polynomial words coefs ss 0)
    given = record { few = opened.n-high; small = (weights-range t.n t.weights opened.weights).0; prime = opened.prime; divisors = valid-divisors opened; valid = valid-polynomial opened 0 opened.some }

    -- what they leave of polynomial 0 and the divisors, by exponents
    pub dividend-valid : Valid (compare_in (order_of t.order) t.weights) t.p (InVariables t) f
    dividend-valid = valid-exponents (order_of order) n weights opened.n-high given.small p (polynomial words coefs ss 0) given.valid

    pub divisors-valid : AllOf (Valid (compare_in (order_of t.order) t.weights) t.p (InVariables t)) gs
    divisors-valid = all-exponents (order_of order) n weights opened.n-high given.small p (divisors_of words coefs ss) given.divisors

    few : length f ≤ most_terms → length (polynomial words coefs ss 0) ≤ most_terms
    few h = omega (arith, h, renamed-long (exponents (order_of order) n) (λ w. Layout (order_of order) n weights w) (polynomial words coefs ss 0))

    -- ---- what lies in the outcome
    outcome-is : outcome ≡ ended last ow oc
    outcome-is = decided-none opening tally (ended last ow oc) bw bc ww wc ow oc none

    outcome-answer : outcome.answer ≡ record { number = last.stop; finished = last.leads; places = length last.remainder }
    outcome-answer = ap (λ (x : Outcome). x.answer) outcome-is

    written_is : terms (take outcome.answer.places outcome.ow) (take outcome.answer.places outcome.oc) ≡ last.remainder
    written_is = ap (λ (x : Outcome). terms (take x.answer.places x.ow) (take x.answer.places x.oc)) outcome-is ∙ terms-back last.remainder _ _

    remainder_is : remainder_in t outcome ≡ by_exponents t last.remainder
    remainder_is = ap (by_exponents t) written_is

    held-is : held_at outcome.bw outcome.bc ≡ flat last.work.buckets
    held-is = ap (λ (x : Outcome). held_at x.bw x.bc) outcome-is ∙ held_back cmp p 4 last.work.buckets (R.held-canon given (length ow) limit)

    held-as : OneList (compare_words (order_of t.order)) (λ w. Layout (order_of t.order) t.n t.weights w) last.work.buckets (held_at outcome.bw outcome.bc)
    held-as =
        let bs = last.work.buckets in
        subst (OneList cmp (λ w. Layout (order_of order) n weights w) bs) (sym held-is)
        (record { are = flat-are (λ w. Layout (order_of order) n weights w) bs (R.last-state given (length ow) limit).held-are; totals = λ m. flat-total cmp m bs; count = flat-held bs })

    -- what holds of the number, the leads and the remainder that the reduction comes to holds of those in the outcome
    of-outcome : (P : (number finished : ℕ) → List (Term (List ℕ)) → Type 0) → P last.stop last.leads (by_exponents t last.remainder) → P outcome.answer.number outcome.answer.finished (remainder_in t outcome)
    of-outcome P h = subst (λ (x : Stated). P x.number x.finished (remainder_in t outcome)) (sym outcome-answer) (subst (P last.stop last.leads) (sym remainder_is) h)

    -- and a number in the answer is the reduction's
    of-answer : {k : ℕ} → outcome.answer.number ≡ k → last.stop ≡ k
    of-answer e = sym (ap (λ (x : Stated). x.number) outcome-answer) ∙ e

    -- the words in the output, in the bucket space and of the leads are of the layout, so that their exponents determine them
    pub remainder-words : All (λ u. Layout (order_of t.order) t.n t.weights u.mono) (terms (take outcome.answer.places outcome.ow) (take outcome.answer.places outcome.oc))
    remainder-words = subst (λ (l : List (Term ℕ)). All (λ u. Layout (order_of order) n weights u.mono) l) (sym written_is) (R.last-state given (length ow) limit).out-gone.are

    pub held-words : All (λ u. Layout (order_of t.order) t.n t.weights u.mono) (held_at outcome.bw outcome.bc)
    held-words = held-as.are

    pub leads-words : All (λ u. Layout (order_of t.order) t.n t.weights u.mono) leads
    leads-words = (R.last-state given (length ow) limit).given-gone.are

    -- the answer has the number of places that the remainder takes, and "Output past the last place written is untouched"
    pub places_count : length (remainder_in t outcome) ≡ outcome.answer.places
    places_count = ap length remainder_is ∙ (renamed-long (exponents (order_of order) n) (λ w. Layout (order_of order) n weights w) last.remainder ∙ sym (ap (λ (x : Stated). x.places) outcome-answer))

    pub output-past : (drop outcome.answer.places outcome.ow ≡ drop outcome.answer.places ow) × (drop outcome.answer.places outcome.oc ≡ drop outcome.answer.places oc)
    output-past =
        subst (λ (x : Outcome). (drop x.answer.places x.ow ≡ drop x.answer.places ow) × (drop x.answer.places x.oc ≡ drop x.answer.places oc)) (sym outcome-is)
        (words-past last.remainder _, coefs-past last.remainder _)

    -- "The work space, 8,192 places for each, is all 0 at return."
    pub work-space-zero : (outcome.ww ≡ replicate work_places 0) × (outcome.wc ≡ replicate work_places 0)
    work-space-zero = (ap (λ (x : Outcome). x.ww) outcome-is, ap (λ (x : Outcome). x.wc) outcome-is)

    -- ---- Demand 1: it finishes, or a step is refused with 10 to 13, or polynomial 0 with 11, each under its condition. It bars a reduction that stops with 13 before the limit's leads are removed.
    pub demand-1-ending : EndsWith t gs outcome.answer.number f (length ow) limit outcome
    demand-1-ending =
        of-outcome (λ k l r. Ending (compare_in (order_of order) weights) (chosen divides gs) quotient (over_exponents t) p (length ow) limit k l f r (held_in t outcome ∷ []))
        (X.by-ending given (length ow) limit (held_at outcome.bw outcome.bc) held-as)

    -- "and no other"
    pub demand-1-only : (k : ℕ) → EndsWith t gs k f (length ow) limit outcome → outcome.answer.number ≡ k
    demand-1-only k e = ending-once (compare_in (order_of order) weights) (exponents-order (order_of order) weights) (chosen divides gs) quotient (over_exponents t) p (length ow) limit outcome.answer.number k outcome.answer.finished f (remainder_in t outcome) (held_in t outcome ∷ []) demand-1-ending e

    -- 11: "polynomial 0 itself is tested before the first step, leaving buckets, work space and tally all 0"
    pub demand-1-first : most_terms < length f → outcome ≡ returned (record { number = 11; finished = 0; places = 0 }) (record { comparisons = 0; brought = 0; given = 0; held = 0 }) empty [] ow oc
    unfolding held
    demand-1-first h =
        outcome-is
        ∙ ap (λ (x : Reduction ℕ). ended x ow oc) (begins-not cmp (chosen divides_word (divisors_of words coefs ss)) ◌-◌ ◌+◌ over_word p (length ow) limit (polynomial words coefs ss 0) (omega (arith, h, renamed-long (exponents (order_of order) n) (λ w. Layout (order_of order) n weights w) (polynomial words coefs ss 0))))

    -- 13 means that the division takes more steps than the limit
    pub demand-1-short : outcome.answer.number ≡ 13 → (k : ℕ) (s : List (Term (List ℕ))) → DividesTo t gs k f s → limit < k
    demand-1-short z = X.by-limit given (length ow) limit (of-answer z)

    -- ---- Demand 2: "A finished remainder is that of the division algorithm in its stated divisor order", and the leads removed are its steps. It bars an engine that always gives zero, and one that touches nothing.
    pub demand-2-division : outcome.answer.number ≡ 0 → DividesTo t gs outcome.answer.finished f (remainder_in t outcome)
    demand-2-division z = of-outcome (λ k l r. DividesTo t gs l f r) (X.by-division given (length ow) limit (of-answer z))

    -- and no other number and list are
    pub demand-2-only : outcome.answer.number ≡ 0 → (k : ℕ) (s : List (Term (List ℕ))) → DividesTo t gs k f s → (outcome.answer.finished ≡ k) × (remainder_in t outcome ≡ s)
    demand-2-only z k s d = of-outcome (λ j l r. (l ≡ k) × (r ≡ s)) (X.by-division-only given (length ow) limit (of-answer z) k s d)

    -- "Sums are those of polynomials over the integers modulo p": polynomial 0 is the remainder and a sum of multiples of divisors by monomials in n variables
    pub demand-2-remainder : outcome.answer.number ≡ 0 → SumWith t gs f (remainder_in t outcome)
    demand-2-remainder z = of-outcome (λ k l r. SumWith t gs f r) (X.by-remainder given (length ow) limit (of-answer z))

    -- The insurer's question, where "remainder zero means that the linkage closes": the answer 0 with no place written says that polynomial 0 is a sum of monomial multiples of the divisors, modulo p, and nothing more.
    pub demand-2-zero : outcome.answer.number ≡ 0 → outcome.answer.places ≡ 0 → SumWith t gs f []
    demand-2-zero z e = subst (λ (k : ℕ). SumWith t gs f (by_exponents t (terms (take k outcome.ow) (take k outcome.oc)))) e (demand-2-remainder z)

    -- of a stopped one, the remainder so far, what lies in the bucket space, and that
    pub demand-2-sum : length f ≤ most_terms → SumWith t gs f (remainder_in t outcome ++ held_in t outcome)
    demand-2-sum h = of-outcome (λ k l r. SumWith t gs f (r ++ held_in t outcome)) (X.by-sum given (length ow) limit (held_at outcome.bw outcome.bc) held-as (few h))

    -- what it holds has a canonical list
    pub held-canonical : (h : List (Term (List ℕ))) × Canonical (compare_in (order_of t.order) t.weights) t.p h × Same (compare_in (order_of t.order) t.weights) t.p h (held_in t outcome)
    held-canonical = X.held-canonical given (length ow) limit (held_at outcome.bw outcome.bc) held-as

    -- the canonical list h of what it holds, divided further, gives the steps and the remainder of polynomial 0
    pub demand-2-stopped : length f ≤ most_terms → (h : List (Term (List ℕ))) → Canonical (compare_in (order_of t.order) t.weights) t.p h → Same (compare_in (order_of t.order) t.weights) t.p h (held_in t outcome)
        → (k : ℕ) (s : List (Term (List ℕ))) → DividesTo t gs k h s → DividesTo t gs (outcome.answer.finished + k) f (remainder_in t outcome ++ s)
    demand-2-stopped l h c e k s d = of-outcome (λ j i r. DividesTo t gs (i + k) f (r ++ s)) (X.by-stopped given (length ow) limit (held_at outcome.bw outcome.bc) held-as (few l) h c e k s d)

    -- and where polynomial 0 is divided in k steps to s, a reduction, finished or stopped, has done the first of them, and its remainder so far is the beginning of s
    pub demand-2-beginning : length f ≤ most_terms → (k : ℕ) (s : List (Term (List ℕ))) → DividesTo t gs k f s → (i : ℕ) × (u : List (Term (List ℕ))) × (k ≡ outcome.answer.finished + i) × (s ≡ remainder_in t outcome ++ u)
    demand-2-beginning h k s d = of-outcome (λ j l r. (i : ℕ) × (u : List (Term (List ℕ))) × (k ≡ l + i) × (s ≡ r ++ u)) (X.by-beginning given (length ow) limit (few h) k s d)

    -- the remainder, finished or so far, is canonical, and no term of it is divisible by a divisor's lead
    pub remainder-canonical : Canonical (compare_in (order_of t.order) t.weights) t.p (remainder_in t outcome)
    remainder-canonical = of-outcome (λ k l r. Canonical (compare_in (order_of order) weights) p r) (X.remainder-canonical given (length ow) limit)

    pub remainder-irreducible : All (λ u. Undivided divides gs u.mono) (remainder_in t outcome)
    remainder-irreducible = of-outcome (λ k l r. All (λ u. Undivided divides gs u.mono) r) (X.remainder-irreducible given (length ow) limit)

    -- "Each lead is the largest term of the true sum under the chosen order": the leads removed are those of the division, one by one, and no others; they fall strictly, and the answer has their number
    pub leads-are : Removes t gs outcome.answer.finished f (by_exponents t leads)
    leads-are = of-outcome (λ k l r. Removes t gs l f (by_exponents t leads)) (X.leads-are given (length ow) limit)

    pub leads-only : (ls : List (Term (List ℕ))) → Removes t gs outcome.answer.finished f ls → ls ≡ by_exponents t leads
    leads-only = of-outcome (λ k l r. (ls : List (Term (List ℕ))) → Removes t gs l f ls → ls ≡ by_exponents t leads) (X.leads-only given (length ow) limit)

    pub leads-fall : Falling (compare_in (order_of t.order) t.weights) (by_exponents t leads)
    leads-fall = X.leads-fall given (length ow) limit

    -- each of them is larger than all that is still held, so that a further lead is below them too
    pub leads-over : All (λ u. Under (compare_in (order_of t.order) t.weights) u.mono (held_in t outcome)) (by_exponents t leads)
    leads-over =
        let E = exponents (order_of order) n in
        let Is : ℕ → Type 0 = λ w. Layout (order_of order) n weights w in
        let bs = last.work.buckets in
        let gone = (R.last-state given (length ow) limit).given-gone in
        renamed-all E Is (λ u. Layout (order_of order) n weights u.mono × Under cmp u.mono (held_at outcome.bw outcome.bc)) (λ u. Under (compare_in (order_of order) weights) u.mono (held_in t outcome))
        (λ u h. under-renamed E Is cmp (compare_in (order_of order) weights) (words-agree (order_of order) n weights opened.n-high given.small).compares u.mono h.0 (held_at outcome.bw outcome.bc) held-words h.1) leads
        (all-zip {P = λ u. Layout (order_of order) n weights u.mono} {Q = λ u. Above cmp p u.mono bs} {R = λ u. Layout (order_of order) n weights u.mono × Under cmp u.mono (held_at outcome.bw outcome.bc)}
        (λ u l a. (l, subst (Under cmp u.mono) (sym held-is) (flat-are (λ w. cmp u.mono w ≡ Ordering.gt) bs (above-every cmp p u.mono bs a)))) leads leads-words gone.over)

    pub leads-count : length (by_exponents t leads) ≡ outcome.answer.finished
    leads-count = of-outcome (λ k l r. length (by_exponents t leads) ≡ l) (X.leads-count given (length ow) limit)

    -- ---- Demand 3, "alike for the additions and leads of every reduction, finished or stopped": polynomial 0 is added, each lead is found and removed, each tail added, and the last lead, or zero, is found. It bars an engine whose tally is invented.
    abbrev pub work : Work ℕ
    work = work_on t words coefs ss leads

    demand-3-events : last.work ≡ work
    demand-3-events = R.demand-3-events given (length ow) limit

    -- "bucket i starts at place (4^i − 4)/3": each bucket held lies there in the bucket space, and 0 past it
    pub buckets-lie : LiesIn (map T.words work.buckets) outcome.bw × LiesIn (map T.coefs work.buckets) outcome.bc
    buckets-lie =
        let l = R.last-state given (length ow) limit in
        subst (λ (w : Work ℕ). LiesIn (map T.words w.buckets) outcome.bw × LiesIn (map T.coefs w.buckets) outcome.bc) demand-3-events
        (subst (λ (x : Outcome). LiesIn (map T.words last.work.buckets) x.bw × LiesIn (map T.coefs last.work.buckets) x.bc) (sym outcome-is)
        (returned-lies cmp p outcome.answer outcome.tally last.work.buckets last.remainder ow oc l.held-six l.held-good))

    tally-is : outcome.tally ≡ tally_of last
    tally-is = ap (λ (x : Outcome). x.tally) outcome-is

    -- "The monomial comparisons counted are exactly those that the published merge and search make on that list, one by one."
    pub demand-3-count : outcome.tally.comparisons ≡ length work.pairs
    demand-3-count = ap (λ (x : Tally). x.comparisons) tally-is ∙ ap (λ (w : Work ℕ). length w.pairs) demand-3-events

    -- "N is the number of terms that the accepted additions brought in"
    pub demand-3-brought : outcome.tally.brought ≡ length work.brought
    demand-3-brought = ap (λ (x : Tally). x.brought) tally-is ∙ ap (λ (w : Work ℕ). length w.brought) demand-3-events

    -- "terms given out counts the remainder": the terms that lie in the output
    pub demand-3-given : outcome.tally.given ≡ length (written_in outcome.answer.places outcome.ow outcome.oc)
    demand-3-given =
        ap (λ (x : Tally). x.given) tally-is
        ∙ ap length
        (sym
        (ap (λ (x : Outcome). written_in x.answer.places x.ow x.oc) outcome-is
        ∙ (written_back last.remainder _ _ ∙ non_zero-reduced p last.remainder (R.remainder-canonical given (length ow) limit).reduced)))

    -- "held are the terms in the bucket space at return"
    pub demand-3-held : outcome.tally.held ≡ length (held_at outcome.bw outcome.bc)
    demand-3-held = ap (λ (x : Tally). x.held) tally-is ∙ (sym (flat-held last.work.buckets) ∙ ap length (sym held-is))

    -- "They are at most 6·N·M"
    pub demand-3-bound : outcome.tally.comparisons ≤ bound outcome.tally.brought
    demand-3-bound = subst (λ (t : Tally). t.comparisons ≤ bound t.brought) (sym tally-is) (R.demand-3-bound given (length ow) limit)

    -- "as polynomials modulo p, terms given out + terms still held = terms brought in"; "every lead that a step removes is a term the geobucket gives out, whether it is divided or goes to the remainder"
    pub demand-3-kept : (m : ℕ) → coef_at (compare_words (order_of t.order)) t.p m (leads ++ held_at outcome.bw outcome.bc) ≡ coef_at (compare_words (order_of t.order)) t.p m work.brought
    demand-3-kept m =
        ap (λ (y : List (Term ℕ)). coef_at cmp p m (leads ++ y)) held-is
        ∙ (ap (λ (k : ℕ). k % p) (total-append cmp m leads (flat last.work.buckets) ∙ ap (λ (k : ℕ). total cmp m leads + k) (flat-total cmp m last.work.buckets))
        ∙ (R.demand-3-kept given (length ow) limit m ∙ ap (λ (w : Work ℕ). total cmp m w.brought % p) demand-3-events))

    -- Demand 3 as "a single claim about the whole list": of what lies in the tally, in the output and in the bucket space at return. Given out are the leads removed; the tally counts the remainder.
    pub demand-3 : Demand3 (compare_words (order_of t.order)) t.p work.pairs work.brought leads (written_in outcome.answer.places outcome.ow outcome.oc) (held_at outcome.bw outcome.bc) (bound outcome.tally.brought) outcome.tally
    demand-3 = record { comparisons-are = demand-3-count; at_most = demand-3-bound; brought-are = demand-3-brought; given-are = demand-3-given; held-are = demand-3-held; conserved = demand-3-kept }

    -- "how much work can one design force out of it?" The price is known before the call: each of the leads, and polynomial 0, brings in 4,096 terms at most.
    pub demand-3-price : outcome.tally.comparisons ≤ bound (most_terms * (limit + 1))
    demand-3-price =
        let l = R.last-state given (length ow) limit in
        le_trans demand-3-bound (bound-monotone outcome.tally.brought (most_terms * (limit + 1)) (omega (arith, ap (λ (x : Tally). x.brought) tally-is, l.brought-few, l.leads-few)))

  -- ---- Demand 1: which numbers can come at all
  numbers-past : (k l : ℕ) (r : List (Term (List ℕ))) (bs : List (List (Term (List ℕ)))) → Ending (compare_in (order_of t.order) t.weights) (chosen divides gs) quotient (over_exponents t) t.p (length ow) limit k l f r bs → OneOf reduction_numbers k
  numbers-past k l r bs (first-too-many e h a b c) = one-of reduction_numbers 11 k refl e
  numbers-past k l r bs (by-steps h (finished e a b c)) = one-of reduction_numbers 0 k refl e
  numbers-past k l r bs (by-steps h (at-limit u e a b)) = one-of reduction_numbers 13 k refl e
  numbers-past k l r bs (by-steps h (over u j g tail e a b c d)) = one-of reduction_numbers 12 k refl e
  numbers-past k l r bs (by-steps h (too_many u j g tail e a b c d i)) = one-of reduction_numbers 11 k refl e
  numbers-past k l r bs (by-steps h (no_place u e a b c d)) = one-of reduction_numbers 10 k refl e

  pub demand-1-numbers : OneOf reduction_numbers outcome.answer.number
  demand-1-numbers = by opening refl
    where
      by : (k : ℕ) → opening ≡ k → OneOf reduction_numbers outcome.answer.number
      by zero e = numbers-past _ _ _ _ (demand-1-ending e)
      by (suc k) e =
          subst (OneOf reduction_numbers) (sym (refused-number e))
          (one-of-more (0 ∷ 1 ∷ 2 ∷ 3 ∷ 4 ∷ 5 ∷ 6 ∷ 7 ∷ 8 ∷ 24 ∷ []) (10 ∷ 11 ∷ 12 ∷ 13 ∷ []) opening (reduction-numbers t words coefs ss limit (length bw) (length bc) (length ww) (length wc) (length ow) (length oc)))

-- "What either held before is not read": two calls that differ only in the contents of bucket space, work space and tally have the same outcome past the opening.
pub not-read : (tally tally' : Tally) (t : Setting) (words coefs ss : List ℕ) (limit : ℕ) (bw bc ww wc bw' bc' ww' wc' ow oc : List ℕ) → length bw' ≡ length bw → length bc' ≡ length bc → length ww' ≡ length ww → length wc' ≡ length wc
    → reduction_refusal t words coefs ss limit (length bw) (length bc) (length ww) (length wc) (length ow) (length oc) ≡ 0 → reduction_outcome tally' t words coefs ss limit bw' bc' ww' wc' ow oc ≡ reduction_outcome tally t words coefs ss limit bw bc ww wc ow oc
not-read tally tally' t words coefs ss limit bw bc ww wc bw' bc' ww' wc' ow oc eb ec ew ed none =
    let again : reduction_refusal t words coefs ss limit (length bw') (length bc') (length ww') (length wc') (length ow) (length oc) ≡ 0 = rw (eb, ec, ew, ed) none in
    outcome-is tally' t words coefs ss limit bw' bc' ww' wc' ow oc again ∙ sym (outcome-is tally t words coefs ss limit bw bc ww wc ow oc none)
