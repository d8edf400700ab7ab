-- The customer's demands, for runs: what holds of every call of `run`, by its defined outcome (`run_outcome`), with which its contract equates what it answers and leaves. Assumes nothing.
use mathlib.Core.Path.{◌≡◌, refl, sym, ap, ap₂, ◌∙◌, subst}
use mathlib.Core.List.{List, [], ◌∷◌, ◌++◌, map}
use mathlib.Core.Logic.{inl}
use Prim.Native.Nat.{ℕ, zero, suc, ◌+◌, ◌-◌, ◌%◌, ◌<◌, ◌≤◌, Ordering}
use native.Mathlib.Omega.{arith}
use lib.ListN.{length, take, drop, replicate, take-append-drop, length-map}
use lib.Seq.{take_at}
use Rattle.limits.specs.Limits.{work_places}
use Rattle.refusal.specs.Judgement.{Judged, OneOf}
use Rattle.refusal.proofs.JudgementLaws.{one-of, one-of-more}
use Rattle.monomial.specs.Exponents.{order_of}
use Rattle.monomial.specs.Words.{compare_words}
use Rattle.monomial.specs.TotalOrder.{TotalOrder}
use Rattle.monomial.proofs.OrderLaws.{words-order}
use Rattle.polynomial.specs.Terms.{Term, term, terms, total, coef_at, Canonical}
use Rattle.polynomial.specs.Terms as T
use Rattle.polynomial.specs.declared.setting.Setting.{Setting}
use Rattle.polynomial.proofs.OpeningLaws.{passes}
use Rattle.polynomial.proofs.TermLists.{terms-of}
use Rattle.geobucket.specs.Buckets.{total_in}
use Rattle.geobucket.specs.Events.{Work, start, perform, bound, Polynomials}
use Rattle.geobucket.proofs.BoundLaws.{bound-monotone}
use Rattle.geobucket.proofs.EventLaws.{total-append, events-bound, events-kept}
use Rattle.space.specs.Space.{laid_out, LiesIn}
use Rattle.call.specs.declared.answer.Tally.{Tally}
use Rattle.call.specs.Answers.{Stated, Outcome}
use Rattle.call.specs.Places.{non_zero, written_in, held_at}
use Rattle.call.specs.Demand3.{Demand3}
use Rattle.call.proofs.OutcomeLaws.{decided-none, decided-refused, returned-lies}
use Rattle.call.proofs.PlaceLaws.{flat, flat-total, flat-held, held_back}
use Rattle.opening.specs.Run.{Opened, run_refusal}
use Rattle.opening.specs.Judgement.{run_conditions}
use Rattle.opening.proofs.Judgements.{judged}
use Rattle.opening.proofs.ListedLaws.{run-numbers}
use Rattle.opening.proofs.WeightsJudged.{weights-range}
use Rattle.opening.proofs.RunLaws.{opened}
use Rattle.run_outcome.specs.Runs.{Operation, adds, leads, sums, Running, begun, operations_of}
use Rattle.run_outcome.specs.Outcome.{answer_of, ended, ran_through, run_outcome}
use Rattle.run_outcome.specs.Demanded.{NameAll, events_of, terms_named}
use Rattle.run_outcome.specs.Ending.{number_for, run_numbers, after, Ending, all_done, refused}
use Rattle.run_outcome.specs.GivenOut.{brought_by, true_sum, GivenOut, LeadAt, SumAt}
use Rattle.run_outcome.proofs.Follow.{all_named, EachAdded, each-added, added-front, canonical-added, Sound, sound, canon}
use Rattle.run_outcome.proofs.Endings.{Ran, ran, work-is, brought-are, named-first, output-fits, ending, ending-only}
use Rattle.run_outcome.proofs.GivingOut.{Valid, gives-out}
use Rattle.run_outcome.proofs.GivenLaws.{lead-at, sum-at, lead_zero, zero-lead, given-only}

-- Demand 1: every call ends (its contract says so), with "a result, or a numbered refusal under its stated condition and no other". The opening: each number under its condition, where no earlier one holds.
pub demand-1-opening : (t : Setting) (words coefs ss ops : List ℕ) (bw bc ww wc ow oc : ℕ) → Judged (run_conditions t words coefs ss ops bw bc ww wc ow oc) (run_refusal t words coefs ss ops bw bc ww wc ow oc)
demand-1-opening = judged

-- a run that passes its opening checks has the outcome of its last state
pub outcome-is : (tally : Tally) (t : Setting) (words coefs ss ops bw bc ww wc ow oc : List ℕ) → run_refusal t words coefs ss ops (length bw) (length bc) (length ww) (length wc) (length ow) (length oc) ≡ 0 → run_outcome tally t words coefs ss ops bw bc ww wc ow oc ≡ ended (ran_through t words coefs ss ops (length ow)) ow oc
outcome-is tally t words coefs ss ops bw bc ww wc ow oc e = decided-none _ tally (ended (ran_through t words coefs ss ops (length ow)) ow oc) bw bc ww wc ow oc e

-- the terms in the first places of an output are those written there
pub written_back : (ts : List (Term ℕ)) (rw rc : List ℕ) → terms (take (length ts) (T.words ts ++ rw)) (take (length ts) (T.coefs ts ++ rc)) ≡ ts
written_back ts rw rc = ap₂ terms (take_at (T.words ts) rw (length ts) (length-map ts (λ t. t.mono))) (take_at (T.coefs ts) rc (length ts) (length-map ts (λ t. t.coef))) ∙ terms-of ts

module _ (tally : Tally) (t : Setting) (words coefs ss ops bw bc ww wc ow oc : List ℕ) where
  abbrev p : ℕ
  p = t.p

  abbrev order : ℕ
  order = t.order

  abbrev n : ℕ
  n = t.n

  abbrev weights : List ℕ
  weights = t.weights

  abbrev cmp : ℕ → ℕ → Ordering
  cmp = compare_words (order_of t.order)

  -- what the call leaves
  abbrev pub outcome : Outcome
  outcome = run_outcome tally t words coefs ss ops bw bc ww wc ow oc

  -- the number that the opening checks give, 0 for none
  abbrev pub opening : ℕ
  opening = run_refusal t words coefs ss ops (length bw) (length bc) (length ww) (length wc) (length ow) (length oc)

  -- the operations that the call asks for
  abbrev pub operations : List Operation
  operations = operations_of words coefs ss ops

  -- those that the answer counts as finished
  abbrev pub done : List Operation
  done = take outcome.answer.finished operations

  -- what the published merge and search make of them, from an empty geobucket
  abbrev pub work : Work ℕ
  work = perform cmp p (events_of done) start

  -- the terms in the places that the answer counts as written
  abbrev pub written : List (Term ℕ)
  written = terms (take outcome.answer.places outcome.ow) (take outcome.answer.places outcome.oc)

  -- "A call refused in its opening checks changes no lent memory"
  pub demand-1-unchanged : (opening ≡ 0 → ⊥) → outcome ≡ record { answer = record { number = opening; finished = 0; places = 0 }; tally = tally; bw = bw; bc = bc; ww = ww; wc = wc; ow = ow; oc = oc }
  demand-1-unchanged ne = sym (decided-refused opening tally (ended (ran_through t words coefs ss ops (length ow)) ow oc) bw bc ww wc ow oc ne (refl, refl))

  module _ (passed : opening ≡ 0) where
    abbrev last : Running
    last = ran_through t words coefs ss ops (length ow)

    is : outcome ≡ ended last ow oc
    is = outcome-is tally t words coefs ss ops bw bc ww wc ow oc passed

    O : TotalOrder ℕ cmp
    O = words-order (order_of order)

    open-run : Opened t words coefs ss ops (length bw) (length bc) (length ww) (length wc) (length ow) (length oc)
    open-run = opened t words coefs ss ops (length bw) (length bc) (length ww) (length wc) (length ow) (length oc) passed

    pos : 0 < p
    pos = omega (arith, open-run.prime.above)

    valid : EachAdded (Valid (order_of order) n weights p) operations
    valid = each-added (Valid (order_of order) n weights p) words coefs ss ops open-run.operations (λ k h. passes (order_of order) n weights p _ (open-run.polynomials k (omega arith)))

    canonical : EachAdded (Canonical cmp p) operations
    canonical = each-added (Canonical cmp p) words coefs ss ops open-run.operations (λ k h. (passes (order_of order) n weights p _ (open-run.polynomials k (omega arith))).0)

    -- what holds of each polynomial that the operations add holds of those that are done
    of-done : (P : List (Term ℕ) → Type 0) → EachAdded P operations → EachAdded P done
    of-done P h = added-front P done (drop outcome.answer.finished operations) (subst (EachAdded P) (sym (take-append-drop outcome.answer.finished operations)) h)

    it : Ran cmp p (length ow) operations
    it = ran cmp p (length ow) operations

    done-are : done ≡ it.done
    done-are = ap (λ (x : Outcome). take x.answer.finished operations) is ∙ it.done-are

    work-same : work ≡ last.work
    work-same = ap (λ (os : List Operation). perform cmp p (events_of os) start) done-are ∙ (sym (work-is cmp p (length ow) it.done begun refl it.rooms) ∙ sym it.left_is)

    written_is : written ≡ last.output
    written_is = ap (λ (x : Outcome). terms (take x.answer.places x.ow) (take x.answer.places x.oc)) is ∙ written_back last.output _ _

    -- which operations the pairs of numbers ask for
    pub operations-are : NameAll words coefs ss ops operations
    operations-are = all_named words coefs ss ops (length ss - 1) open-run.operations

    -- The operations: all are done and the answer has number 0, or one is refused with 10 or 11 under its condition; the answer has its number and counts those before it, and what is left is what they left. It bars an engine that refuses all.
    pub demand-1-ending : Ending cmp p (length ow) operations outcome.answer work written
    demand-1-ending =
        subst (λ (x : Stated). Ending cmp p (length ow) operations x work written) (sym (ap (λ (x : Outcome). x.answer) is))
        (subst (λ (w : Work ℕ). Ending cmp p (length ow) operations (answer_of last) w written) (sym work-same)
        (subst (Ending cmp p (length ow) operations (answer_of last) last.work) (sym written_is) (ending cmp p (length ow) operations)))

    -- "and no other"
    pub demand-1-only : (x : Stated) (w : Work ℕ) (v : List (Term ℕ)) → Ending cmp p (length ow) operations x w v → (x ≡ outcome.answer) × (w ≡ work) × (v ≡ written)
    demand-1-only x w v e =
        let r = ending-only cmp p (length ow) operations x w v e in
        (r.0 ∙ sym (ap (λ (x : Outcome). x.answer) is), r.1 ∙ sym work-same, r.2 ∙ sym written_is)

    -- so the answer counts the places written, and with number 0 all operations
    pub outcome-answer : (outcome.answer.places ≡ length written) × (outcome.answer.number ≡ 0 → outcome.answer.finished ≡ length operations)
    outcome-answer = by demand-1-ending
      where
        by : Ending cmp p (length ow) operations outcome.answer work written → (outcome.answer.places ≡ length written) × (outcome.answer.number ≡ 0 → outcome.answer.finished ≡ length operations)
        by (all_done f z) = (f.places-are, λ e. f.finished-are)
        by (refused before rest o e f none z) = (f.places-are, λ q. absurd (some o (sym z ∙ q)))
          where
            some : (o : Operation) → number_for o ≡ 0 → ⊥
            some (adds f) q = omega (arith, q)
            some leads q = omega (arith, q)
            some sums q = omega (arith, q)

    -- "Output past the last place written is untouched.", and there are as many places as were lent
    pub output-is : (outcome.ow ≡ T.words written ++ drop outcome.answer.places ow) × (outcome.oc ≡ T.coefs written ++ drop outcome.answer.places oc)
    output-is = (
      ap (λ (x : Outcome). x.ow) is ∙ sym (ap₂ (λ (l : List (Term ℕ)) (k : ℕ). T.words l ++ drop k ow) written_is (ap (λ (x : Outcome). x.answer.places) is)),
      ap (λ (x : Outcome). x.oc) is ∙ sym (ap₂ (λ (l : List (Term ℕ)) (k : ℕ). T.coefs l ++ drop k oc) written_is (ap (λ (x : Outcome). x.answer.places) is)),
    )

    pub places-fit : outcome.answer.places ≤ length ow
    places-fit = omega (arith, ap (λ (x : Outcome). x.answer.places) is, ap length it.output-is, output-fits cmp p (length ow) it.done begun refl it.rooms (omega arith))

    -- "Places past a bucket's terms are 0 at return. The work space, 8,192 places for each, is all 0 at return."
    pub spaces-are : (outcome.bw ≡ laid_out 4 (map T.words work.buckets)) × (outcome.bc ≡ laid_out 4 (map T.coefs work.buckets)) × (outcome.ww ≡ replicate work_places 0) × (outcome.wc ≡ replicate work_places 0)
    spaces-are = (
      ap (λ (x : Outcome). x.bw) is ∙ sym (ap (λ (w : Work ℕ). laid_out 4 (map T.words w.buckets)) work-same),
      ap (λ (x : Outcome). x.bc) is ∙ sym (ap (λ (w : Work ℕ). laid_out 4 (map T.coefs w.buckets)) work-same),
      ap (λ (x : Outcome). x.ww) is,
      ap (λ (x : Outcome). x.wc) is,
    )

    -- "What either held before is not read": another call that differs in what the bucket space, the work space and the tally held has the same outcome
    pub not-read : (tally' : Tally) (bw' bc' ww' wc' : List ℕ) → length bw' ≡ length bw → length bc' ≡ length bc → length ww' ≡ length ww → length wc' ≡ length wc → run_outcome tally' t words coefs ss ops bw' bc' ww' wc' ow oc ≡ outcome
    not-read tally' bw' bc' ww' wc' eb ec ew ex =
        let same : run_refusal t words coefs ss ops (length bw') (length bc') (length ww') (length wc') (length ow) (length oc) ≡ opening = ap₂ (λ (a b : ℕ). run_refusal t words coefs ss ops a b (length ww') (length wc') (length ow) (length oc)) eb ec ∙ ap₂ (λ (a b : ℕ). run_refusal t words coefs ss ops (length bw) (length bc) a b (length ow) (length oc)) ew ex in
        outcome-is tally' t words coefs ss ops bw' bc' ww' wc' ow oc (same ∙ passed) ∙ sym is

    -- Demand 2: "Sums are those of polynomials over the integers modulo p. Each lead is the largest term of the true sum under the chosen order.", by exponents: the places written are those of the operations done, in turn. It bars an engine that always gives zero, one that touches nothing, and one that does the first operation and repeats its state for the rest.
    pub demand-2 : GivenOut (order_of order) n weights p done [] [] written
    demand-2 =
        subst (GivenOut (order_of order) n weights p done [] []) (sym (written_is ∙ it.output-is))
        (subst (λ (os : List Operation). GivenOut (order_of order) n weights p os [] [] (after cmp p (length ow) it.done).output) (sym done-are) (gives-out (order_of order) n weights open-run.n-high (weights-range n weights open-run.weights).0 p pos (length ow) it.done (subst (EachAdded (Valid (order_of order) n weights p)) done-are (of-done (Valid (order_of order) n weights p) valid)) it.rooms))

    -- no other places fit
    pub demand-2-only : (v : List (Term ℕ)) → GivenOut (order_of order) n weights p done [] [] v → v ≡ written
    demand-2-only v h = given-only (order_of order) n weights p open-run.n-high pos done [] [] v written h demand-2

    -- the same at each lead and at each full sum
    pub demand-2-lead : (before rest : List Operation) → done ≡ before ++ (leads ∷ rest) → LeadAt (order_of order) n weights p before written
    demand-2-lead before rest e = lead-at (order_of order) n weights p before rest written (subst (λ (os : List Operation). GivenOut (order_of order) n weights p os [] [] written) e demand-2)

    -- "for zero, word 0 and coefficient 0 go there": exactly where the true sum is zero
    pub demand-2-zero : (before : List Operation) (a : LeadAt (order_of order) n weights p before written) → (a.place ≡ term 0 0 → (α : List ℕ) → true_sum (order_of order) n weights p (brought_by before) (non_zero a.earlier) α ≡ 0) × (((α : List ℕ) → true_sum (order_of order) n weights p (brought_by before) (non_zero a.earlier) α ≡ 0) → a.place ≡ term 0 0)
    demand-2-zero before a = (zero-lead (order_of order) n weights p _ a.place a.lead_is, lead_zero (order_of order) n weights p _ a.place a.lead_is)

    pub demand-2-sum : (before rest : List Operation) → done ≡ before ++ (sums ∷ rest) → SumAt (order_of order) n weights p before written
    demand-2-sum before rest e = sum-at (order_of order) n weights p before rest written (subst (λ (os : List Operation). GivenOut (order_of order) n weights p os [] [] written) e demand-2)

    -- ---- Demand 3, for every list of operations, to its end or up to the refused one. It bars an engine whose tally is invented.
    did : Polynomials cmp p (events_of done)
    did = canonical-added cmp p done (of-done (Canonical cmp p) canonical)

    sound-last : Sound cmp p last
    sound-last = sound cmp p O pos (length ow) operations (canonical-added cmp p operations canonical)

    -- "bucket i starts at place (4^i − 4)/3": each bucket held lies there in the bucket space, and 0 past it
    pub buckets-lie : LiesIn (map T.words work.buckets) outcome.bw × LiesIn (map T.coefs work.buckets) outcome.bc
    buckets-lie =
        subst (λ (w : Work ℕ). LiesIn (map T.words w.buckets) outcome.bw × LiesIn (map T.coefs w.buckets) outcome.bc) (sym work-same)
        (subst (λ (x : Outcome). LiesIn (map T.words last.work.buckets) x.bw × LiesIn (map T.coefs last.work.buckets) x.bc) (sym is)
        (returned-lies cmp p outcome.answer outcome.tally last.work.buckets last.output ow oc sound-last.six sound-last.good))

    -- "The monomial comparisons counted are exactly those that the published merge and search make on that list, one by one."
    pub demand-3-count : outcome.tally.comparisons ≡ length work.pairs
    demand-3-count = ap (λ (x : Outcome). x.tally.comparisons) is ∙ ap (λ (w : Work ℕ). length w.pairs) (sym work-same)

    -- the tally's numbers of terms
    pub demand-3-brought : outcome.tally.brought ≡ length work.brought
    demand-3-brought = ap (λ (x : Outcome). x.tally.brought) is ∙ ap (λ (w : Work ℕ). length w.brought) (sym work-same)

    pub demand-3-given : outcome.tally.given ≡ length (non_zero written)
    demand-3-given = ap (λ (x : Outcome). x.tally.given) is ∙ (ap length (sym sound-last.output-is) ∙ ap (λ (l : List (Term ℕ)). length (non_zero l)) (sym written_is))

    -- "They are at most 6·N·M"
    pub demand-3-bound : outcome.tally.comparisons ≤ bound outcome.tally.brought
    demand-3-bound = subst (λ (q : ℕ). q ≤ bound outcome.tally.brought) (sym demand-3-count) (subst (λ (b : ℕ). length work.pairs ≤ bound b) (sym demand-3-brought) (events-bound cmp p O pos (events_of done) did))

    -- the price is known before the call: the bound of the terms that its operations name
    pub demand-3-price : outcome.tally.comparisons ≤ bound (terms_named operations)
    demand-3-price =
        let few : outcome.tally.brought ≤ terms_named operations = omega (arith, ap (λ (x : Outcome). x.tally.brought) is, ap (λ (w : Work ℕ). length w.brought) it.left_is, brought-are cmp p (length ow) it.done begun refl it.rooms, ap terms_named done-are, named-first outcome.answer.finished operations) in
        omega (arith, demand-3-bound, bound-monotone outcome.tally.brought (terms_named operations) few)

    -- "as polynomials modulo p, terms given out + terms still held = terms brought in"
    pub demand-3-kept : (m : ℕ) → (total cmp m (non_zero written) + total_in cmp m work.buckets) % p ≡ total cmp m work.brought % p
    demand-3-kept m =
        ap (λ (x : List (Term ℕ)). (total cmp m x + total_in cmp m work.buckets) % p) (ap non_zero written_is ∙ (sound-last.output-is ∙ ap (λ (w : Work ℕ). w.given) (sym work-same)))
        ∙ events-kept cmp p O pos (events_of done) did m

    held-is : held_at outcome.bw outcome.bc ≡ flat work.buckets
    held-is = ap (λ (x : Outcome). held_at x.bw x.bc) is ∙ (held_back cmp p 4 last.work.buckets (canon cmp p sound-last) ∙ ap (λ (w : Work ℕ). flat w.buckets) (sym work-same))

    -- Demand 3 as "a single claim about the whole list": of what lies in the tally, in the output and in the bucket space at return
    pub demand-3 : Demand3 cmp p work.pairs work.brought (written_in outcome.answer.places outcome.ow outcome.oc) (written_in outcome.answer.places outcome.ow outcome.oc) (held_at outcome.bw outcome.bc) (bound outcome.tally.brought) outcome.tally
    demand-3 = record {
      comparisons-are = demand-3-count;
      at_most = demand-3-bound;
      brought-are = demand-3-brought;
      given-are = demand-3-given;
      held-are = ap (λ (x : Outcome). x.tally.held) is ∙ (sym (flat-held last.work.buckets) ∙ (ap (λ (w : Work ℕ). length (flat w.buckets)) (sym work-same) ∙ ap length (sym held-is)));
      conserved = λ m.
          ap (λ (y : List (Term ℕ)). coef_at cmp p m (non_zero written ++ y)) held-is
          ∙ (ap (λ (k : ℕ). k % p) (total-append cmp m (non_zero written) (flat work.buckets) ∙ ap (λ (k : ℕ). total cmp m (non_zero written) + k) (flat-total cmp m work.buckets)) ∙ demand-3-kept m);
    }

  -- which numbers can come at all from a run
  pub demand-1-numbers : OneOf run_numbers outcome.answer.number
  demand-1-numbers = by opening refl
    where
      some : (o : Operation) (r : ℕ) → r ≡ number_for o → OneOf run_numbers r
      some (adds f) r e = one-of run_numbers 11 r refl e
      some leads r e = one-of run_numbers 10 r refl e
      some sums r e = one-of run_numbers 10 r refl e

      past : (x : Stated) (w : Work ℕ) (v : List (Term ℕ)) → Ending cmp p (length ow) operations x w v → OneOf run_numbers x.number
      past x w v (all_done f z) = inl z
      past x w v (refused before rest o e f none z) = some o x.number z

      by : (r : ℕ) → opening ≡ r → OneOf run_numbers outcome.answer.number
      by zero e = past outcome.answer work written (demand-1-ending e)
      by (suc r) e =
          subst (OneOf run_numbers) (sym (ap (λ (x : Outcome). x.answer.number) (demand-1-unchanged (λ z. let q : ⊥ = omega (arith, e, z) in q))))
          (one-of-more (0 ∷ 1 ∷ 2 ∷ 3 ∷ 4 ∷ 5 ∷ 6 ∷ 8 ∷ 9 ∷ 24 ∷ []) (10 ∷ 11 ∷ []) opening (run-numbers t words coefs ss ops (length bw) (length bc) (length ww) (length wc) (length ow) (length oc)))
