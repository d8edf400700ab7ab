-- What is put for a run, and what a run's outcome gives for it. Assumes nothing.
use Prim.Native.Nat.{ℕ, zero, suc, ◌+◌, ◌-◌, ◌*◌, ◌≤◌, Ordering}
use native.Mathlib.Nat.{mul-le-mul, suc-mul}
use native.Mathlib.Omega.{arith}
use mathlib.Core.Path.{◌≡◌, refl, sym, ap, subst, ◌∙◌}
use mathlib.Core.Bool.{Bool, true, false}
use mathlib.Core.List.{List, [], ◌∷◌}
use lib.Dec.{eqb}
use lib.ListN.{length, replicate, take, drop, get_or, length-append, length-map, length-take, length-drop}
use Rattle.limits.specs.Limits.{bucket_places, script_numbers, script_terms, work_places}
use Rattle.monomial.specs.declared.order.Order.{Order}
use Rattle.polynomial.specs.Terms.{terms}
use Rattle.polynomial.specs.Terms as T
use Rattle.polynomial.specs.Opening.{part_of}
use Rattle.refusal.specs.Table.{number_of}
use Rattle.refusal.proofs.TableLaws.{number-some}
use Rattle.call.specs.declared.answer.Tally.{Tally}
use Rattle.call.specs.declared.answer.Done.{Done}
use Rattle.call.specs.declared.answer.Stopped.{Stopped}
use Rattle.std.specs.Prelude.{Result, Ok, Err}
use Rattle.call.specs.Answers.{Stated, stated, Outcome, decided_by}
use Rattle.call.specs.Lending.{polynomial}
use Rattle.run_outcome.specs.Runs.{Operation, adds, leads, sums, Running, operate_all, operation_by, operation_of, operations_of, begun}
use Rattle.polynomial.specs.Settings.{setting_of}
use Rattle.run_outcome.specs.Outcome.{run_outcome, ran_through, ended}
use Rattle.run_outcome.proofs.Follow.{along}
use Rattle.opening.specs.Run.{run_refusal}
use Rattle.monomial.specs.Exponents.{order_of, order_number}
use Rattle.monomial.specs.Words.{compare_words}
use Rattle.script.specs.declared.reader.Loaded.{Loaded}
use Rattle.listing_lines.specs.Put.{Put}
use Rattle.listing_lines.specs.Listing.{answers_text, cost_text, refused_text}
use Rattle.listing.specs.Whole.{ran_by, ran_text, RanRoom, no_tally, loaded_text}
use Rattle.listing_lines.proofs.PutLaws.{put_both, put_same}

same-tally : {a b c d a' b' c' d' : ℕ} → a ≡ a' → b ≡ b' → c ≡ c' → d ≡ d' → ◌≡◌ {A = Tally} (record { comparisons = a; brought = b; given = c; held = d }) (record { comparisons = a'; brought = b'; given = c'; held = d' })
same-tally p q r s = cc

-- the default of a tally
pub tally-none : (t : Tally) → t.comparisons ≡ 0 → t.brought ≡ 0 → t.given ≡ 0 → t.held ≡ 0 → t ≡ no_tally
tally-none t p q r s = same-tally p q r s

pub places-done : {tally : Tally} {answer : Result Done Stopped} {ow oc : ℕ} {d : Done} → RanRoom tally (stated answer) ow oc → answer ≡ Ok d → d.places ≤ ow
places-done r e = rw e at r.places-in

pub ran-some : (number finished : ℕ) (done : List ℕ) → (number ≡ 0 → ⊥) → ran_by number finished done ≡ refused_text number finished
ran-some zero finished done some = absurd (some refl)
ran-some (suc k) finished done some = refl

module _ (o : Order) (n : ℕ) (ops ow oc : List ℕ) (tally : Tally) (answer : Result Done Stopped) {out : List ℕ} where
  pub ran-done : {d : Done} → answer ≡ Ok d → {out' out'' : List ℕ} {a e : ℕ} → Put (answers_text o n ops (terms (take d.places ow) (take d.places oc))) 0 out out' a → Put (cost_text tally.comparisons tally.brought) a out' out'' e → Put (ran_text o n ops ow oc tally (stated answer)) 0 out out'' e
  unfolding ran_text
  ran-done q p c = rw q (put_both p c)

  pub ran-refused : {x : Stopped} → answer ≡ Err x → (number : ℕ) → number ≡ number_of x.refusal → {out' : List ℕ} {e : ℕ} → Put (refused_text number x.finished) 0 out out' e → Put (ran_text o n ops ow oc tally (stated answer)) 0 out out' e
  unfolding ran_text
  ran-refused {x} q number s p = rw q (put_same (ap (λ (j : ℕ). refused_text j x.finished) s ∙ sym (ran-some (number_of x.refusal) x.finished _ (number-some x.refusal))) p)

-- ---- the output of a run has the places that it counts
pub decided-places : (r : ℕ) (tally : Tally) (t : Running) (bw bc ww wc ow oc : List ℕ) → (decided_by r tally (ended t ow oc) bw bc ww wc ow oc).answer.places ≤ length (decided_by r tally (ended t ow oc) bw bc ww wc ow oc).ow
decided-places (suc r) tally t bw bc ww wc ow oc = omega arith
decided-places zero tally t bw bc ww wc ow oc = omega (arith, length-append (T.words t.output) (drop (length t.output) ow), length-map t.output (λ x. x.mono))

-- ---- and brings in few terms
pub decided-brought : (most r : ℕ) (tally : Tally) (past : Outcome) (bw bc ww wc ow oc : List ℕ) → tally.brought ≤ most → past.tally.brought ≤ most → (decided_by r tally past bw bc ww wc ow oc).tally.brought ≤ most
decided-brought most zero tally past bw bc ww wc ow oc h k = k
decided-brought most (suc r) tally past bw bc ww wc ow oc h k = h

-- each addition has at most so many terms
abbrev Short : ℕ → Operation → Type 0
Short most (adds f) = length f ≤ most
Short most leads = Unit {0}
Short most sums = Unit {0}

abbrev AllShort : ℕ → List Operation → Type 0
AllShort most [] = Unit {0}
AllShort most (o ∷ os) = Short most o × AllShort most os

all-brought : (cmp : ℕ → ℕ → Ordering) (p places most : ℕ) (os : List Operation) (t : Running) → t.stop ≡ 0 → AllShort most os → length (operate_all cmp p places os t).work.brought ≤ length t.work.brought + length os * most
all-brought cmp p places most =
    along cmp p places (λ os t v. AllShort most os → length v.work.brought ≤ length t.work.brought + length os * most)
    (λ t z h. omega arith)
    (λ f os t v l r h. omega (arith, r h.1, h.0, length-append t.work.brought f, suc-mul (length os) most))
    (λ f os t l h. omega arith)
    (λ os t v l r h. omega (arith, r h.1, suc-mul (length os) most))
    (λ os t l h. omega arith)
    (λ os t v l r h. omega (arith, r h.1, suc-mul (length os) most))
    (λ os t l h. omega arith)

pub terms-most : (ws cs : List ℕ) → length (terms ws cs) ≤ length ws
terms-most [] cs = omega arith
terms-most (w ∷ ws) [] = omega arith
terms-most (w ∷ ws) (c ∷ cs) = omega (arith, terms-most ws cs)

module _ (words coefs starts : List ℕ) where
  polynomial-short : (k : ℕ) → length (polynomial words coefs starts k) ≤ length words
  polynomial-short k =
      let a = get_or starts k 0 in
      let m = get_or starts (k + 1) 0 - a in
      omega (arith, terms-most (part_of starts k words) (part_of starts k coefs), length-take m (drop a words), length-drop a words)

  operation-short : (code k : ℕ) → Short (length words) (operation_of words coefs starts code k)
  operation-short code k = go (eqb code 1) (eqb code 2)
    where
      go : (a b : Bool) → Short (length words) (operation_by a b (polynomial words coefs starts k))
      go true b = polynomial-short k
      go false true = tt
      go false false = tt

  pub operations-short : (ops : List ℕ) → AllShort (length words) (operations_of words coefs starts ops) × (length (operations_of words coefs starts ops) ≤ length ops)
  unfolding operations_of
  operations-short [] = (tt, omega arith)
  operations-short (code ∷ []) = (tt, omega arith)
  operations-short (code ∷ (k ∷ os)) = let i = operations-short os in ((operation-short code k, i.0), omega (arith, i.1))

  pub run-brought : (cmp : ℕ → ℕ → Ordering) (p places : ℕ) (ops : List ℕ) → length words ≤ script_terms → length ops ≤ script_numbers → length (operate_all cmp p places (operations_of words coefs starts ops) begun).work.brought ≤ 100000000000000000
  run-brought cmp p places ops h l =
      let s = operations-short ops in
      let os = operations_of words coefs starts ops in
      let m : length os * length words ≤ script_numbers * script_terms = mul-le-mul (let y : length os ≤ script_numbers = omega (arith, s.1) in y) h in
      omega (arith, all-brought cmp p places (length words) os begun refl s.0)

-- ---- what the run of a script gives
module _ (l : Loaded) (words coefs starts ops : List ℕ) where
  module _ {answer : Stated} {tally : Tally} {bw bc ww wc ow oc : List ℕ} (e : ◌≡◌ {A = Outcome} (record { answer = answer; tally = tally; bw = bw; bc = bc; ww = ww; wc = wc; ow = ow; oc = oc }) (run_outcome no_tally (setting_of l.prime (order_number l.order) l.vars l.weights) words coefs starts ops (replicate bucket_places 0) (replicate bucket_places 0) (replicate work_places 0) (replicate work_places 0) (replicate script_terms 0) (replicate script_terms 0))) where
    pub run_room : length words ≤ script_terms → length ops ≤ script_numbers → length oc ≡ length ow → RanRoom tally answer (length ow) (length oc)
    run_room h k same =
        let refusal = run_refusal (setting_of l.prime (order_number l.order) l.vars l.weights) words coefs starts ops (length {A = ℕ} (replicate bucket_places 0)) (length {A = ℕ} (replicate bucket_places 0)) (length {A = ℕ} (replicate work_places 0)) (length {A = ℕ} (replicate work_places 0)) (length {A = ℕ} (replicate script_terms 0)) (length {A = ℕ} (replicate script_terms 0)) in
        let t = ran_through (setting_of l.prime (order_number l.order) l.vars l.weights) words coefs starts ops (length {A = ℕ} (replicate script_terms 0)) in
        record {
          brought-small = subst (λ (y : Outcome). y.tally.brought ≤ 100000000000000000) (sym e) (decided-brought 100000000000000000 refusal no_tally (ended t (replicate script_terms 0) (replicate script_terms 0)) (replicate bucket_places 0) (replicate bucket_places 0) (replicate work_places 0) (replicate work_places 0) (replicate script_terms 0) (replicate script_terms 0) (omega arith) (run-brought words coefs starts (compare_words (order_of (order_number l.order))) l.prime (length {A = ℕ} (replicate script_terms 0)) ops h k));
          same-long = same;
          places-in = subst (λ (y : Outcome). y.answer.places ≤ length y.ow) (sym e) (decided-places refusal no_tally t (replicate bucket_places 0) (replicate bucket_places 0) (replicate work_places 0) (replicate work_places 0) (replicate script_terms 0) (replicate script_terms 0));
        }

    pub run-text : {out out' : List ℕ} {r : ℕ} → Put (ran_text l.order l.vars ops ow oc tally answer) 0 out out' r → Put (loaded_text l words coefs starts ops) 0 out out' r
    run-text p = put_same (ap (λ (y : Outcome). ran_text l.order l.vars ops y.ow y.oc y.tally y.answer) e) p
