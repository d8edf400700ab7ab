-- The outcome of a run that ended or was stopped. Assumes nothing.
use mathlib.Core.Path.{◌≡◌, sym, ap, ◌∙◌, subst}
use mathlib.Core.List.{List}
use Prim.Native.Nat.{ℕ}
use lib.ListN.{length}
use Rattle.monomial.specs.declared.order.Order.{Order}
use Rattle.monomial.specs.Words.{compare_words}
use Rattle.geobucket.specs.Buckets.{held}
use Rattle.space.specs.Space.{Spaces, words_in, held_in, AtReturn}
use Rattle.space.proofs.InWords.{held-is}
use Rattle.call.specs.declared.state.State.{State}
use Rattle.call.specs.declared.answer.Tally.{Tally}
use Rattle.call.specs.Answers.{Stated, Outcome, stated_of, tally_in}
use Rattle.call.proofs.OutputLaws.{written-long}
use Rattle.call.proofs.OutcomeLaws.{returned-as}
use Rattle.run_outcome.specs.Runs.{begun, operate_all, operations_of}
use Rattle.engine.specs.States.{RanAll}
use Rattle.run_outcome.specs.Outcome.{tally_of, ended}

ended-as : {o : Order} {p : ℕ} {words coefs starts ops ow₀ oc₀ : List ℕ} {s : State} {y : Spaces} {ow oc : List ℕ} → RanAll o p words coefs starts ops ow₀ oc₀ s y ow oc
    → {bw' bc' ww' wc' : List ℕ} → AtReturn (words_in o y) bw' bc' ww' wc' → {x : Stated} {t : Tally} → (x ≡ stated_of s) × (t ≡ tally_in s y.places)
    → ◌≡◌ {A = Outcome} (record { answer = x; tally = t; bw = bw'; bc = bc'; ww = ww'; wc = wc'; ow = ow; oc = oc }) (ended (operate_all (compare_words o) p (length ow₀) (operations_of words coefs starts ops) begun) ow₀ oc₀)
ended-as {o} {p} {words} {coefs} {starts} {ops} {ow₀} {oc₀} {s} {y} r a e =
    let t = operate_all (compare_words o) p (length ow₀) (operations_of words coefs starts ops) begun in
    let z = r.is in
    let st = r.counting.stands in
    let places : s.places ≡ length t.output = sym (written-long r.output) ∙ ap length z.output-is in
    let held_in-counted : held_in y.places ≡ held t.work.buckets = sym (held-is o st) ∙ ap held z.counts.buckets-are in
    let answer : stated_of s ≡ record { number = t.stop; finished = t.finished; places = length t.output } = cc in
    let tally : tally_in s y.places ≡ tally_of t = cc in
    returned-as r.output ow₀ oc₀ r.words-past r.coefs-past a z.counts.buckets-are z.output-is (e.0 ∙ answer) (e.1 ∙ tally)

-- the order is the one of its number
pub ended-in : {o o' : Order} {p : ℕ} {words coefs starts ops ow₀ oc₀ : List ℕ} {s : State} {y : Spaces} {ow oc : List ℕ} → o ≡ o' → RanAll o p words coefs starts ops ow₀ oc₀ s y ow oc
    → {bw' bc' ww' wc' : List ℕ} → AtReturn (words_in o y) bw' bc' ww' wc' → {x : Stated} {t : Tally} → (x ≡ stated_of s) × (t ≡ tally_in s y.places)
    → ◌≡◌ {A = Outcome} (record { answer = x; tally = t; bw = bw'; bc = bc'; ww = ww'; wc = wc'; ow = ow; oc = oc }) (ended (operate_all (compare_words o') p (length ow₀) (operations_of words coefs starts ops) begun) ow₀ oc₀)
ended-in {p = p} {words = words} {coefs = coefs} {starts = starts} {ops = ops} {ow₀ = ow₀} {oc₀ = oc₀} {s = s} {y = y} {ow = ow} {oc = oc} e r {bw'} {bc'} {ww'} {wc'} a =
    ended-as (subst (λ (q : Order). RanAll q p words coefs starts ops ow₀ oc₀ s y ow oc) e r) (subst (λ (q : Order). AtReturn (words_in q y) bw' bc' ww' wc') e a)
