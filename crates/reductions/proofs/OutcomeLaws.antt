-- The outcome of a reduction that passed its opening checks. Assumes nothing.
use mathlib.Core.Path.{◌≡◌, sym, ap, ◌∙◌}
use mathlib.Core.List.{List}
use Prim.Native.Nat.{ℕ}
use lib.ListN.{length}
use Rattle.monomial.specs.declared.order.Order.{Order}
use Rattle.geobucket.specs.Buckets.{held}
use Rattle.space.specs.Space.{held_in, Spaces, words_in, AtReturn}
use Rattle.space.proofs.InWords.{held-is}
use Rattle.call.specs.declared.state.State.{State}
use Rattle.call.specs.declared.answer.Tally.{Tally}
use Rattle.call.specs.Answers.{Stated, stated_of, tally_in, Outcome}
use Rattle.call.specs.Lending.{polynomial, divisors_of}
use Rattle.call.proofs.OutputLaws.{written-long}
use Rattle.call.proofs.OutcomeLaws.{returned-as}
use Rattle.division.specs.Steps.{reduction_of_words}
use Rattle.reducer.specs.Stepping.{Reduced}
use Rattle.reduction_outcome.specs.Outcome.{tally_of, ended}

-- a reduction that finished or was stopped, in the order of its number
pub ended-as : {o o' : Order} → o ≡ o' → {p : ℕ} {words coefs starts : List ℕ} {limit : ℕ} {ow₀ oc₀ : List ℕ} {s : State} {x : Spaces} {ow oc : List ℕ} → Reduced o p words coefs starts limit ow₀ oc₀ s x ow oc
    → {bw' bc' ww' wc' : List ℕ} → AtReturn (words_in o x) bw' bc' ww' wc' → {y : Stated} {t : Tally} → (y ≡ stated_of s) × (t ≡ tally_in s x.places)
    → ◌≡◌ {A = Outcome} (record { answer = y; tally = t; bw = bw'; bc = bc'; ww = ww'; wc = wc'; ow = ow; oc = oc }) (ended (reduction_of_words o' p (divisors_of words coefs starts) (length ow₀) limit (polynomial words coefs starts 0)) ow₀ oc₀)
ended-as {o} {o'} eo {p} {words} {coefs} {starts} {limit} {ow₀} {oc₀} {s} {x} r a e =
    let R = reduction_of_words o p (divisors_of words coefs starts) (length ow₀) limit (polynomial words coefs starts 0) in
    let d = r.ended in
    let ep : s.places ≡ length R.remainder = sym (written-long r.output) ∙ ap length d.remainder_is in
    let eg = r.given-are in
    let es = d.stop_is in
    let el = d.leads-are in
    let ec = d.counts.comparisons-are in
    let ei = d.counts.brought-are in
    let eh : held_in x.places ≡ held R.work.buckets = sym (held-is o r.stands) ∙ ap held d.counts.buckets-are in
    let ex : stated_of s ≡ record { number = R.stop; finished = R.leads; places = length R.remainder } = cc in
    let et : tally_in s x.places ≡ tally_of R = cc in
    returned-as r.output ow₀ oc₀ r.words-past r.coefs-past a d.counts.buckets-are d.remainder_is (e.0 ∙ ex) (e.1 ∙ et)
    ∙ ap (λ (w : Order). ended (reduction_of_words w p (divisors_of words coefs starts) (length ow₀) limit (polynomial words coefs starts 0)) ow₀ oc₀) eo
