-- `polynomial::check::check_on` meets its contract: after i turns no term of the first i is bad, and the numbers are at hand.
use mathlib.Core.Path.{sym, ap, ◌∙◌}
use Prim.Native.Nat.{ℕ}
use native.Mathlib.Omega.{arith}
use Rattle.refusal.specs.Table.{refusal_in}
use Rattle.refusal.proofs.TableLaws.{number-some}
use Rattle.monomial.specs.Layout.{fields}
use Rattle.monomial.specs.Words.{compare_words}
use Rattle.polynomial.specs.Terms.{terms}
use Rattle.polynomial.specs.Opening.{term_refusal}
use Rattle.polynomial.specs.Checking.{Carried, carry_on, carried_by}
use Rattle.polynomial.proofs.TermLists.{length-terms, lead-at}
use Rattle.polynomial.proofs.CheckingLaws.{look_stop, look-next, look-ends, stays-stopped, good-is}
use Rattle.polynomial.proofs.check.check_on.Goals as goal

pub returns-then-from-ne0 : goal.returns-then-from-ne0
returns-then-from-ne0 c = stays-stopped _ _ _ _ c.if-from-ne0.true

pub returns-in-Err : goal.returns-in-Err
returns-in-Err c =
    let o = c.order_of-order in
    let a = c.args in
    let v = c.new-layout in
    let judge = term_refusal o.result a.t.n (fields o.result v.result.weights) a.t.p in
    rw
    (← o.ensures, ← v.ensures.1)
    (look_stop judge (compare_words o.result) _ _ c.loop-i.i c.loop-i.late c.loop-i.seen c.loop-i.last c.loop-i.invariant (omega (arith, length-terms a.f.words.now a.f.coefs.now a.f.same_long)) _ (lead-at a.f.words.now a.f.coefs.now c.loop-i.i a.f.same_long c.loop-i-test.true) _ _ (c.number-stop.ensures ∙ sym (ap refusal_in c.in-Err.is) ∙ c.check_term.ensures c.order_of-order.result a.t.n c.requires.few c.new-layout.ensures.0) c.check_fall-late.ensures (λ z. number-some _ (sym c.number-stop.ensures ∙ z))
    ∙ ap (λ (s : Carried ℕ). carry_on judge (compare_words o.result) s (terms a.f.words.now a.f.coefs.now)) (good-is (carried_by a.from) c.if-from-ne0.false))

pub loop-i-preserved : goal.loop-i-preserved
loop-i-preserved c =
    let a = c.args in
    look-next _ _ _ _ c.loop-i.i c.loop-i.late c.loop-i.seen c.loop-i.last c.loop-i.invariant (omega (arith, length-terms a.f.words.now a.f.coefs.now a.f.same_long)) _ (lead-at a.f.words.now a.f.coefs.now c.loop-i.i a.f.same_long c.loop-i-test.true) _ _ (c.check_term.ensures c.order_of-order.result a.t.n c.requires.few c.new-layout.ensures.0) c.check_fall-late.ensures (ap refusal_in c.in_default.is)

pub returns : goal.returns
returns c =
    let o = c.order_of-order in
    let a = c.args in
    let v = c.new-layout in
    let judge = term_refusal o.result a.t.n (fields o.result v.result.weights) a.t.p in
    rw
    (← o.ensures, ← v.ensures.1)
    (look-ends judge (compare_words o.result) _ _ c.loop-i.i c.loop-i.late c.loop-i.seen c.loop-i.last c.loop-i.invariant (omega (arith, length-terms a.f.words.now a.f.coefs.now a.f.same_long))
    ∙ ap (λ (s : Carried ℕ). carry_on judge (compare_words o.result) s (terms a.f.words.now a.f.coefs.now)) (good-is (carried_by a.from) c.if-from-ne0.false))
