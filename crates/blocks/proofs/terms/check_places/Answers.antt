-- `blocks::terms::check_places` meets its contract: after j turns no term of the first j is bad, and the numbers are at hand.
use Rattle.std.proofs.Common.{ℕ, sym, ap, ◌∙◌, arith}
use Rattle.refusal.specs.Table.{refusal_in}
use Rattle.refusal.proofs.TableLaws.{number-some}
use Rattle.monomial.specs.Layout.{fields}
use Rattle.monomial.specs.Words.{compare_words}
use Rattle.polynomial.specs.Opening.{term_refusal}
use Rattle.polynomial.specs.Checking.{Carried, carry_on, carried_by}
use Rattle.polynomial.proofs.CheckingLaws.{look_stop, look-next, look-ends, stays-stopped, good-is}
use Rattle.blocks.specs.Reading.{terms_from}
use Rattle.blocks.proofs.PlaceLaws.{length-from, lead}
use Rattle.blocks.proofs.terms.check_places.Goals as goal

pub returns-then-from-ne0 : goal.returns-then-from-ne0
returns-then-from-ne0 c = stays-stopped _ _ _ _ c.if-from-ne0.true

pub returns-in-Err : goal.returns-in-Err
returns-in-Err c =
    let o = c.order_of-order in
    let a = c.args in
    let v = c.new-layout in
    let judge = term_refusal o.result a.t.n (fields o.result v.result.weights) a.t.p in
    rw
    (← o.ensures, ← v.ensures.1)
    (look_stop judge (compare_words o.result) _ _ c.loop-j.j c.loop-j.late c.loop-j.seen c.loop-j.last c.loop-j.invariant (omega (arith, length-from a.s.now a.at a.n)) _ (lead a.s.now a.at a.n c.loop-j.j _ _ c.loop-j-test.true c.get_number-word.ensures.0 c.get_number-coef.ensures.0) _ _ (c.number-stop.ensures ∙ sym (ap refusal_in c.in-Err.is) ∙ c.check_term.ensures c.order_of-order.result a.t.n c.requires.0.few c.new-layout.ensures.0) c.check_fall-late.ensures (λ z. number-some _ (sym c.number-stop.ensures ∙ z))
    ∙ ap (λ (s : Carried ℕ). carry_on judge (compare_words o.result) s (terms_from a.s.now a.at a.n)) (good-is (carried_by a.from) c.if-from-ne0.false))

pub loop-j-preserved : goal.loop-j-preserved
loop-j-preserved c =
    let a = c.args in
    look-next _ _ _ _ c.loop-j.j c.loop-j.late c.loop-j.seen c.loop-j.last c.loop-j.invariant (omega (arith, length-from a.s.now a.at a.n)) _ (lead a.s.now a.at a.n c.loop-j.j _ _ c.loop-j-test.true c.get_number-word.ensures.0 c.get_number-coef.ensures.0) _ _ (c.check_term.ensures c.order_of-order.result a.t.n c.requires.0.few c.new-layout.ensures.0) c.check_fall-late.ensures (ap refusal_in c.in_default.is)

pub returns : goal.returns
returns c =
    let o = c.order_of-order in
    let a = c.args in
    let v = c.new-layout in
    let judge = term_refusal o.result a.t.n (fields o.result v.result.weights) a.t.p in
    rw
    (← o.ensures, ← v.ensures.1)
    (look-ends judge (compare_words o.result) _ _ c.loop-j.j c.loop-j.late c.loop-j.seen c.loop-j.last c.loop-j.invariant (omega (arith, length-from a.s.now a.at a.n))
    ∙ ap (λ (s : Carried ℕ). carry_on judge (compare_words o.result) s (terms_from a.s.now a.at a.n)) (good-is (carried_by a.from) c.if-from-ne0.false))
