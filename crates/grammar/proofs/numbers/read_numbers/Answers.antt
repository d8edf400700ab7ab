-- `grammar::numbers::read_numbers` meets its contract, part by part.
use native.Mathlib.Omega.{arith}
use mathlib.Core.Path.{refl, ap, ◌∙◌}
use lib.Dec.{eqb}
use lib.ListN.{length}
use Rattle.std.proofs.Common.{rules}
use Rattle.std.proofs.lemmas.List.{length_push}
use Rattle.std.proofs.lemmas.Iterator.Splits.{YieldsList-from_slice_split}
use Rattle.std.proofs.lemmas.Iterator.Consumers.{YieldsList-turn, YieldsList-end}
use Rattle.std.specs.Slice.Iter.{split_callee}
use Rattle.text.proofs.ByteLaws.{parts-code, parts-most, part_at}
use Rattle.text.proofs.NumberLaws.{found-some, found-none}
use Rattle.grammar.proofs.NumbersLaws.{counting-start, counting_more, counting-bad, counting-end, counted-bad}
use Rattle.grammar.proofs.numbers.read_numbers.Goals as goal

pub loop-part-init : goal.loop-part-init
loop-part-init c = (refl, counting-start _ _ _)

pub returns-in_err-read_number : goal.returns-in_err-read_number
returns-in_err-read_number c =
    let t = YieldsList-turn (YieldsList-from_slice_split _ (λ x. eqb x c.args.b) c.args.s.now (cc) (cc) (ap split_callee c.into_iter-part-iterator.ensures.into_iter_gives ∙ c.split-part-items.ensures.closure) (λ x b q k. search rules)) c.loop-part.yielded _ c.loop-part.yielded_by _ _ c.in-Some.part c.in-Some.is c.next.ensures.steps in
    let p = part_at c.args.b c.args.s.now _ c.loop-part.invariant.0 t in
    rw c.from_residual.ensures (counted-bad (counting-bad c.loop-part.invariant.1 c.in-Some.part.now p.0 p.1 (found-none _ c.in_err-read_number.ensures)))

pub overflow_add-count : goal.overflow_add-count
overflow_add-count c =
    let t = YieldsList-turn (YieldsList-from_slice_split _ (λ x. eqb x c.args.b) c.args.s.now (cc) (cc) (ap split_callee c.into_iter-part-iterator.ensures.into_iter_gives ∙ c.split-part-items.ensures.closure) (λ x b q k. search rules)) c.loop-part.yielded _ c.loop-part.yielded_by _ _ c.in-Some.part c.in-Some.is c.next.ensures.steps in
    let p = part_at c.args.b c.args.s.now _ c.loop-part.invariant.0 t in
    let m = parts-most c.args.b c.args.s.now in
    omega arith

pub loop-part-preserved : goal.loop-part-preserved
loop-part-preserved c =
    let t = YieldsList-turn (YieldsList-from_slice_split _ (λ x. eqb x c.args.b) c.args.s.now (cc) (cc) (ap split_callee c.into_iter-part-iterator.ensures.into_iter_gives ∙ c.split-part-items.ensures.closure) (λ x b q k. search rules)) c.loop-part.yielded _ c.loop-part.yielded_by _ _ c.in-Some.part c.in-Some.is c.next.ensures.steps in
    let p = part_at c.args.b c.args.s.now _ c.loop-part.invariant.0 t in
    let n = length_push c.loop-part.yielded c.in-Some.part in
    (omega (arith, c.loop-part.invariant.0), counting_more c.loop-part.invariant.1 c.in-Some.part.now p.0 p.1 _ (found-some _ _ c.in_ok-read_number.ensures) _ c.store.ensures)

pub returns : goal.returns
returns c =
    let t = YieldsList-end (YieldsList-from_slice_split _ (λ x. eqb x c.args.b) c.args.s.now (cc) (cc) (ap split_callee c.into_iter-part-iterator.ensures.into_iter_gives ∙ c.split-part-items.ensures.closure) (λ x b q k. search rules)) c.loop-part.yielded _ c.loop-part.yielded_by _ _ c.in-None.is c.next.ensures.steps in
    let l = ap length (parts-code c.args.b c.args.s.now) in
    counting-end c.loop-part.invariant.1 (omega (arith, t.1, c.loop-part.invariant.0))
