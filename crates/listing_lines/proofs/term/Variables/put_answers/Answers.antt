-- `listing_lines::term::Variables::put_answers` meets its contract: the lines put so far, before those of what is left, are all lines.
use native.Mathlib.Omega.{arith}
use Rattle.conditions.proofs.OperationLaws.{asked-at}
use Rattle.listing_lines.proofs.AnswerLaws.{answering-next, answering-end}
use Rattle.listing_lines.proofs.term.Variables.put_answers.Goals as goal

pub offset_bounds-words-next : goal.offset_bounds-words-next
offset_bounds-words-next c = omega (arith, c.put_answer-next.ensures.within, c.loop-code.invariant.most, c.well_formed)

pub offset_bounds-coefs-next : goal.offset_bounds-coefs-next
offset_bounds-coefs-next c = omega (arith, c.put_answer-next.ensures.within, c.loop-code.invariant.most, c.well_formed)

pub loop-code-preserved : goal.loop-code-preserved
loop-code-preserved c =
    let is = asked-at c.args.ops.now c.loop-code.code-index c.as_chunks.ensures.front (omega arith) c.of.ensures in
    answering-next c.loop-code.invariant _ (omega arith) (omega arith) is c.put_answer-next.ensures

pub returns : goal.returns
returns c = answering-end c.loop-code.invariant (omega (arith, c.loop-code-test.false))
