-- `listing_lines::term::Variables::put_terms` meets its contract, term by term.
use native.Mathlib.Omega.{arith}
use Rattle.std.proofs.Common.{rules}
use Rattle.listing_lines.proofs.AnswerLaws.{putting-start, putting-end, putting-zero, putting-more}
use Rattle.listing_lines.proofs.term.Variables.put_terms.Goals as goal

pub loop-read-init : goal.loop-read-init
loop-read-init c = putting-start _ _ _ _ _ _ _ (search rules)

pub returns-then-c-eq0 : goal.returns-then-c-eq0
returns-then-c-eq0 c = putting-zero c.loop-read.invariant c.args.f.same_long c.loop-read-test.true c.if-c-eq0.true

pub loop-read-preserved : goal.loop-read-preserved
loop-read-preserved c = putting-more c.loop-read.invariant c.args.f.same_long c.loop-read-test.true c.if-c-eq0.false c.put_term-to.ensures

pub returns : goal.returns
returns c = putting-end c.loop-read.invariant c.args.f.same_long (omega arith) c.loop-read-test.false
