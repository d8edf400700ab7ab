-- `listing_lines::term::Variables::put_exponents` meets its contract, exponent by exponent.
use Rattle.std.proofs.Common.{rules}
use Rattle.listing_lines.proofs.PlaceLaws.{exponents-start, exponents-more, exponents-all}
use Rattle.listing_lines.proofs.term.Variables.put_exponents.Goals as goal

pub loop-i-init : goal.loop-i-init
loop-i-init c = exponents-start c.args.self.order c.args.w _ _ _ (search rules)

pub loop-i-preserved : goal.loop-i-preserved
loop-i-preserved c = exponents-more c.args.self.order c.args.w c.loop-i.i (search rules) c.loop-i.invariant c.put_exponent-to.ensures

pub returns : goal.returns
returns c = exponents-all c.args.self.order c.args.w c.args.self.n c.loop-i.i c.min-i-end.result (search rules) (search rules) c.loop-i-test.false c.loop-i.invariant
