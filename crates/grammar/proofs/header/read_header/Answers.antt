-- `grammar::header::read_header` meets its contract, return by return.
use Rattle.text.proofs.NumberLaws.{found-some, found-none}
use Rattle.grammar.proofs.HeaderLaws.{prime-cut, prime-bad, order-cut, order-bad, vars-cut, vars-bad, rest-none, header-good}
use Rattle.grammar.proofs.header.read_header.Goals as goal

pub returns-in_err-first : goal.returns-in_err-first
returns-in_err-first c = rw c.from_residual.ensures (prime-cut c.args.s.now c.in_err-first.ensures)

pub returns : goal.returns
returns c =
    header-good c.args.s.now c.in_ok-first.ensures (found-some _ _ c.in_ok-prime.ensures) c.in_ok-second.ensures (found-some _ _ c.in_ok-order.ensures) c.in_ok-third.ensures (found-some _ _ c.in_ok-vars.ensures) c.in_ok-weights.ensures

pub returns-in_err-prime : goal.returns-in_err-prime
returns-in_err-prime c = rw c.from_residual-in_err-prime.ensures (prime-bad c.args.s.now c.in_ok-first.ensures (found-none _ c.in_err-prime.ensures))

pub returns-in_err-second : goal.returns-in_err-second
returns-in_err-second c = rw c.from_residual-in_err-second.ensures (order-cut c.args.s.now c.in_ok-first.ensures (found-some _ _ c.in_ok-prime.ensures) c.in_err-second.ensures)

pub returns-in_err-order : goal.returns-in_err-order
returns-in_err-order c = rw c.from_residual-in_err-order.ensures (order-bad c.args.s.now c.in_ok-first.ensures (found-some _ _ c.in_ok-prime.ensures) c.in_ok-second.ensures (found-none _ c.in_err-order.ensures))

pub returns-in_err-third : goal.returns-in_err-third
returns-in_err-third c =
    rw c.from_residual-in_err-third.ensures (vars-cut c.args.s.now c.in_ok-first.ensures (found-some _ _ c.in_ok-prime.ensures) c.in_ok-second.ensures (found-some _ _ c.in_ok-order.ensures) c.in_err-third.ensures)

pub returns-in_err-vars : goal.returns-in_err-vars
returns-in_err-vars c =
    rw c.from_residual-in_err-vars.ensures (vars-bad c.args.s.now c.in_ok-first.ensures (found-some _ _ c.in_ok-prime.ensures) c.in_ok-second.ensures (found-some _ _ c.in_ok-order.ensures) c.in_ok-third.ensures (found-none _ c.in_err-vars.ensures))

pub returns-in_err-weights : goal.returns-in_err-weights
returns-in_err-weights c =
    rw c.from_residual-in_err-weights.ensures (rest-none c.args.s.now c.in_ok-first.ensures (found-some _ _ c.in_ok-prime.ensures) c.in_ok-second.ensures (found-some _ _ c.in_ok-order.ensures) c.in_ok-third.ensures (found-some _ _ c.in_ok-vars.ensures) c.in_err-weights.ensures)
