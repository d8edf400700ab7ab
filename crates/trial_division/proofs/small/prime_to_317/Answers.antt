-- `prime_to_317` meets its contract.
use mathlib.Core.Path.{sym}
use native.Mathlib.Omega.{arith}
use Rattle.trial_division.proofs.TrialDivision.{few-primes, odd-true, one-false}
use Rattle.trial_division.proofs.small.prime_to_317.Goals as goal

pub returns-then-p-lt4 : goal.returns-then-p-lt4
returns-then-p-lt4 c = few-primes _ c.if-p-lt4.true

pub returns-then-p-eq0 : goal.returns-then-p-eq0
returns-then-p-eq0 c = sym (one-false 317 _ 2 (omega arith) (omega arith) (omega arith) c.if-p-eq0.true)

pub divide_small-requires : goal.divide_small-requires
divide_small-requires c = odd-true _ c.if-p-lt4.false c.if-p-eq0.false
