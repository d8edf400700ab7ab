-- `is_prime` meets its contract: a number that passes as far as its root is prime, and one that fails is not.
use mathlib.Core.Path.{sym, refl, ◌∙◌}
use lib.Dec.{lit≤}
use Rattle.trial_division.proofs.TrialDivision.{not-prime, passed-prime}
use Rattle.primes.proofs.is_prime.Goals as goal

pub returns-then-not-prime_to_317 : goal.returns-then-not-prime_to_317
returns-then-not-prime_to_317 c = sym (not-prime 317 _ (sym c.prime_to_317.ensures ∙ c.if-not-prime_to_317.true))

pub returns-then-p : goal.returns-then-p
returns-then-p c = sym (passed-prime 317 _ (sym c.prime_to_317.ensures ∙ c.if-not-prime_to_317.false) c.if-p.true)

pub prime_to_46349-requires : goal.prime_to_46349-requires
prime_to_46349-requires c = sym c.prime_to_317.ensures ∙ c.if-not-prime_to_317.false

pub returns-then-not-prime_to_46349 : goal.returns-then-not-prime_to_46349
returns-then-not-prime_to_46349 c = sym (not-prime 46349 _ (sym c.prime_to_46349.ensures ∙ c.if-not-prime_to_46349.true))

pub divide_odd-requires : goal.divide_odd-requires
divide_odd-requires c =
    (record { three = lit≤ tt; odd = refl; small = lit≤ tt }, sym c.prime_to_46349.ensures ∙ c.if-not-prime_to_46349.false)
