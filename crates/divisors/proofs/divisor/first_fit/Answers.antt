-- `divisors::divisor::first_fit` meets its contract: none of the kept leads fits where none is found among them.
use Rattle.divisors.proofs.DivisorLaws.{fit-kept, fit-rest}
use Rattle.divisors.proofs.divisor.first_fit.Goals as goal

pub returns-in-Some : goal.returns-in-Some
returns-in-Some c = fit-kept c.requires.0 c.requires.1 c.count_kept-n.ensures c.in-Some.ensures.0 c.in-Some.ensures.1

pub returns : goal.returns
returns c = fit-rest c.requires.0 c.requires.1 c.count_kept-n.ensures c.in_default.ensures _ c.first_past.ensures
