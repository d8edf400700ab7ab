-- `multiple::multiple::raise` meets its contract: the difference is taken byte by byte.
use native.Mathlib.Omega.{arith}
use Rattle.multiple.proofs.HighestLaws.{no_borrow, raise-fits, raised}
use Rattle.multiple.proofs.multiple.raise.Goals as goal

pub overflow_sub-up : goal.overflow_sub-up
overflow_sub-up c = no_borrow c.args.h c.args.w c.requires.0 c.requires.1 c.requires.2

pub overflow_add-result : goal.overflow_add-result
overflow_add-result c = omega (arith, raise-fits c.args.h c.args.w c.requires.0 c.requires.1 c.requires.2)

pub returns : goal.returns
returns c = raised c.args.h c.args.w c.requires.0 c.requires.1 c.requires.2
