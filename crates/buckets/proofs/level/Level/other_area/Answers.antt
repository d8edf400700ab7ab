-- `buckets::level::Level::other_area` meets its contract.
use native.Mathlib.Omega.{arith}
use Rattle.buckets.proofs.LevelLaws.{next_fits, next-cap}
use Rattle.buckets.proofs.level.Level.other_area.Goals as goal

pub overflow_mul-result : goal.overflow_mul-result
overflow_mul-result c = omega (arith, next-cap c.args.self (omega (arith, c.requires.0)))

pub overflow_add-result : goal.overflow_add-result
overflow_add-result c = omega (arith, next-cap c.args.self (omega (arith, c.requires.0)), next_fits c.args.self (omega (arith, c.requires.0)))

pub overflow_add-result-2 : goal.overflow_add-result-2
overflow_add-result-2 c = omega (arith, next-cap c.args.self (omega (arith, c.requires.0)), next_fits c.args.self (omega (arith, c.requires.0)))
