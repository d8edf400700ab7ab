-- `buckets::level::Level::next` meets its contract.
use native.Mathlib.Omega.{arith}
use Rattle.buckets.proofs.LevelLaws.{next_fits, next-cap, next_zone_is, next_cap_is}
use Rattle.buckets.proofs.level.Level.next.Goals as goal

pub overflow_mul-result : goal.overflow_mul-result
overflow_mul-result c = omega (arith, next-cap c.args.self c.requires)

pub overflow_add-result-2 : goal.overflow_add-result-2
overflow_add-result-2 c = omega (arith, next_fits c.args.self c.requires)

pub overflow_mul-result-2 : goal.overflow_mul-result-2
overflow_mul-result-2 c = omega (arith, next-cap c.args.self c.requires)

pub invariant_of-result : goal.invariant_of-result
invariant_of-result c = record { zone_is = next_zone_is c.args.self; cap_is = next_cap_is c.args.self }
