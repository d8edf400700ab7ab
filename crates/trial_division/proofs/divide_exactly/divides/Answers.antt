-- `divides` meets its contract: the quotient by the inverse.
use Prim.Native.Nat.{◌*◌, ◌%◌, ◌≤◌}
use native.Mathlib.Nat.{mul-le-mul}
use native.Mathlib.Omega.{arith}
use Rattle.trial_division.proofs.TableLaws.{exactly}
use Rattle.trial_division.proofs.divide_exactly.divides.Goals as goal

pub overflow_mul-result : goal.overflow_mul-result
overflow_mul-result c =
    let q : c.from.result * c.from-2.result % c.from-3.result ≤ 67108863 = rw c.from-3.ensures (omega arith) in
    omega (arith, mul-le-mul q c.requires.1)

pub returns : goal.returns
returns c = rw (c.from.ensures, c.from-2.ensures, c.from-3.ensures, c.from-4.ensures) (exactly c.args.p _ _ (omega arith) c.requires.0 c.requires.2)
