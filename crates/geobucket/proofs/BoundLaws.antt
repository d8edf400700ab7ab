-- The bound grows with the number of terms. Assumes nothing.
use mathlib.Core.Logic.{⊎_elim}
use Prim.Native.Nat.{ℕ, ◌≤◌}
use native.Mathlib.Nat.{mul-le-mul}
use native.Mathlib.Omega.{arith}
use Rattle.geobucket.specs.Events.{levels, bound}
use Rattle.geobucket.proofs.Levels.{levels-are}

-- as many levels as reach m terms reach n of them, and there are no more than 6
levels-monotone : (n m : ℕ) → n ≤ m → levels n ≤ levels m
levels-monotone n m h =
    let a = levels-are n in
    let b = levels-are m in
    ⊎_elim (λ r. a.least (levels m) b.one (omega arith)) (λ e. omega (arith, a.six)) b.reaches

pub bound-monotone : (n m : ℕ) → n ≤ m → bound n ≤ bound m
bound-monotone n m h = mul-le-mul (mul-le-mul (let e : 6 ≤ 6 = omega arith in e) h) (levels-monotone n m h)
