-- `reducer::divide::add_large` meets its contract.
use Prim.Native.Nat.{ℕ}
use native.Mathlib.Omega.{arith}
use lib.ListN.{length-replicate}
use Rattle.reducer.proofs.TailLaws.{times-asks, array-asks, array-done}
use Rattle.reducer.proofs.divide.add_large.Goals as goal

pub put_multiple-requires : goal.put_multiple-requires
put_multiple-requires c = times-asks c.requires.0 (omega (arith, c.requires.1, length-replicate {A = ℕ} 4096 0)) (omega (arith, c.requires.1, length-replicate {A = ℕ} 4096 0))

pub merge_last-requires : goal.merge_last-requires
merge_last-requires c = array-asks c.requires.0 (omega (arith, c.requires.1, length-replicate {A = ℕ} 4096 0)) (omega (arith, c.requires.1, length-replicate {A = ℕ} 4096 0)) c.put_multiple.ensures c.requires.2

pub returns : goal.returns
returns c = array-done c.requires.0 (omega (arith, c.requires.1, length-replicate {A = ℕ} 4096 0)) (omega (arith, c.requires.1, length-replicate {A = ℕ} 4096 0)) c.put_multiple.ensures c.merge_last.ensures
