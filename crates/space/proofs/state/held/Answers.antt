-- `space::state::held` meets its contract.
use native.Mathlib.Omega.{arith}
use Rattle.space.proofs.SpaceLaws.{held_small}
use Rattle.space.proofs.state.held.Goals as goal

pub overflow_add-result : goal.overflow_add-result
overflow_add-result c = omega (arith, held_small _ c.requires, c.len_of.ensures, c.len_of-2.ensures)

pub overflow_add-result-2 : goal.overflow_add-result-2
overflow_add-result-2 c = omega (arith, held_small _ c.requires, c.len_of.ensures, c.len_of-2.ensures, c.len_of-3.ensures)

pub overflow_add-result-3 : goal.overflow_add-result-3
overflow_add-result-3 c = omega (arith, held_small _ c.requires, c.len_of.ensures, c.len_of-2.ensures, c.len_of-3.ensures, c.len_of-4.ensures)

pub overflow_add-result-4 : goal.overflow_add-result-4
overflow_add-result-4 c = omega (arith, held_small _ c.requires, c.len_of.ensures, c.len_of-2.ensures, c.len_of-3.ensures, c.len_of-4.ensures, c.len_of-5.ensures)

pub overflow_add-result-5 : goal.overflow_add-result-5
overflow_add-result-5 c = omega (arith, held_small _ c.requires, c.len_of.ensures, c.len_of-2.ensures, c.len_of-3.ensures, c.len_of-4.ensures, c.len_of-5.ensures, c.len_of-6.ensures)
