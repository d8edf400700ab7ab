-- What a call's state and buckets say of what was done with the geobucket. Assumes nothing.
use Rattle.std.specs.Prelude.{ℕ, ◌≡◌, length}
use Rattle.geobucket.specs.Events.{Work}
use Rattle.monomial.specs.declared.order.Order.{Order}
use Rattle.space.specs.Space.{Spaces, words_in}
use Rattle.call.specs.declared.state.State.{State}

-- what was done with the geobucket so far is `w`
pub record Counts (o : Order) (s : State) (x : Spaces) (w : Work ℕ) : Type 0 where
  pub buckets-are : words_in o x ≡ w.buckets
  pub comparisons-are : s.comparisons ≡ length w.pairs
  pub brought-are : s.brought ≡ length w.brought
