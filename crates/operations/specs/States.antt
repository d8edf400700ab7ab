-- A run's state in the spaces: what it stands for, and what an operation leaves of it. Assumes nothing.
use Rattle.std.specs.Prelude.{ℕ, ◌+◌, ◌*◌, ◌≤◌, ◌≡◌, List, eqb, length, drop}
use Rattle.limits.specs.Limits.{most_operations, most_terms}
use Rattle.monomial.specs.declared.order.Order.{Order}
use Rattle.monomial.specs.Words.{compare_words}
use Rattle.polynomial.specs.Terms.{Term, terms}
use Rattle.merge_common.specs.Lent.{part}
use Rattle.geobucket.specs.Buckets.{held}
use Rattle.space.specs.Space.{Spaces, words_in, Standing}
use Rattle.call.specs.declared.state.State.{State}
use Rattle.call.specs.States.{goes_on, stop_of}
use Rattle.call.specs.Counts.{Counts}
use Rattle.call.specs.Lending.{Output}
use Rattle.run_outcome.specs.Runs.{Operation, adds, Running, operate}

-- what the state, the buckets and the slices stand for
pub record StandsFor (o : Order) (s : State) (x : Spaces) (ow oc : List ℕ) (t : Running) : Type 0 where
  pub counts : Counts o s x t.work
  pub given-are : s.given ≡ length t.work.given
  pub output-is : terms (part 0 s.places ow) (part 0 s.places oc) ≡ t.output
  pub finished-is : s.finished ≡ t.finished
  pub stop_is : stop_of s.course ≡ t.stop
  pub goes-on-is : goes_on s.course ≡ eqb t.stop 0

-- the buckets of a run and its counts, which are far from 64 bits
pub record Counting (o : Order) (p : ℕ) (s : State) (x : Spaces) : Type 0 where
  pub stands : Standing p x
  pub room : held (words_in o x) ≤ most_terms
  pub most : s.finished ≤ most_operations
  pub few : s.comparisons ≤ 100000 * s.finished
  pub some-brought : s.brought ≤ 100000 * s.finished
  pub some-given : s.given ≤ 100000 * s.finished

-- the operation was done as defined, or was refused; output past the last place written is untouched
pub record Operated (o : Order) (p : ℕ) (operation : Operation) (s : State) (x : Spaces) (ow oc : List ℕ) (s' : State) (x' : Spaces) (ow' oc' : List ℕ) : Type 0 where
  pub counting : Counting o p s' x'
  pub output : Output s'.places ow' oc'
  pub is : (t : Running) → StandsFor o s x ow oc t → StandsFor o s' x' ow' oc' (operate (compare_words o) p (length ow) operation t)
  pub one_more : s'.finished ≤ s.finished + 1
  pub longer : s.places ≤ s'.places
  pub words-past : drop s'.places ow' ≡ drop s'.places ow
  pub coefs-past : drop s'.places oc' ≡ drop s'.places oc

-- an addition has nothing to do with the output
pub record AddOperated (o : Order) (p : ℕ) (f : List (Term ℕ)) (s : State) (x : Spaces) (s' : State) (x' : Spaces) : Type 0 where
  pub done : (ow oc : List ℕ) → Output s.places ow oc → Operated o p (adds f) s x ow oc s' x' ow oc
