-- What an operation of a run asks, and what all of them leave. Assumes nothing.
use Rattle.std.specs.Prelude.{ℕ, ◌+◌, ◌*◌, ◌<◌, ◌≤◌, ◌≡◌, List, length, drop, get_or}
use Rattle.limits.specs.Limits.{most_operations}
use Rattle.residue.specs.Modular.{Modulus}
use Rattle.monomial.specs.declared.order.Order.{Order}
use Rattle.monomial.specs.Words.{compare_words}
use Rattle.polynomial.specs.Terms.{Canonical}
use Rattle.polynomial.specs.Opening.{Within}
use Rattle.space.specs.Space.{Spaces}
use Rattle.call.specs.declared.state.State.{State}
use Rattle.call.specs.Lending.{polynomial, Output}
use Rattle.run_outcome.specs.Runs.{begun, operate_all, operations_of}
use Rattle.operations.specs.States.{StandsFor, Counting}

-- an operation whose polynomial, if it adds one, is there
pub record Operable (o : Order) (p : ℕ) (words coefs starts : List ℕ) (code k : ℕ) (s : State) (x : Spaces) (ow oc : List ℕ) : Type 0 where
  pub counting : Counting o p s x
  pub output : Output s.places ow oc
  pub more : s.finished < most_operations
  pub long : length coefs ≡ length words
  pub there : code ≡ 1 → Within starts k (length words) × Canonical (compare_words o) p (polynomial words coefs starts k)

-- operations and polynomials that passed the opening checks
pub record Loaded (o : Order) (p : ℕ) (words coefs starts ops : List ℕ) : Type 0 where
  pub modulus : Modulus p
  pub long : length coefs ≡ length words
  pub parts : (k : ℕ) → k + 1 < length starts → Within starts k (length words)
  pub canonical : (k : ℕ) → k + 1 < length starts → Canonical (compare_words o) p (polynomial words coefs starts k)
  pub pairs : ℕ
  pub whole : length ops ≡ 2 * pairs
  pub most : pairs ≤ most_operations
  pub there : (j : ℕ) → j < pairs → get_or ops (2 * j) 0 ≡ 1 → get_or ops (2 * j + 1) 0 + 1 < length starts

-- all operations were done as defined, up to one that is refused
pub record RanAll (o : Order) (p : ℕ) (words coefs starts ops : List ℕ) (ow oc : List ℕ) (s : State) (x' : Spaces) (ow' oc' : List ℕ) : Type 0 where
  pub counting : Counting o p s x'
  pub output : Output s.places ow' oc'
  pub is : StandsFor o s x' ow' oc' (operate_all (compare_words o) p (length ow) (operations_of words coefs starts ops) begun)
  pub words-past : drop s.places ow' ≡ drop s.places ow
  pub coefs-past : drop s.places oc' ≡ drop s.places oc
