-- A run's operations (document 01, "Runs"), over the six lists. Assumes nothing.
use Prim.Native.Nat.{ℕ, ◌+◌, Ordering}
use Rattle.std.specs.Prelude.{Bool, true, false, List, [], ◌∷◌, ◌++◌, leb, eqb, length}
use Rattle.limits.specs.Limits.{most_terms}
use Rattle.polynomial.specs.Terms.{Term, term}
use Rattle.geobucket.specs.Buckets.{held, full_sum}
use Rattle.geobucket.specs.Search.{Lead, none, lead, search}
use Rattle.geobucket.specs.Events as E
use Rattle.geobucket.specs.Events.{Work, start}
use Rattle.call.specs.Lending.{polynomial}

-- "(1, k) adds polynomial k; (2, 0) takes the lead; (3, 0) gives the full sum."
pub data Operation : Type 0 where
  adds : List (Term ℕ) → Operation
  leads : Operation
  sums : Operation

-- What was done with the geobucket, the output places written, the operations finished, and the refusal that stopped the run, 0 for none.
pub record Running : Type 0 where
  pub work : Work ℕ
  pub output : List (Term ℕ)
  pub finished : ℕ
  pub stop : ℕ

abbrev pub begun : Running
begun = record { work = start; output = []; finished = 0; stop = 0 }

-- a refused operation does nothing
abbrev pub stopped : ℕ → Running → Running
stopped r t = record { work = t.work; output = t.output; finished = t.finished; stop = r }

-- "A lead goes to the next output place; for zero, word 0 and coefficient 0 go there."
abbrev pub place_of : Lead ℕ → Term ℕ
place_of none = term 0 0
place_of (lead at t) = t

module _ (cmp : ℕ → ℕ → Ordering) (p : ℕ) where
  -- an operation that is done is one more finished
  abbrev pub added : List (Term ℕ) → Running → Running
  added f t = record { work = E.added cmp p f t.work; output = t.output; finished = t.finished + 1; stop = t.stop }

  abbrev pub taken : Running → Running
  taken t = record { work = E.removed cmp p t.work; output = t.output ++ (place_of (search cmp p t.work.buckets).answer ∷ []); finished = t.finished + 1; stop = t.stop }

  -- "A full sum is followed by one such zero place."
  abbrev pub summed : Running → Running
  summed t = record { work = E.summed cmp p t.work; output = t.output ++ (full_sum cmp p t.work.buckets ++ (term 0 0 ∷ [])); finished = t.finished + 1; stop = t.stop }

  -- "11: terms held + terms to add > 4,096"; "10: too little output: a lead or remainder term needs one free place; a full sum needs terms held + 1"; by whether there is room
  abbrev pub added_by : Bool → List (Term ℕ) → Running → Running
  added_by true f t = added f t
  added_by false f t = stopped 11 t

  abbrev pub taken_by : Bool → Running → Running
  taken_by true t = taken t
  taken_by false t = stopped 10 t

  abbrev pub summed_by : Bool → Running → Running
  summed_by true t = summed t
  summed_by false t = stopped 10 t

  -- one operation, with so many output places in all
  unfoldable pub operate : (places : ℕ) → Operation → Running → Running
  operate places (adds f) t = added_by (leb (held t.work.buckets + length f) most_terms) f t
  operate places leads t = taken_by (leb (length t.output + 1) places) t
  operate places sums t = summed_by (leb (length t.output + (held t.work.buckets + 1)) places) t

  -- the operations in turn, up to one that is refused
  unfoldable pub operate_all : (places : ℕ) → List Operation → Running → Running
  operate_all places [] t = t
  operate_all places (o ∷ os) t = elim (eqb (operate places o t).stop 0) [ true ↦ operate_all places os (operate places o t) | false ↦ operate places o t ]

-- the operation of a pair, by whether its code is 1 or 2, over the polynomials of the slices; other codes than 1 to 3 are refused beforehand
abbrev pub operation_by : (one two : Bool) → List (Term ℕ) → Operation
operation_by true two f = adds f
operation_by false true f = leads
operation_by false false f = sums

module _ (words coefs starts : List ℕ) where
  abbrev pub operation_of : ℕ → ℕ → Operation
  operation_of code k = operation_by (eqb code 1) (eqb code 2) (polynomial words coefs starts k)

  unfoldable pub operations_of : List ℕ → List Operation
  operations_of [] = []
  operations_of (code ∷ []) = []
  operations_of (code ∷ (k ∷ os)) = operation_of code k ∷ operations_of os
