-- How a run that passed its opening checks ends: all operations are done, or one is refused, under the condition that document 01 names. Assumes nothing.
use Prim.Native.Nat.{ℕ, ◌+◌, ◌≤◌, Ordering}
use Rattle.std.specs.Prelude.{◌≡◌, List, [], ◌∷◌, ◌++◌, length}
use Rattle.limits.specs.Limits.{most_terms}
use Rattle.polynomial.specs.Terms.{Term}
use Rattle.geobucket.specs.Buckets.{held}
use Rattle.geobucket.specs.Events.{Work}
use Rattle.call.specs.Answers.{Stated}
use Rattle.run_outcome.specs.Runs.{Operation, adds, leads, sums, Running, begun, operate, operate_all}

-- There is room for an operation, with so many output places in all: "11: terms held + terms to add > 4,096"; "a lead or remainder term needs one free place; a full sum needs terms held + 1".
abbrev pub Room : (places : ℕ) → Operation → Work ℕ → (written : List (Term ℕ)) → Type 0
Room places (adds f) w written = held w.buckets + length f ≤ most_terms
Room places leads w written = length written + 1 ≤ places
Room places sums w written = length written + (held w.buckets + 1) ≤ places

-- the number of the refusal of an operation for which there is no room
abbrev pub number_for : Operation → ℕ
number_for (adds f) = 11
number_for leads = 10
number_for sums = 10

-- the numbers that a run can answer with at all, those of its opening checks first
abbrev pub run_numbers : List ℕ
run_numbers = 0 ∷ 1 ∷ 2 ∷ 3 ∷ 4 ∷ 5 ∷ 6 ∷ 8 ∷ 9 ∷ 24 ∷ 10 ∷ 11 ∷ []

module _ (cmp : ℕ → ℕ → Ordering) (p places : ℕ) where
  -- there is room for each operation in its turn, from t on
  unfoldable pub RoomForAll : List Operation → Running → Type 0
  RoomForAll [] t = Unit {0}
  RoomForAll (o ∷ os) t = Room places o t.work t.output × RoomForAll os (operate cmp p places o t)

  -- what the operations leave
  abbrev pub after : List Operation → Running
  after os = operate_all cmp p places os begun

  -- the answer x, the work and the places written are those of these operations, each of which is done
  pub record Finished (os : List Operation) (x : Stated) (w : Work ℕ) (written : List (Term ℕ)) : Type 0 where
    pub rooms : RoomForAll os begun
    pub finished-are : x.finished ≡ length os
    pub places-are : x.places ≡ length written
    pub work-is : w ≡ (after os).work
    pub written-are : written ≡ (after os).output

  -- a refused operation leaves what those before it left
  pub data Ending (os : List Operation) (x : Stated) (w : Work ℕ) (written : List (Term ℕ)) : Type 0 where
    all_done : Finished os x w written → x.number ≡ 0 → Ending os x w written
    refused : (done rest : List Operation) (o : Operation) → os ≡ done ++ (o ∷ rest) → Finished done x w written → (Room places o w written → ⊥) → x.number ≡ number_for o → Ending os x w written
