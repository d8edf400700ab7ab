-- Document 01's "Faults that look reasonable": for each a call, and what is right there; the faulty program makes something else of it. Assumes nothing.
use mathlib.Core.Path.{◌≡◌, refl}
use mathlib.Core.List.{List, [], ◌∷◌}
use Prim.Native.Nat.{ℕ, compare}
use lib.ListN.{length}
use Rattle.polynomial.specs.Terms.{Term, term}
use Rattle.polynomial.specs.Merge.{keep, into, merge, compared_into, compared}
use Rattle.geobucket.specs.Buckets.{empty, held, carry, carry_compared, place, place_compared, add, add_compared}
use Rattle.geobucket.specs.Search.{lead, seek, pass, onward, ended, search_in, search}

abbrev one-term : ℕ → ℕ → List (Term ℕ)
one-term m c = term m c ∷ []

-- "Giving out a candidate before the higher buckets are searched" gives monomial 1 here
pub higher-searched : (search compare 7 (one-term 1 1 ∷ one-term 2 1 ∷ [])).answer ≡ lead 1 (term 2 1)
unfolding held seek pass onward ended search_in
higher-searched = refl

-- "Searching again as soon as a candidate reaches 0, although a larger lead may follow" makes 1 comparison here
pub candidate-stays : length (search compare 7 (one-term 1 3 ∷ one-term 1 4 ∷ one-term 2 1 ∷ [])).pairs ≡ 2
unfolding held seek pass onward ended search_in keep
candidate-stays = refl

-- "Counting an add into an empty bucket as comparisons" counts some here
pub none-counted : add_compared compare 7 (one-term 1 1) empty ≡ []
unfolding merge into compared compared_into carry carry_compared place place_compared add add_compared
none-counted = refl

-- "Keeping a 0 coefficient after a merge" leaves a term here
pub none_kept : add compare 7 (one-term 1 4) (one-term 1 3 ∷ []) ≡ [] ∷ []
unfolding keep merge into carry place add
none_kept = refl
