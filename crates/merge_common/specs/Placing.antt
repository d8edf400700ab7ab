-- Where a merge lies in a space. Assumes nothing.
use Prim.Native.Nat.{ℕ, ◌+◌, ◌<◌, ◌≤◌, Ordering}
use Rattle.std.specs.Prelude.{◌≡◌, List, ◌⊎◌, length, get_or}
use Rattle.polynomial.specs.Terms.{Term, words, coefs}
use Rattle.polynomial.specs.Merge.{merge, merge_count}
use Rattle.merge_common.specs.Lent.{part}
use Rattle.merge_common.specs.declared.merging.Placed.{Placed}

-- f merged with g lies within the places from `low` up to e, and all others are as they were
pub record PlacedIn (cmp : ℕ → ℕ → Ordering) (p : ℕ) (f g : List (Term ℕ)) (low e : ℕ) (sw sc sw' sc' : List ℕ) (r : Placed) : Type 0 where
  pub len_is : r.len ≡ length (merge cmp p f g)
  pub from_low : low ≤ r.head
  pub to_end : r.head + r.len ≤ e
  pub words_are : part r.head r.len sw' ≡ words (merge cmp p f g)
  pub coefs-are : part r.head r.len sc' ≡ coefs (merge cmp p f g)
  pub words-else : (i : ℕ) → (i < low) ⊎ (e ≤ i) → get_or sw' i 0 ≡ get_or sw i 0
  pub coefs-else : (i : ℕ) → (i < low) ⊎ (e ≤ i) → get_or sc' i 0 ≡ get_or sc i 0
  pub count-is : r.comparisons ≡ merge_count cmp f g
