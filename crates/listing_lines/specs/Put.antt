-- A text put into a list from a place on. Assumes nothing.
use Rattle.std.specs.Prelude.{ℕ, ◌+◌, min, ◌≡◌, List, length}
use Rattle.std.proofs.lemmas.List.Edits.{sets}

-- What is past the end is left out (`sets` changes no place there), and the next place is at most the end.
pub record Put (text : List ℕ) (at : ℕ) (out out' : List ℕ) (next : ℕ) : Type 0 where
  pub is : out' ≡ sets out at text
  pub place : next ≡ min (at + length text) (length out)
