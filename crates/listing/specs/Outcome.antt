-- What the listing's entry answers and leaves, from what came in. Assumes nothing.
use Rattle.std.specs.Prelude.{ℕ, min, Bool, true, false, List, ltb, length, Result, Ok, Err}
use Rattle.std.proofs.lemmas.List.Edits.{sets}
use Rattle.limits.specs.Limits.{listing_bytes}
use Rattle.refusal.specs.Table.{number_of}
use Rattle.refusal.specs.declared.Refused.{Refused}
use Rattle.listing.specs.Whole.{listing_of}

-- "When an answer is an enum, a definition states this paper's number and values for each of its cases": the refusal's number, 0 for none, the operations finished, and the bytes written
pub record ListingStated : Type 0 where
  pub number : ℕ
  pub finished : ℕ
  pub bytes : ℕ

abbrev pub listing_stated : Result ℕ Refused → ListingStated
listing_stated (Ok bytes) = record { number = 0; finished = 0; bytes = bytes }
listing_stated (Err r) = record { number = number_of r.refusal; finished = r.finished; bytes = 0 }

pub record ListingOutcome : Type 0 where
  pub answer : ListingStated
  pub out : List ℕ

-- by whether fewer than 65,536 bytes are lent: then refusal 10, and nothing is written
abbrev pub outcome_by : (few : Bool) → (text out : List ℕ) → ListingOutcome
outcome_by true text out = record { answer = record { number = 10; finished = 0; bytes = 0 }; out = out }
outcome_by false text out = record { answer = record { number = 0; finished = 0; bytes = min (length text) (length out) }; out = sets out 0 text }

abbrev pub listing_outcome : (script out : List ℕ) → ListingOutcome
listing_outcome script out = outcome_by (ltb (length out) listing_bytes) (listing_of script) out
