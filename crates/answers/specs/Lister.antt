-- What the numbers of a C answer of a listing state. Assumes nothing.
use Rattle.std.specs.Prelude.{ℕ, ◌≡◌, Result}
use Rattle.refusal.specs.declared.Refused.{Refused}
use Rattle.listing.specs.Outcome.{ListingStated, listing_stated}
use Rattle.answers.specs.declared.lister.ListingAnswer.{ListingAnswer}

abbrev pub listing_answered : ListingAnswer → ListingStated
listing_answered a = record { number = a.refusal; finished = a.finished; bytes = a.length }

-- the numbers state what the answer of the entry states
abbrev pub ListingSaid : Result ℕ Refused → ListingAnswer → Type 0
ListingSaid answer a = listing_answered a ≡ listing_stated answer
