-- What can be printed for a script, whatever its bytes. Assumes nothing.
use Rattle.std.specs.Prelude.{ℕ, ◌≤◌, ◌≡◌, List, ◌⊎◌, length}
use Rattle.std.proofs.Math.Option.{none, some}
use Rattle.limits.specs.Limits.{script_terms}
use Rattle.grammar.specs.Grammar.{Script}
use Rattle.grammar.specs.Reading.{script_of}
use Rattle.script.specs.Loading.{entries_in, ends_from}
use Rattle.listing_lines.specs.Listing.{refused_text}
use Rattle.listing.specs.Whole.{script_outcome, done_text, listing_of}

-- what is read has room: at most 4,096 terms, polynomials and operations
pub record Sizes (s : Script) : Type 0 where
  pub terms : length (entries_in s.lines) ≤ script_terms
  pub polynomials : length (ends_from 0 s.lines) ≤ script_terms
  pub operations : length s.lines ≤ script_terms

-- an opening refusal of a script's run is one of 1 to 9, or 24
abbrev pub Opening : ℕ → Type 0
Opening r = (r ≤ 9) ⊎ (r ≡ 24)

-- the listing of any bytes: not a script; or refused by an opening check; or the lines of all leads and sums, and the cost
pub data Printed (bytes : List ℕ) : Type 0 where
  bad-script : script_of bytes ≡ none → listing_of bytes ≡ refused_text 17 0 → Printed bytes
  refused : (number : ℕ) → (number ≡ 0 → ⊥) → Opening number → listing_of bytes ≡ refused_text number 0 → Printed bytes
  done : (s : Script) → script_of bytes ≡ some s → (script_outcome s).answer.number ≡ 0 → listing_of bytes ≡ done_text s → Printed bytes
