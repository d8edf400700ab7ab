-- The entry's outcome, return by return. Assumes nothing.
use Prim.Native.Nat.{ℕ, ◌≤◌, ◌<◌, min}
use native.Mathlib.Nat.{zero-add}
use mathlib.Core.Path.{◌≡◌, sym, ap, ◌∙◌}
use mathlib.Core.Bool.{Bool}
use mathlib.Core.List.{List}
use borrow.Author.Tests.{lt-ltb, le-ltb}
use lib.ListN.{length}
use Rattle.limits.specs.Limits.{listing_bytes}
use Rattle.refusal.specs.declared.Refusal.TheVariants.{NoOutput}
use Rattle.refusal.specs.declared.Refused.{Refused}
use Rattle.std.specs.Prelude.{Ok, Err}
use Rattle.listing_lines.specs.Put.{Put}
use Rattle.listing.specs.Whole.{listing_of}
use Rattle.listing.specs.Outcome.{listing_stated, ListingOutcome, outcome_by, listing_outcome}

pub too_few : (script out : List ℕ) → length out < listing_bytes → {r : Refused} → r ≡ record { refusal = NoOutput; finished = 0 } → ◌≡◌ {A = ListingOutcome} (record { answer = listing_stated (Err r); out = out }) (listing_outcome script out)
too_few script out h {r} e = rw e (sym (ap (λ (b : Bool). outcome_by b (listing_of script) out) (lt-ltb (length out) listing_bytes h)))

same_outcome : {a b : ℕ} {l m : List ℕ} → a ≡ b → l ≡ m → ◌≡◌ {A = ListingOutcome} (record { answer = listing_stated (Ok a); out = l }) (record { answer = listing_stated (Ok b); out = m })
same_outcome p q = cc

pub written : (script : List ℕ) {out out' : List ℕ} {r : ℕ} → listing_bytes ≤ length out → Put (listing_of script) 0 out out' r → ◌≡◌ {A = ListingOutcome} (record { answer = listing_stated (Ok r); out = out' }) (listing_outcome script out)
written script {out} h p = same_outcome (p.place ∙ ap (λ (k : ℕ). min k (length out)) (zero-add (length (listing_of script)))) p.is ∙ sym (ap (λ (b : Bool). outcome_by b (listing_of script) out) (le-ltb (length out) listing_bytes h))
