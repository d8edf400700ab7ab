-- The customer's demands, for the listing: what holds of every call of `listing`, by its defined outcome (`listing_outcome`), and of the text that it writes. Assumes nothing.
use Prim.Native.Nat.{ℕ, ◌≤◌, min}
use native.Mathlib.Omega.{arith}
use mathlib.Core.Path.{◌≡◌, refl, ap, ◌∙◌}
use mathlib.Core.Bool.{Bool, true, false}
use mathlib.Core.List.{List, [], ◌∷◌, map}
use mathlib.Core.Logic.{inl, inr}
use mathlib.Core.Option.{Option, none, some}
use borrow.Author.Tests.{ltb-true, ltb-false, le-ltb}
use lib.Dec.{ltb}
use lib.ListN.{length, take}
use lib.Seq.{sets}
use Rattle.limits.specs.Limits.{listing_bytes}
use Rattle.refusal.specs.Judgement.{Judged, OneOf}
use Rattle.monomial.specs.Layout.{exponents, Below}
use Rattle.run_outcome.specs.Runs.{operations_of}
use Rattle.grammar.specs.Grammar.{Entry, Script, GoodEntry}
use Rattle.grammar.specs.Reading.{script_of}
use Rattle.grammar.specs.Parts.{entry_word, six_weights}
use Rattle.script.specs.Loading.{words_of, coefs_of, starts_of, pairs_of}
use Rattle.listing_lines.specs.Listing.{refused_text}
use Rattle.listing.specs.Whole.{ran_by, ran_text, operation_in, script_outcome, done_text, listing_by, listing_of}
use Rattle.listing.specs.Outcome.{ListingOutcome, outcome_by, listing_outcome}
use Rattle.listing.specs.Judgement.{call_conditions, listing_conditions, refusal_by, printed_refusal}
use Rattle.listing.proofs.SizeLaws.{taken_back}
use Rattle.listing.proofs.LengthLaws.{suffices}
use Rattle.listing.proofs.WholeLaws.{ran-some}
use Rattle.listing.proofs.NeverFull.{refused-at-opening}
use Rattle.listing.proofs.Additions.{operations-are}
use Rattle.listing.proofs.LinesJudged.{exps-of}
use Rattle.listing.proofs.Judgements.{listing-judged, listing-numbers}

-- ---- the call
module _ (script out : List ℕ) where
  abbrev pub listed : ListingOutcome
  listed = listing_outcome script out

  -- Demand 1: every call ends (its contract says so), with a listing or with 10 under its stated condition and no other.
  pub demand-1-call : Judged (call_conditions (length out)) listed.answer.number
  demand-1-call = by (ltb (length out) listing_bytes) refl
    where
      by : (few : Bool) → ltb (length out) listing_bytes ≡ few → Judged (call_conditions (length out)) (outcome_by few (listing_of script) out).answer.number
      by true e = inl ((λ h. let z : ⊥ = omega (arith, h, ltb-true (length out) listing_bytes e) in z), refl)
      by false e = inr (ltb-false (length out) listing_bytes e, refl)

  -- then nothing is changed
  pub demand-1-unchanged : (listed.answer.number ≡ 0 → ⊥) → ◌≡◌ {A = ListingOutcome} listed (record { answer = record { number = 10; finished = 0; bytes = 0 }; out = out })
  demand-1-unchanged = by (ltb (length out) listing_bytes)
    where
      by : (few : Bool) → ((outcome_by few (listing_of script) out).answer.number ≡ 0 → ⊥) → ◌≡◌ {A = ListingOutcome} (outcome_by few (listing_of script) out) (record { answer = record { number = 10; finished = 0; bytes = 0 }; out = out })
      by true refused = refl
      by false refused = absurd (refused refl)

  -- else the whole listing is written, from the first byte on
  pub demand-2-whole : listing_bytes ≤ length out → take listed.answer.bytes listed.out ≡ listing_of script
  demand-2-whole enough =
      let text = listing_of script in
      ap (λ (few : Bool). take (outcome_by few text out).answer.bytes (outcome_by few text out).out) (le-ltb (length out) listing_bytes enough)
      ∙ taken_back (length out) (min (length text) (length out)) out (sets out 0 text) text refl refl (omega (arith, suffices script)) (omega arith)

-- ---- the text
module _ (script : List ℕ) where
  -- Demand 1: the number that is printed is the one of the first of the documents' conditions that does not hold
  pub demand-1-script : Judged (listing_conditions script) (printed_refusal script)
  demand-1-script = listing-judged script

  pub demand-1-script-numbers : OneOf (0 ∷ 1 ∷ 3 ∷ 4 ∷ 5 ∷ 6 ∷ 17 ∷ 24 ∷ []) (printed_refusal script)
  demand-1-script-numbers = listing-numbers script

  -- what the listing is then: "A refusal prints `refused R at K` (number, operations finished) as the last line, without a cost."
  pub demand-1-printed : (printed_refusal script ≡ 0 → ⊥) → listing_of script ≡ refused_text (printed_refusal script) 0
  unfolding listing_of ran_text
  demand-1-printed = by (script_of script) refl
    where
      by : (x : Option Script) → script_of script ≡ x → (refusal_by x ≡ 0 → ⊥) → listing_by x ≡ refused_text (refusal_by x) 0
      by none e refused = refl
      by (some s) e refused =
          let a = (script_outcome s).answer in
          ran-some a.number a.finished (done_text s) refused ∙ ap (refused_text a.number) ((refused-at-opening script s e).1 refused)

  -- Demand 2: where nothing is refused the listing is that of the script's run (of which the demands for runs speak): the lines of all its leads and sums, and its cost
  pub demand-2-printed : printed_refusal script ≡ 0 → (s : Script) × (script_of script ≡ some s) × (listing_of script ≡ done_text s)
  unfolding listing_of ran_text
  demand-2-printed = by (script_of script)
    where
      by : (x : Option Script) → refusal_by x ≡ 0 → (s : Script) × (x ≡ some s) × (listing_by x ≡ done_text s)
      by none z = absurd (let y : ⊥ = omega (arith, z) in y)
      by (some s) z = (s, refl, ap (λ (r : ℕ). ran_by r (script_outcome s).answer.finished (done_text s)) z)

-- and that run is the script's: its operations are the lines of the script in turn, and the words of the terms that it adds have the script's exponents
pub demand-2-operations : (s : Script) → operations_of (words_of s) (coefs_of s) (starts_of s) (pairs_of s) ≡ map (operation_in s) s.lines
demand-2-operations s = operations-are s s.lines 0 0 (refl, refl, refl)

pub demand-2-exponents : (s : Script) → s.vars ≤ 6 → (e : Entry) → GoodEntry s.vars e → Below 128 e.exps → exponents s.order s.vars (entry_word s.order (six_weights s.weights) e) ≡ e.exps
demand-2-exponents s few e g b = exps-of s.order (six_weights s.weights) s.vars few e g b
