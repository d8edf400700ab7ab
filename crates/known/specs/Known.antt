-- Document 01, "Known results": the starred ones, as a table, and forms of texts and bytes that it fixes in words; and of document 02 what weights do, an edit, and a step limit. Each row but those on monomials is about the outcome of a call. Assumes nothing.
use Prim.Native.Nat.{Ordering}
use Rattle.std.specs.Prelude.{ℕ, zero, suc, ◌+◌, ◌≤◌, ◌≡◌, List, [], ◌∷◌, ◌++◌, length, take, drop, replicate}
use Prim.Native.Char.{code}
use Prim.Native.String.{String, [] as no_more, ◌∷◌ as ◌then◌}
use Rattle.limits.specs.Limits.{bucket_places, listing_bytes, most_terms, work_places}
use Rattle.monomial.specs.declared.order.Order.{Order}
use Rattle.monomial.specs.declared.order.Order.TheVariants.{Lex, DegLex, DegRevLex}
use Rattle.monomial.specs.Exponents.{compare_in, ones}
use Rattle.monomial.specs.Layout.{word_of}
use Rattle.monomial.specs.Words.{compare_words}
use Rattle.polynomial.specs.Terms.{Term, term, terms}
use Rattle.polynomial.specs.Terms as T
use Rattle.polynomial.specs.declared.setting.Setting.{Setting}
use Rattle.polynomial.specs.Settings.{setting_of}
use Rattle.call.specs.Answers.{Outcome}
use Rattle.run_outcome.specs.Outcome.{run_outcome}
use Rattle.division.specs.Examples.{in-dp, dividend, by-x1x2, by-x2², by-x1}
use Rattle.reduction_outcome.specs.Outcome.{reduction_outcome}
use Rattle.block.specs.Block.{number_at}
use Rattle.blocks.specs.Outcome.{write_outcome}
use Rattle.listing.specs.Whole.{no_tally}
use Rattle.listing.specs.Outcome.{ListingOutcome, listing_outcome}

-- ---- calls

-- the bytes of some lines, each ended by a newline
abbrev pub bytes_of : String → List ℕ
bytes_of no_more = []
bytes_of (c then s) = code c ∷ bytes_of s

abbrev pub text_of : List String → List ℕ
text_of [] = []
text_of (l ∷ ls) = bytes_of l ++ (10 ∷ text_of ls)

-- polynomials as they are lent: their terms one after another, and where each starts and ends
abbrev pub side_by_side : List (List (Term ℕ)) → List (Term ℕ)
side_by_side [] = []
side_by_side (f ∷ fs) = f ++ side_by_side fs

abbrev pub starts_from : (at : ℕ) → List (List (Term ℕ)) → List ℕ
starts_from at [] = at ∷ []
starts_from at (f ∷ fs) = at ∷ starts_from (at + length f) fs

abbrev pub zeros : ℕ → List ℕ
zeros n = replicate n 0

-- "In reductions p = 7, dp, n = 2." So it is in the listing and for the block of zero; of document 02 "Known results in 01 are read with weights of 1."
abbrev pub in-7 : Setting
in-7 = setting_of 7 3 2 ones

-- the same in one variable
abbrev pub in_x1 : Setting
in_x1 = setting_of 7 3 1 ones

-- x1^(k-1) + .. + x1 + 1
abbrev pub powers : (k : ℕ) → List (Term ℕ)
powers zero = []
powers (suc k) = in-dp 1 (k ∷ []) ∷ powers k

-- a run of some operations, and a reduction of f by gs, each with 4,096 output places
abbrev pub run_of : List (List (Term ℕ)) → (ops : List ℕ) → Outcome
run_of fs ops =
    let ts = side_by_side fs in
    run_outcome no_tally in-7 (T.words ts) (T.coefs ts) (starts_from 0 fs) ops (zeros bucket_places) (zeros bucket_places) (zeros work_places) (zeros work_places) (zeros most_terms) (zeros most_terms)

abbrev pub reduction-of : Setting → (limit : ℕ) → List (Term ℕ) → List (List (Term ℕ)) → Outcome
reduction-of t limit f gs =
    let ts = side_by_side (f ∷ gs) in
    reduction_outcome no_tally t (T.words ts) (T.coefs ts) (starts_from 0 (f ∷ gs)) limit (zeros bucket_places) (zeros bucket_places) (zeros work_places) (zeros work_places) (zeros most_terms) (zeros most_terms)

-- what lies in the output places that a call says it wrote
abbrev pub output : Outcome → List (Term ℕ)
output o = terms (take o.answer.places o.ow) (take o.answer.places o.oc)

-- ---- the results

-- a known result; monomials are given by their exponents
pub data Result : Type 0 where
  -- in the order, the first monomial is larger than the second
  larger : Order → List ℕ → List ℕ → Result
  -- the same with these weights
  outweighs : Order → (weights : List ℕ) → List ℕ → List ℕ → Result
  -- in the order's layout, the monomial has this word
  word : Order → List ℕ → ℕ → Result
  -- the same with these weights
  weighs : Order → (weights : List ℕ) → List ℕ → ℕ → Result
  -- the listing of the script has these lines
  prints : (script listing : List String) → Result
  -- the run writes these places, and counts so many comparisons
  writes : List (List (Term ℕ)) → (ops : List ℕ) → (places : List (Term ℕ)) → (comparisons : ℕ) → Result
  -- with this step limit, the polynomial by the divisors leaves this remainder, and so many leads are removed
  leaves : (limit : ℕ) → List (Term ℕ) → List (List (Term ℕ)) → (remainder : List (Term ℕ)) → (leads : ℕ) → Result
  -- or the reduction is stopped by this refusal
  stops : (limit : ℕ) → List (Term ℕ) → List (List (Term ℕ)) → (refusal leads : ℕ) → Result
  -- without divisors, all 128 monomials in one variable, with this step limit: the refusal, 0 for none, and the leads removed, each of which goes to the output
  empties : (limit refusal leads : ℕ) → Result
  -- the polynomial is written as one block with this check
  stores : List (Term ℕ) → (check : ℕ) → Result
  -- in its block, the first place holds these bytes
  placed : List (Term ℕ) → (bytes : List ℕ) → Result

-- the listing's entry writes this text, whatever its output held, and leaves what is past it
abbrev pub Prints : (script text : List ℕ) → Type 0
Prints script text = (out : List ℕ) → listing_bytes ≤ length out → ◌≡◌ {A = ListingOutcome} (listing_outcome script out) (record { answer = record { number = 0; finished = 0; bytes = length text }; out = text ++ drop (length text) out })

-- what a result says: the larger monomial is larger by its exponents, and by its word; no refusal is 0
abbrev pub Says : Result → Type 0
Says (larger o α β) = (compare_in o ones α β ≡ Ordering.gt) × (compare_words o (word_of o ones α) (word_of o ones β) ≡ Ordering.gt)
Says (outweighs o vs α β) = (compare_in o vs α β ≡ Ordering.gt) × (compare_words o (word_of o vs α) (word_of o vs β) ≡ Ordering.gt)
Says (word o α w) = word_of o ones α ≡ w
Says (weighs o vs α w) = word_of o vs α ≡ w
Says (prints script listing) = Prints (text_of script) (text_of listing)
Says (writes fs ops places comparisons) = let o = run_of fs ops in (o.answer.number ≡ 0) × (output o ≡ places) × (o.tally.comparisons ≡ comparisons)
Says (leaves limit f gs remainder leads) = let o = reduction-of in-7 limit f gs in (o.answer.number ≡ 0) × (output o ≡ remainder) × (o.answer.finished ≡ leads)
Says (stops limit f gs refusal leads) = let o = reduction-of in-7 limit f gs in (o.answer.number ≡ refusal) × (o.answer.finished ≡ leads)
Says (empties limit refusal leads) = (reduction-of in_x1 limit (powers 128) []).answer ≡ record { number = refusal; finished = leads; places = leads }
Says (stores f check) =
    let o = write_outcome in-7 (T.words f) (T.coefs f) (zeros 512) in
    (o.answer.number ≡ 0) × (o.answer.blocks ≡ 1) × (length o.bytes ≡ 512) × (number_at 4 508 o.bytes ≡ check)
Says (placed f bytes) = take 12 (drop 16 (write_outcome in-7 (T.words f) (T.coefs f) (zeros 512)).bytes) ≡ bytes

-- each result of a list holds
abbrev pub Hold : List Result → Type 0
Hold [] = Unit {0}
Hold (r ∷ rs) = Says r × Hold rs

-- document 01's script, and "all of this" that is printed for it
abbrev pub script : List String
script = "prime 7" ∷ "order dp" ∷ "vars 2" ∷ "add 3:2.0 1:1.1 1:0.2 1:1.0 1:0.1" ∷ "add 4:2.0" ∷ "lead" ∷ "sum" ∷ []

abbrev pub listing : List String
listing = "lead 1:1.1" ∷ "sum 1:0.2 1:1.0 1:0.1" ∷ "cost 1 of 72" ∷ []

-- a script that adds nothing, and one with a number that is no prime
abbrev pub nothing-added : List String
nothing-added = "prime 7" ∷ "order dp" ∷ "vars 2" ∷ "lead" ∷ "sum" ∷ []

abbrev pub zero-lines : List String
zero-lines = "lead zero" ∷ "sum zero" ∷ "cost 0 of 0" ∷ []

abbrev pub bad-prime : List String
bad-prime = "prime 8" ∷ "order dp" ∷ "vars 2" ∷ "sum" ∷ []

abbrev pub refused-line : List String
refused-line = "refused 1 at 0" ∷ []

-- a script with weights, in which x1·x2 is larger than x1²
abbrev pub slide : List String
slide = "prime 7" ∷ "order dp" ∷ "vars 2" ∷ "weights 1 2" ∷ "add 1:1.1 3:2.0 6:1.0" ∷ "lead" ∷ "sum" ∷ []

abbrev pub slide-lines : List String
slide-lines = "lead 1:1.1" ∷ "sum 3:2.0 6:1.0" ∷ "cost 0 of 18" ∷ []

-- document 01's polynomial with 3x2² in place of x2²
abbrev pub edited : List (Term ℕ)
edited = in-dp 1 (2 ∷ 1 ∷ []) ∷ in-dp 1 (1 ∷ 2 ∷ []) ∷ in-dp 3 (0 ∷ 2 ∷ []) ∷ []

-- six weights that differ, and a heavy x2
abbrev pub six-weights : List ℕ
six-weights = 3 ∷ 5 ∷ 7 ∷ 11 ∷ 13 ∷ 16 ∷ []

abbrev pub heavy-x2 : List ℕ
heavy-x2 = 1 ∷ 16 ∷ 1 ∷ 1 ∷ 1 ∷ 1 ∷ []

abbrev pub table : List Result
table =
    -- "* dp, n = 3: x2² > x1·x3. * Dp: x1·x3 > x2². * lp: x1 > x2^5."
    larger DegRevLex (0 ∷ 2 ∷ 0 ∷ []) (1 ∷ 0 ∷ 1 ∷ [])
    ∷ larger DegLex (1 ∷ 0 ∷ 1 ∷ []) (0 ∷ 2 ∷ 0 ∷ [])
    ∷ larger Lex (1 ∷ 0 ∷ []) (0 ∷ 5 ∷ [])
    -- "* x1²·x2, n = 2: word 0003000000000102 (hexadecimal) in dp, 0003020100000000 in lp."
    ∷ word DegRevLex (2 ∷ 1 ∷ []) 0x0003_0000_0000_0102
    ∷ word Lex (2 ∷ 1 ∷ []) 0x0003_0201_0000_0000
    -- "* The listing's lead and sum, and its count 1."
    ∷ prints script listing
    -- and the run that it makes of the script
    ∷ writes
    ((in-dp 3 (2 ∷ 0 ∷ []) ∷ in-dp 1 (1 ∷ 1 ∷ []) ∷ in-dp 1 (0 ∷ 2 ∷ []) ∷ in-dp 1 (1 ∷ 0 ∷ []) ∷ in-dp 1 (0 ∷ 1 ∷ []) ∷ []) ∷ (in-dp 4 (2 ∷ 0 ∷ []) ∷ []) ∷ [])
    (1 ∷ 0 ∷ 1 ∷ 1 ∷ 2 ∷ 0 ∷ 3 ∷ 0 ∷ [])
    (in-dp 1 (1 ∷ 1 ∷ []) ∷ in-dp 1 (0 ∷ 2 ∷ []) ∷ in-dp 1 (1 ∷ 0 ∷ []) ∷ in-dp 1 (0 ∷ 1 ∷ []) ∷ term 0 0 ∷ []) 1
    -- "* x1²x2 + x1x2² + x2² by x1x2+6, x2²+6: remainder x1+x2+1, 6 leads; limit 5 stops with 13. * Divisors swapped: 2x1+1, 5 leads."
    ∷ leaves 6 dividend (by-x1x2 ∷ by-x2² ∷ []) (in-dp 1 (1 ∷ 0 ∷ []) ∷ in-dp 1 (0 ∷ 1 ∷ []) ∷ in-dp 1 (0 ∷ 0 ∷ []) ∷ []) 6
    ∷ stops 5 dividend (by-x1x2 ∷ by-x2² ∷ []) 13 5
    ∷ leaves 5 dividend (by-x2² ∷ by-x1x2 ∷ []) (in-dp 2 (1 ∷ 0 ∷ []) ∷ in-dp 1 (0 ∷ 0 ∷ []) ∷ []) 5
    -- of document 02, "an edit at one monomial moves the remainder by that term's own remainder, scaled": x2² leaves 1, and with 3x2² in place of x2² the remainder is x1+x2+3
    ∷ leaves 2 (in-dp 1 (0 ∷ 2 ∷ []) ∷ []) (by-x1x2 ∷ by-x2² ∷ []) (in-dp 1 (0 ∷ 0 ∷ []) ∷ []) 2
    ∷ leaves 6 edited (by-x1x2 ∷ by-x2² ∷ []) (in-dp 1 (1 ∷ 0 ∷ []) ∷ in-dp 1 (0 ∷ 1 ∷ []) ∷ in-dp 3 (0 ∷ 0 ∷ []) ∷ []) 6
    -- "* By x2²+6x1: x1^126·x2² leaves x1^127; * x1^127·x2² stops with 12."
    ∷ leaves 2 (in-dp 1 (126 ∷ 2 ∷ []) ∷ []) (by-x1 ∷ []) (in-dp 1 (127 ∷ 0 ∷ []) ∷ []) 2
    ∷ stops 2 (in-dp 1 (127 ∷ 2 ∷ []) ∷ []) (by-x1 ∷ []) 12 0
    -- "* Zero, p = 7, dp, n = 2: check 00080204 (hexadecimal)."
    ∷ stores [] 0x0008_0204
    -- "Zero prints `lead zero` or `sum zero`."
    ∷ prints nothing-added zero-lines
    -- "A refusal prints `refused R at K` (number, operations finished) as the last line, without a cost."
    ∷ prints bad-prime refused-line
    -- "Numbers are little-endian."; "41 places of 12 bytes (word, coefficient)": 3·x1²·x2
    ∷ placed (in-dp 3 (2 ∷ 1 ∷ []) ∷ []) (2 ∷ 1 ∷ 0 ∷ 0 ∷ 0 ∷ 0 ∷ 3 ∷ 0 ∷ 3 ∷ 0 ∷ 0 ∷ 0 ∷ [])
    -- of document 02, "the degree field holds the weighted sum": x1·x2²·x6 has the degree 3 + 2·5 + 16 = 29, in dp and in lp
    ∷ weighs DegRevLex six-weights (1 ∷ 2 ∷ 0 ∷ 0 ∷ 0 ∷ 1 ∷ []) 0x001d_0100_0000_0201
    ∷ weighs Lex six-weights (1 ∷ 2 ∷ 0 ∷ 0 ∷ 0 ∷ 1 ∷ []) 0x001d_0102_0000_0001
    -- "lp still ignores the degree when comparing.": x1 > x2 there, and x2 > x1 in Dp and dp
    ∷ outweighs Lex heavy-x2 (1 ∷ 0 ∷ []) (0 ∷ 1 ∷ [])
    ∷ outweighs DegLex heavy-x2 (0 ∷ 1 ∷ []) (1 ∷ 0 ∷ [])
    ∷ outweighs DegRevLex heavy-x2 (0 ∷ 1 ∷ []) (1 ∷ 0 ∷ [])
    -- "Slide joints count double": with weights of 1 these terms would not fall
    ∷ prints slide slide-lines
    -- "13 is never given with an allowed step limit" of 128^n or more: one less does not do at n = 1
    ∷ empties 127 13 127
    ∷ empties 128 0 128
    -- "all reductions finished": stopped earlier, the same polynomial has another remainder so far
    ∷ empties 126 13 126
    ∷ []
