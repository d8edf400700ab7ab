-- The listing of document 01, "Script". Assumes nothing.
use Rattle.std.specs.Prelude.{ℕ, zero, suc, ◌+◌, ◌≤◌, ◌≡◌, Bool, true, false, List, [], ◌∷◌, ◌++◌, map, eqb, length, drop}
use Rattle.monomial.specs.declared.order.Order.{Order}
use Rattle.monomial.specs.Layout.{exponents}
use Rattle.polynomial.specs.Terms.{Term, term, terms}
use Rattle.geobucket.specs.Events.{bound}
use Rattle.text.specs.Bytes.{joined}
use Rattle.text.specs.Numbers.{decimal}
use Rattle.listing_lines.specs.declared.answers.Next.{Next}
use Rattle.listing_lines.specs.Put.{Put}
use Rattle.grammar.specs.Grammar.{lead-word, sum-word}

-- ---- a term as the script writes it, behind a space

abbrev pub exponents_text : Order → (n word : ℕ) → List ℕ
exponents_text o n w = joined 46 (map decimal (exponents o n w))

abbrev pub term_text : Order → (n : ℕ) → Term ℕ → List ℕ
term_text o n t = 32 ∷ (decimal t.coef ++ (58 ∷ exponents_text o n t.mono))

-- an exponent, behind a dot unless it is the first
abbrev pub dotted : (i e : ℕ) → List ℕ
dotted zero e = decimal e
dotted (suc i) e = 46 ∷ decimal e

-- ` zero`
abbrev pub zero_word : List ℕ
zero_word = 32 ∷ 122 ∷ 101 ∷ 114 ∷ 111 ∷ []

-- ---- leads and sums, from the output places that are left

-- "Zero prints `lead zero` or `sum zero`."
abbrev pub place_by : (zero : Bool) → Order → (n : ℕ) → Term ℕ → List ℕ
place_by true o n t = zero_word
place_by false o n t = term_text o n t

abbrev pub place_text : Order → (n : ℕ) → Term ℕ → List ℕ
place_text o n t = place_by (eqb t.coef 0) o n t

-- the next place; a run writes one for each lead
abbrev pub first_place : List (Term ℕ) → Term ℕ
first_place [] = term 0 0
first_place (t ∷ ts) = t

unfoldable pub lead_text : Order → (n : ℕ) → List (Term ℕ) → List ℕ
lead_text o n ts = lead-word ++ (place_text o n (first_place ts) ++ (10 ∷ []))

-- the terms of a sum: up to its zero place
unfoldable pub sum_terms : List (Term ℕ) → List (Term ℕ)
sum_terms [] = []
sum_terms (t ∷ ts) = elim (eqb t.coef 0) [ true ↦ [] | false ↦ t ∷ sum_terms ts ]

unfoldable pub terms_text : Order → (n : ℕ) → List (Term ℕ) → List ℕ
terms_text o n [] = []
terms_text o n (t ∷ ts) = term_text o n t ++ terms_text o n ts

abbrev pub zero_if : Bool → List ℕ
zero_if true = zero_word
zero_if false = []

unfoldable pub sum_text : Order → (n : ℕ) → List (Term ℕ) → List ℕ
sum_text o n ts = sum-word ++ (terms_text o n (sum_terms ts) ++ (zero_if (eqb (length (sum_terms ts)) 0) ++ (10 ∷ [])))

-- the line of an operation, by its code, and the places behind it; an addition has neither
abbrev pub answer_by : (add lead : Bool) → Order → (n : ℕ) → List (Term ℕ) → List ℕ
answer_by true lead o n ts = []
answer_by false true o n ts = lead_text o n ts
answer_by false false o n ts = sum_text o n ts

abbrev pub behind_by : (add lead : Bool) → List (Term ℕ) → List (Term ℕ)
behind_by true lead ts = ts
behind_by false true ts = drop 1 ts
behind_by false false ts = drop (length (sum_terms ts) + 1) ts

-- the lines of all operations, given as pairs
unfoldable pub answers_text : Order → (n : ℕ) → (ops : List ℕ) → List (Term ℕ) → List ℕ
answers_text o n [] ts = []
answers_text o n (code ∷ []) ts = []
answers_text o n (code ∷ (k ∷ os)) ts = answer_by (eqb code 1) (eqb code 2) o n ts ++ answers_text o n os (behind_by (eqb code 1) (eqb code 2) ts)

-- ---- what the code hands back
pub record TermsPut (o : Order) (n : ℕ) (ow oc : List ℕ) (at : ℕ) (out out' : List ℕ) (r : Next) : Type 0 where
  pub put : Put (terms_text o n (sum_terms (terms ow oc))) at out out' r.at
  pub read : r.read ≡ length (sum_terms (terms ow oc))
  pub within : r.read ≤ length ow

pub record SumPut (o : Order) (n : ℕ) (ow oc : List ℕ) (at : ℕ) (out out' : List ℕ) (r : Next) : Type 0 where
  pub put : Put (sum_text o n (terms ow oc)) at out out' r.at
  pub read : r.read ≡ length (sum_terms (terms ow oc))
  pub within : r.read ≤ length ow

pub record AnswerPut (o : Order) (n code : ℕ) (ow oc : List ℕ) (at : ℕ) (out out' : List ℕ) (r : Next) : Type 0 where
  pub put : Put (answer_by (eqb code 1) (eqb code 2) o n (terms ow oc)) at out out' r.at
  pub behind : drop r.read (terms ow oc) ≡ behind_by (eqb code 1) (eqb code 2) (terms ow oc)
  pub within : r.read ≤ length ow

-- ---- the last line

-- `cost `, ` of `, `refused `, ` at `
abbrev pub cost-word : List ℕ
cost-word = 99 ∷ 111 ∷ 115 ∷ 116 ∷ 32 ∷ []

abbrev pub of_word : List ℕ
of_word = 32 ∷ 111 ∷ 102 ∷ 32 ∷ []

abbrev pub refused-word : List ℕ
refused-word = 114 ∷ 101 ∷ 102 ∷ 117 ∷ 115 ∷ 101 ∷ 100 ∷ 32 ∷ []

abbrev pub at-word : List ℕ
at-word = 32 ∷ 97 ∷ 116 ∷ 32 ∷ []

-- "The cost line gives comparisons and 6·N·M."
unfoldable pub cost_text : (comparisons brought : ℕ) → List ℕ
cost_text comparisons brought = cost-word ++ (decimal comparisons ++ (of_word ++ (decimal (bound brought) ++ (10 ∷ []))))

-- "A refusal prints `refused R at K` (number, operations finished) as the last line, without a cost."
unfoldable pub refused_text : (number finished : ℕ) → List ℕ
refused_text number finished = refused-word ++ (decimal number ++ (at-word ++ (decimal finished ++ (10 ∷ []))))
