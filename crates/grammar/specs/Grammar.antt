-- The grammar of document 01, "Script": what a script is, and its text. Theorems `read-text` and `text-read` say that the reading accepts exactly these texts. Assumes nothing.
use Rattle.std.specs.Prelude.{ℕ, ◌≤◌, ◌≡◌, List, [], ◌∷◌, ◌++◌, map, length}
use Rattle.std.proofs.Math.Option.{Option, none, some}
use Rattle.limits.specs.Limits.{script_bytes}
use Rattle.monomial.specs.declared.order.Order.{Order}
use Rattle.monomial.specs.declared.order.Order.TheVariants.{Lex, DegLex, DegRevLex}
use Rattle.text.specs.Bytes.{joined}
use Rattle.text.specs.Numbers.{decimal}

-- "A term is coefficient, colon, n exponents parted by dots"
pub record Entry : Type 0 where
  pub coef : ℕ
  pub exps : List ℕ

-- "then lines `add` with terms, `lead`, `sum`"
pub data Line : Type 0 where
  add_line : List Entry → Line
  lead_line : Line
  sum_line : Line

pub record Script : Type 0 where
  pub prime : ℕ
  pub order : Order
  pub vars : ℕ
  -- document 02: "A script may have a line `weights` with n numbers after `vars`."
  pub weights : Option (List ℕ)
  pub lines : List Line

-- ---- the text

-- `prime `, `order `, `vars `, `weights`, `add`, `lead`, `sum` in ASCII
abbrev pub prime-word : List ℕ
prime-word = 112 ∷ 114 ∷ 105 ∷ 109 ∷ 101 ∷ 32 ∷ []

abbrev pub order-word : List ℕ
order-word = 111 ∷ 114 ∷ 100 ∷ 101 ∷ 114 ∷ 32 ∷ []

abbrev pub vars-word : List ℕ
vars-word = 118 ∷ 97 ∷ 114 ∷ 115 ∷ 32 ∷ []

abbrev pub weights-word : List ℕ
weights-word = 119 ∷ 101 ∷ 105 ∷ 103 ∷ 104 ∷ 116 ∷ 115 ∷ []

abbrev pub add-word : List ℕ
add-word = 97 ∷ 100 ∷ 100 ∷ []

abbrev pub lead-word : List ℕ
lead-word = 108 ∷ 101 ∷ 97 ∷ 100 ∷ []

abbrev pub sum-word : List ℕ
sum-word = 115 ∷ 117 ∷ 109 ∷ []

-- `lp`, `Dp`, `dp`
abbrev pub order_name : Order → List ℕ
order_name Lex = 108 ∷ 112 ∷ []
order_name DegLex = 68 ∷ 112 ∷ []
order_name DegRevLex = 100 ∷ 112 ∷ []

-- the colon is 58 and the dot 46
abbrev pub entry_text : Entry → List ℕ
entry_text t = decimal t.coef ++ (58 ∷ joined 46 (map decimal t.exps))

-- "fields parted by one space", each term behind its space, 32
unfoldable pub entries_text : List Entry → List ℕ
entries_text [] = []
entries_text (t ∷ ts) = 32 ∷ (entry_text t ++ entries_text ts)

abbrev pub line_text : Line → List ℕ
line_text (add_line ts) = add-word ++ entries_text ts
line_text lead_line = lead-word
line_text sum_line = sum-word

-- "lines ended by a newline", 10
unfoldable pub lines_text : List Line → List ℕ
lines_text [] = []
lines_text (l ∷ ls) = line_text l ++ (10 ∷ lines_text ls)

-- weights, each behind its space as terms are
unfoldable pub spaced_text : List ℕ → List ℕ
spaced_text [] = []
spaced_text (v ∷ vs) = 32 ∷ (decimal v ++ spaced_text vs)

-- what stands behind the line `vars`
abbrev pub rest_text : Option (List ℕ) → List Line → List ℕ
rest_text none ls = lines_text ls
rest_text (some vs) ls = (weights-word ++ spaced_text vs) ++ (10 ∷ lines_text ls)

unfoldable pub script_text : Script → List ℕ
script_text s =
    (prime-word ++ decimal s.prime) ++ (10 ∷ ((order-word ++ order_name s.order) ++ (10 ∷ ((vars-word ++ decimal s.vars) ++ (10 ∷ rest_text s.weights s.lines)))))

-- ---- which scripts there are

-- "a number over 4,294,967,295 gives 17"
abbrev pub Small : ℕ → Type 0
Small v = v ≤ 4294967295

abbrev pub AllSmall : List ℕ → Type 0
AllSmall [] = Unit {0}
AllSmall (v ∷ vs) = Small v × AllSmall vs

-- "n exponents", at least one
pub record GoodEntry (n : ℕ) (t : Entry) : Type 0 where
  pub coef-small : Small t.coef
  pub exps-small : AllSmall t.exps
  pub some-exps : 1 ≤ length t.exps
  pub n-exps : length t.exps ≡ n

abbrev pub GoodEntries : (n : ℕ) → List Entry → Type 0
GoodEntries n [] = Unit {0}
GoodEntries n (t ∷ ts) = GoodEntry n t × GoodEntries n ts

abbrev pub GoodLine : (n : ℕ) → Line → Type 0
GoodLine n (add_line ts) = GoodEntries n ts
GoodLine n lead_line = Unit {0}
GoodLine n sum_line = Unit {0}

abbrev pub GoodLines : (n : ℕ) → List Line → Type 0
GoodLines n [] = Unit {0}
GoodLines n (l ∷ ls) = GoodLine n l × GoodLines n ls

-- n weights, where there is a line of them; whether they are from 1 to 16 is judged later
abbrev pub GoodWeights : (n : ℕ) → Option (List ℕ) → Type 0
GoodWeights n none = Unit {0}
GoodWeights n (some vs) = AllSmall vs × (length vs ≡ n)

-- "At most 16,384 bytes"
pub record GoodScript (s : Script) : Type 0 where
  pub prime-small : Small s.prime
  pub vars-small : Small s.vars
  pub weights-good : GoodWeights s.vars s.weights
  pub lines-good : GoodLines s.vars s.lines
  pub not-long : length (script_text s) ≤ script_bytes
