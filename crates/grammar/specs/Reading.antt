-- The reading of a script: by lines, by fields behind a space, by colon and dots. Assumes nothing.
use Rattle.std.specs.Prelude.{ℕ, suc, Bool, true, false, List, [], ◌∷◌, ◌++◌, eqb, ltb, leb, length, take, drop}
use Rattle.std.proofs.Math.Option.{Option, none, some}
use Rattle.limits.specs.Limits.{script_bytes}
use Rattle.monomial.specs.declared.order.Order.{Order}
use Rattle.monomial.specs.declared.order.Order.TheVariants.{Lex, DegLex, DegRevLex}
use Rattle.text.specs.Bytes.{begins, same, index_of, parts}
use Rattle.text.specs.Numbers.{and_then, only_if, number_of}
use Rattle.grammar.specs.Grammar.{Entry, Line, add_line, lead_line, sum_line, Script, prime-word, order-word, vars-word, weights-word, add-word, lead-word, sum-word, order_name}

-- each part is a number
unfoldable pub numbers_of : List (List ℕ) → Option (List ℕ)
numbers_of [] = some []
numbers_of (p ∷ ps) = and_then (number_of p) (λ v. and_then (numbers_of ps) (λ vs. some (v ∷ vs)))

-- n exponents parted by dots
abbrev pub exponents_of : (n : ℕ) → List ℕ → Option (List ℕ)
exponents_of n s = and_then (numbers_of (parts 46 s)) (λ es. only_if (eqb (length es) n) es)

-- a term, by the place of its colon
abbrev pub entry_at : (n k : ℕ) → List ℕ → Option Entry
entry_at n k s = and_then (number_of (take k s)) (λ c. and_then (exponents_of n (drop (suc k) s)) (λ es. some (record { coef = c; exps = es })))

abbrev pub entry_by : (colon : Bool) → (n k : ℕ) → List ℕ → Option Entry
entry_by true n k s = entry_at n k s
entry_by false n k s = none

unfoldable pub entry_of : (n : ℕ) → List ℕ → Option Entry
entry_of n s = entry_by (ltb (index_of 58 s) (length s)) n (index_of 58 s) s

unfoldable pub entries_of : (n : ℕ) → List (List ℕ) → Option (List Entry)
entries_of n [] = some []
entries_of n (f ∷ fs) = and_then (entry_of n f) (λ t. and_then (entries_of n fs) (λ ts. some (t ∷ ts)))

-- the fields behind the word `add`: nothing stands before the first space
abbrev pub fields_of : (n : ℕ) → List (List ℕ) → Option (List Entry)
fields_of n [] = none
fields_of n ([] ∷ fs) = entries_of n fs
fields_of n ((b ∷ p) ∷ fs) = none

unfoldable pub add_of : (n : ℕ) → List ℕ → Option Line
add_of n s = and_then (fields_of n (parts 32 s)) (λ ts. some (add_line ts))

-- a line, by whether it is `lead` or `sum`, or begins with `add`
abbrev pub line_by : (lead sum add : Bool) → (n : ℕ) → List ℕ → Option Line
line_by true sum add n s = some lead_line
line_by false true add n s = some sum_line
line_by false false true n s = add_of n (drop 3 s)
line_by false false false n s = none

unfoldable pub line_of : (n : ℕ) → List ℕ → Option Line
line_of n s = line_by (same lead-word s) (same sum-word s) (begins add-word s) n s

-- "lines ended by a newline": behind the last newline there is nothing
unfoldable pub lines_of : (n : ℕ) → List (List ℕ) → Option (List Line)
lines_of n [] = none
lines_of n ([] ∷ []) = some []
lines_of n ((b ∷ s) ∷ []) = none
lines_of n (s ∷ (r ∷ rs)) = and_then (line_of n s) (λ l. and_then (lines_of n (r ∷ rs)) (λ ls. some (l ∷ ls)))

-- ---- the first lines
abbrev pub number_if : Bool → List ℕ → Option ℕ
number_if true s = number_of s
number_if false s = none

-- the number behind a word
abbrev pub after_word : List ℕ → List ℕ → Option ℕ
after_word w s = number_if (begins w s) (drop (length w) s)

abbrev pub order_by : (lp Dp dp : Bool) → Option Order
order_by true Dp dp = some Lex
order_by false true dp = some DegLex
order_by false false true = some DegRevLex
order_by false false false = none

abbrev pub order_read : List ℕ → Option Order
order_read s = order_by (same (order-word ++ order_name Lex) s) (same (order-word ++ order_name DegLex) s) (same (order-word ++ order_name DegRevLex) s)

-- numbers, each behind a space
abbrev pub spaced_of : List (List ℕ) → Option (List ℕ)
spaced_of [] = none
spaced_of ([] ∷ fs) = numbers_of fs
spaced_of ((b ∷ p) ∷ fs) = none

-- the n weights behind the word `weights`
abbrev pub weights_of : (n : ℕ) → List ℕ → Option (List ℕ)
weights_of n s = and_then (spaced_of (parts 32 s)) (λ vs. only_if (eqb (length vs) n) vs)

-- a script of which the first lines have been read
abbrev pub script_from : (p : ℕ) → Order → (n : ℕ) → Option (List ℕ) → List (List ℕ) → Option Script
script_from p o n weights ls = and_then (lines_of n ls) (λ xs. some (record { prime = p; order = o; vars = n; weights = weights; lines = xs }))

-- the lines behind `vars`, by whether the first of them begins with `weights`
abbrev pub rest_by : (weights : Bool) → (p : ℕ) → Order → (n : ℕ) → List ℕ → List (List ℕ) → Option Script
rest_by true p o n l ls = and_then (weights_of n (drop 7 l)) (λ vs. script_from p o n (some vs) ls)
rest_by false p o n l ls = script_from p o n none (l ∷ ls)

abbrev pub rest_of : (p : ℕ) → Order → (n : ℕ) → List (List ℕ) → Option Script
rest_of p o n [] = none
rest_of p o n (l ∷ ls) = rest_by (begins weights-word l) p o n l ls

abbrev pub with_header : List (List ℕ) → Option Script
with_header (a ∷ (b ∷ (c ∷ ls))) = and_then (after_word prime-word a) (λ p. and_then (order_read b) (λ o. and_then (after_word vars-word c) (λ n. rest_of p o n ls)))
with_header [] = none
with_header (a ∷ []) = none
with_header (a ∷ (b ∷ [])) = none

-- the reading of a script, where there is one; "At most 16,384 bytes"
unfoldable pub script_of : List ℕ → Option Script
script_of s = elim (leb (length s) script_bytes) [ true ↦ with_header (parts 10 s) | false ↦ none ]
