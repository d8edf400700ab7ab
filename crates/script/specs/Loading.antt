-- A script as a run takes it: words, coefficients, starts and operations. Assumes nothing.
use Rattle.std.specs.Prelude.{Some, None, Option as Answered}
use Rattle.std.specs.Prelude.{ℕ, ◌+◌, ◌*◌, ◌≤◌, List, [], ◌∷◌, ◌++◌, map, ◌≡◌, length}
use Rattle.std.proofs.Math.Option.{Option, none, some}
use Rattle.std.proofs.lemmas.List.Edits.{sets}
use Rattle.limits.specs.Limits.{script_numbers, script_starts, script_terms}
use Rattle.monomial.specs.declared.order.Order.{Order}
use Rattle.text.specs.Bytes.{parts}
use Rattle.grammar.specs.Reading.{fields_of, add_of, line_of, lines_of, script_of}
use Rattle.script.specs.declared.reader.Loaded.{Loaded}
use Rattle.script.specs.declared.line.Counts.{Counts}
use Rattle.grammar.specs.Grammar.{Entry, Line, add_line, lead_line, sum_line, Script}
use Rattle.grammar.specs.Parts.{entry_word, entry_coef, six_weights}

abbrev pub line_entries : Line → List Entry
line_entries (add_line ts) = ts
line_entries lead_line = []
line_entries sum_line = []

-- all terms, line by line
unfoldable pub entries_in : List Line → List Entry
entries_in [] = []
entries_in (l ∷ ls) = line_entries l ++ entries_in ls

-- where the polynomials end, with so many terms before them
unfoldable pub ends_from : (at : ℕ) → List Line → List ℕ
ends_from at [] = []
ends_from at (add_line ts ∷ ls) = (at + length ts) ∷ ends_from (at + length ts) ls
ends_from at (lead_line ∷ ls) = ends_from at ls
ends_from at (sum_line ∷ ls) = ends_from at ls

-- the operations as pairs, with so many polynomials before them: "(1, k) adds polynomial k; (2, 0) takes the lead; (3, 0) gives the full sum"
unfoldable pub pairs_from : (k : ℕ) → List Line → List ℕ
pairs_from k [] = []
pairs_from k (add_line ts ∷ ls) = 1 ∷ k ∷ pairs_from (k + 1) ls
pairs_from k (lead_line ∷ ls) = 2 ∷ 0 ∷ pairs_from k ls
pairs_from k (sum_line ∷ ls) = 3 ∷ 0 ∷ pairs_from k ls

abbrev pub words_of : Script → List ℕ
words_of s = map (entry_word s.order (six_weights s.weights)) (entries_in s.lines)

abbrev pub coefs_of : Script → List ℕ
coefs_of s = map entry_coef (entries_in s.lines)

abbrev pub starts_of : Script → List ℕ
starts_of s = 0 ∷ ends_from 0 s.lines

abbrev pub pairs_of : Script → List ℕ
pairs_of s = pairs_from 0 s.lines

-- ---- what the code hands back

-- Room for terms: each takes at least four bytes of the text, of which there are l.
pub record EntryRoom (l at words coefs : ℕ) : Type 0 where
  pub fits : 4 * at + l ≤ 4 * words
  pub same-long : coefs ≡ words

-- the terms of an addition, put from place at on
abbrev pub EntriesAs : Order → (weights : List ℕ) → Option (List Entry) → (at : ℕ) (words coefs words' coefs' : List ℕ) → Answered ℕ → Type 0
EntriesAs o vs none at words coefs words' coefs' r = r ≡ None
EntriesAs o vs (some ts) at words coefs words' coefs' r = (r ≡ Some (at + length ts)) × (words' ≡ sets words at (map (entry_word o vs) ts)) × (coefs' ≡ sets coefs at (map entry_coef ts))

pub record ReadEntries (o : Order) (vs : List ℕ) (n : ℕ) (s : List ℕ) (at : ℕ) (words coefs words' coefs' : List ℕ) (r : Answered ℕ) : Type 0 where
  pub is : EntriesAs o vs (fields_of n (parts 32 s)) at words coefs words' coefs' r

-- ---- a line
abbrev pub counts_behind : Counts → Line → Counts
counts_behind c (add_line ts) = record { terms = c.terms + length ts; polynomials = c.polynomials + 1; operations = c.operations + 1 }
counts_behind c lead_line = record { terms = c.terms; polynomials = c.polynomials; operations = c.operations + 1 }
counts_behind c sum_line = record { terms = c.terms; polynomials = c.polynomials; operations = c.operations + 1 }

-- Room for a line of l bytes: with its newline it takes four bytes for each term, and at least four for itself.
pub record LineRoom (l : ℕ) (c : Counts) (words coefs starts ops : ℕ) : Type 0 where
  pub terms-fit : 4 * c.terms + l + 1 ≤ 4 * words
  pub same-long : coefs ≡ words
  pub starts_fit : 4 * c.polynomials + l + 5 ≤ 4 * starts
  pub pairs-fit : 4 * c.operations + l + 1 ≤ 2 * ops

abbrev pub LineAs : Order → (weights : List ℕ) → Option Line → Counts → (words coefs starts ops words' coefs' starts' ops' : List ℕ) → Answered Counts → Type 0
LineAs o vs none c words coefs starts ops words' coefs' starts' ops' r = r ≡ None
LineAs o vs (some l) c words coefs starts ops words' coefs' starts' ops' r =
    (r ≡ Some (counts_behind c l))
    × (words' ≡ sets words c.terms (map (entry_word o vs) (line_entries l)))
    × (coefs' ≡ sets coefs c.terms (map entry_coef (line_entries l)))
    × (starts' ≡ sets starts (c.polynomials + 1) (ends_from c.terms (l ∷ [])))
    × (ops' ≡ sets ops (2 * c.operations) (pairs_from c.polynomials (l ∷ [])))

pub record ReadLine (o : Order) (vs : List ℕ) (n : ℕ) (s : List ℕ) (c : Counts) (words coefs starts ops words' coefs' starts' ops' : List ℕ) (r : Answered Counts) : Type 0 where
  pub is : LineAs o vs (line_of n s) c words coefs starts ops words' coefs' starts' ops' r

-- an addition, by what stands behind the word
pub record ReadAdd (o : Order) (vs : List ℕ) (n : ℕ) (s : List ℕ) (c : Counts) (words coefs starts ops words' coefs' starts' ops' : List ℕ) (r : Answered Counts) : Type 0 where
  pub is : LineAs o vs (add_of n s) c words coefs starts ops words' coefs' starts' ops' r

-- ---- the lines
abbrev pub counts_of : List Line → Counts
counts_of ls = record { terms = length (entries_in ls); polynomials = length (ends_from 0 ls); operations = length ls }

-- Room for lines of l bytes: four bytes for each term and each line.
pub record LinesRoom (l words coefs starts ops : ℕ) : Type 0 where
  pub terms-fit : l ≤ 4 * words
  pub same-long : coefs ≡ words
  pub starts_fit : l + 4 ≤ 4 * starts
  pub pairs-fit : l ≤ 2 * ops

abbrev pub LinesAs : Order → (weights : List ℕ) → Option (List Line) → (words coefs starts ops words' coefs' starts' ops' : List ℕ) → Answered Counts → Type 0
LinesAs o vs none words coefs starts ops words' coefs' starts' ops' r = r ≡ None
LinesAs o vs (some ls) words coefs starts ops words' coefs' starts' ops' r =
    (r ≡ Some (counts_of ls))
    × (words' ≡ sets words 0 (map (entry_word o vs) (entries_in ls)))
    × (coefs' ≡ sets coefs 0 (map entry_coef (entries_in ls)))
    × (starts' ≡ sets starts 1 (ends_from 0 ls))
    × (ops' ≡ sets ops 0 (pairs_from 0 ls))

pub record ReadLines (o : Order) (vs : List ℕ) (n : ℕ) (s : List ℕ) (words coefs starts ops words' coefs' starts' ops' : List ℕ) (r : Answered Counts) : Type 0 where
  pub is : LinesAs o vs (lines_of n (parts 10 s)) words coefs starts ops words' coefs' starts' ops' r

-- ---- a whole script

-- the lent places are enough for every script: 16,384 bytes hold at most 4,096 terms, and at most 4,096 lines
pub record ScriptRoom (words coefs starts ops : ℕ) : Type 0 where
  pub words_long : words ≡ script_terms
  pub coefs-long : coefs ≡ script_terms
  pub starts-long : starts ≡ script_starts
  pub ops-long : ops ≡ script_numbers

abbrev pub loaded_of : Script → Loaded
loaded_of s = record { prime = s.prime; order = s.order; vars = s.vars; weights = six_weights s.weights; counts = counts_of s.lines }

abbrev pub ScriptAs : Option Script → (words coefs starts ops words' coefs' starts' ops' : List ℕ) → Answered Loaded → Type 0
ScriptAs none words coefs starts ops words' coefs' starts' ops' r = r ≡ None
ScriptAs (some s) words coefs starts ops words' coefs' starts' ops' r =
    (r ≡ Some (loaded_of s))
    × (words' ≡ sets words 0 (words_of s))
    × (coefs' ≡ sets coefs 0 (coefs_of s))
    × (starts' ≡ sets starts 0 (starts_of s))
    × (ops' ≡ sets ops 0 (pairs_of s))

pub record ReadScript (s : List ℕ) (words coefs starts ops words' coefs' starts' ops' : List ℕ) (r : Answered Loaded) : Type 0 where
  pub is : ScriptAs (script_of s) words coefs starts ops words' coefs' starts' ops' r
