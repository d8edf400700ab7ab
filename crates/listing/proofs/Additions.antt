-- The operations of a script's run are its lines, in turn, and the polynomials those of its additions. Assumes nothing.
use Prim.Native.Nat.{ℕ, ◌+◌, ◌-◌}
use native.Mathlib.Omega.{arith}
use mathlib.Core.Path.{◌≡◌, refl, sym, ap, ap₂, ◌∙◌}
use mathlib.Core.List.{List, [], ◌∷◌, ◌++◌, map, map-append}
use lib.ListN.{length, get_or, take, drop, length-map}
use lib.Seq.{take_at, drop_at, drop-drop}
use Rattle.polynomial.specs.Terms.{Term, terms}
use Rattle.polynomial.specs.Opening.{part_of}
use Rattle.call.specs.Lending.{polynomial}
use Rattle.run_outcome.specs.Runs.{Operation, adds, leads, sums, operations_of}
use Rattle.grammar.specs.Grammar.{Entry, Line, add_line, lead_line, sum_line, Script}
use Rattle.grammar.specs.Parts.{entry_word, entry_coef, six_weights}
use Rattle.script.specs.Loading.{entries_in, ends_from, pairs_from, words_of, coefs_of, starts_of}
use Rattle.listing.specs.Whole.{operation_in}
use Rattle.listing.proofs.NeverFull.{at_place}

-- ---- a part of a list, and what is behind it
part-is : (f : Entry → ℕ) (starts l : List ℕ) (k at : ℕ) (es rest : List Entry) → get_or starts k 0 ≡ at → get_or starts (k + 1) 0 ≡ at + length es → drop at l ≡ map f (es ++ rest) → part_of starts k l ≡ map f es
part-is f starts l k at es rest e e' d =
    ap₂ (λ (x y : ℕ). take (x - y) (drop y l)) e' e
    ∙ (ap (λ (x : ℕ). take x (drop at l)) (let q : at + length es - at ≡ length es = omega arith in q)
    ∙ (ap (take (length es)) (d ∙ map-append f es rest) ∙ take_at (map f es) (map f rest) (length es) (length-map es f)))

rest-is : (f : Entry → ℕ) (l : List ℕ) (at : ℕ) (es rest : List Entry) → drop at l ≡ map f (es ++ rest) → drop (at + length es) l ≡ map f rest
rest-is f l at es rest d = sym (drop-drop (length es) at l) ∙ (ap (drop (length es)) (d ∙ map-append f es rest) ∙ drop_at (map f es) (map f rest) (length es) (length-map es f))

-- ---- from polynomial k and term `at` on, starts, words and coefficients are those of the lines ls
abbrev pub From : Script → List Line → (k at : ℕ) → Type 0
From s ls k at = (drop k (starts_of s) ≡ at ∷ ends_from at ls) × (drop at (words_of s) ≡ map (entry_word s.order (six_weights s.weights)) (entries_in ls)) × (drop at (coefs_of s) ≡ map entry_coef (entries_in ls))

module _ (s : Script) (us : List Entry) (ls : List Line) (k at : ℕ) (f : From s (add_line us ∷ ls) k at) where
  abbrev end : ℕ
  end = at + length us

  begins : (get_or (starts_of s) k 0 ≡ at) × (drop (k + 1) (starts_of s) ≡ end ∷ ends_from end ls)
  unfolding ends_from
  begins = at_place (starts_of s) k at (end ∷ ends_from end ls) f.0

  ends : get_or (starts_of s) (k + 1) 0 ≡ end
  ends = (at_place (starts_of s) (k + 1) end (ends_from end ls) begins.1).0

  -- polynomial k is the addition
  pub added_is : polynomial (words_of s) (coefs_of s) (starts_of s) k ≡ terms (map (entry_word s.order (six_weights s.weights)) us) (map entry_coef us)
  unfolding entries_in
  added_is = ap₂ terms (part-is (entry_word s.order (six_weights s.weights)) (starts_of s) (words_of s) k at us (entries_in ls) begins.0 ends f.1) (part-is entry_coef (starts_of s) (coefs_of s) k at us (entries_in ls) begins.0 ends f.2)

  pub from_next : From s ls (k + 1) (at + length us)
  unfolding entries_in
  from_next = (begins.1, rest-is (entry_word s.order (six_weights s.weights)) (words_of s) at us (entries_in ls) f.1, rest-is entry_coef (coefs_of s) at us (entries_in ls) f.2)

pub operations-are : (s : Script) (ls : List Line) (k at : ℕ) → From s ls k at → operations_of (words_of s) (coefs_of s) (starts_of s) (pairs_from k ls) ≡ map (operation_in s) ls
unfolding operations_of pairs_from ends_from entries_in
operations-are s [] k at f = refl
operations-are s (add_line us ∷ ls) k at f = ap₂ (λ (x : List (Term ℕ)) (y : List Operation). adds x ∷ y) (added_is s us ls k at f) (operations-are s ls (k + 1) (at + length us) (from_next s us ls k at f))
operations-are s (lead_line ∷ ls) k at f = ap (λ (y : List Operation). leads ∷ y) (operations-are s ls k at f)
operations-are s (sum_line ∷ ls) k at f = ap (λ (y : List Operation). sums ∷ y) (operations-are s ls k at f)
