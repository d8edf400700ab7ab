-- What the readers of a term and of the first lines hand back. Assumes nothing.
use Rattle.std.specs.Prelude.{Some, None, Option as Answered}
use Rattle.std.specs.Prelude.{ℕ, ◌-◌, ◌≤◌, min, List, [], ◌∷◌, ◌++◌, map, ◌≡◌, length, take, drop, replicate}
use Rattle.std.proofs.Math.Option.{Option, none, some}
use Rattle.std.proofs.lemmas.List.Edits.{sets}
use Rattle.monomial.specs.Exponents.{ones}
use Rattle.monomial.specs.declared.order.Order.{Order}
use Rattle.monomial.specs.Layout.{word_of, Below}
use Rattle.std.specs.Coded.{×_prop, Unit-prop, le_prop}
use Rattle.text.specs.Bytes.{parts}
use Rattle.grammar.specs.Grammar.{Entry}
use Rattle.grammar.specs.Reading.{numbers_of, spaced_of, script_from, rest_of, with_header}

-- ---- numbers between separators

-- A number as a byte. "an exponent over 127 gives 5": its word is outside the layout.
abbrev pub capped : ℕ → ℕ
capped e = min e 255

-- numbers, of which those that have a place are stored as bytes
abbrev pub CountedAs : Option (List ℕ) → (bytes bytes' : List ℕ) → Answered ℕ → Type 0
CountedAs none bytes bytes' r = r ≡ None
CountedAs (some vs) bytes bytes' r = (r ≡ Some (length vs)) × (bytes' ≡ sets bytes 0 (map capped vs))

pub record ReadNumbers (b : ℕ) (s bytes bytes' : List ℕ) (r : Answered ℕ) : Type 0 where
  pub is : CountedAs (numbers_of (parts b s)) bytes bytes' r

-- ---- a term

-- The word of a term with these weights. More than six variables are refused with 3, whatever the word.
abbrev pub entry_word : Order → (weights : List ℕ) → Entry → ℕ
entry_word o vs t = word_of o vs (map capped (take 6 t.exps))

abbrev pub entry_coef : Entry → ℕ
entry_coef t = t.coef

abbrev pub parsed : Order → (weights : List ℕ) → Option Entry → Answered (ℕ × ℕ)
parsed o vs none = None
parsed o vs (some t) = Some (entry_word o vs t, entry_coef t)

-- a list below a limit is so in one way
pub Below-prop : (k : ℕ) (vs : List ℕ) → IsProp (Below k vs)
Below-prop k [] = Unit-prop
Below-prop k (v ∷ vs) = ×_prop le_prop (Below-prop k vs)

-- ---- the weights

-- A weight as it is handed on. One over 16 gives 24, and the words are made before: with weights of at most 17 none is over 64 bits.
abbrev pub capped_weight : ℕ → ℕ
capped_weight v = min v 17

-- the weights of six variables: 1 where a script has no number, and those beyond six dropped
abbrev pub six_weights : Option (List ℕ) → List ℕ
six_weights none = ones
six_weights (some vs) = map capped_weight (take 6 vs) ++ replicate (6 - length vs) 1

pub record ReadSpaced (s bytes bytes' : List ℕ) (r : Answered ℕ) : Type 0 where
  pub is : CountedAs (spaced_of (parts 32 s)) bytes bytes' r

-- the weights of a line of them
abbrev pub weights_found : Option (List ℕ) → Answered (List ℕ)
weights_found none = None
weights_found (some vs) = Some (six_weights (some vs))

-- ---- the first lines

-- what stands behind the line `vars` is no rest of a script
abbrev pub NoRest : (n : ℕ) (s : List ℕ) → Type 0
NoRest n s = (p : ℕ) (o : Order) → rest_of p o n (parts 10 s) ≡ none

-- it has these weights, and these lines behind them
pub record RestRead (n : ℕ) (s weights lines : List ℕ) : Type 0 where
  pub given : Option (List ℕ)
  pub weighed : weights ≡ six_weights given
  pub from : ℕ
  pub from-in : from ≤ length s
  pub behind : lines ≡ drop from s
  pub is : (p : ℕ) (o : Order) → rest_of p o n (parts 10 s) ≡ script_from p o n given (parts 10 lines)

-- s begins with these first lines, and these lines stand behind them
pub record HeadRead (s : List ℕ) (prime : ℕ) (order : Order) (vars : ℕ) (weights lines : List ℕ) : Type 0 where
  pub given : Option (List ℕ)
  pub weighed : weights ≡ six_weights given
  pub from : ℕ
  pub from-in : from ≤ length s
  pub behind : lines ≡ drop from s
  pub is : with_header (parts 10 s) ≡ script_from prime order vars given (parts 10 lines)
