-- The opening check of lent polynomials (document 01, "Terms" and "Refusals"): their starts, their parts, and the refusal that a polynomial gets. Refusals are named by document 01's numbers, and 0 stands for none. Assumes nothing.
use Prim.Native.Nat.{ℕ, zero, suc, ◌+◌, ◌-◌, ◌<◌, ◌≤◌, Ordering}
use Rattle.std.specs.Prelude.{Bool, true, false, ◌&&◌, List, [], ◌∷◌, leb, ltb, eqb, length, get_or, take, drop}
use Rattle.monomial.specs.declared.order.Order.{Order}
use Rattle.monomial.specs.Exponents.{order_of}
use Rattle.monomial.specs.Layout.{in_layout}
use Rattle.monomial.specs.Words.{compare_words}
use Rattle.polynomial.specs.declared.setting.Setting.{Setting}
use Rattle.polynomial.specs.Terms.{Term}

-- ---- "polynomial k runs from start k to start k+1. The first start is 0, the last is the length, none falls."

-- the starts after s rise to the length
unfoldable pub rise_to : ℕ → List ℕ → ℕ → Bool
rise_to s [] len = eqb s len
rise_to s (t ∷ ss) len = leb s t && rise_to t ss len

-- no starts at all are missing starts
unfoldable pub starts_good : List ℕ → ℕ → Bool
starts_good [] len = false
starts_good (s ∷ ss) len = eqb s 0 && rise_to s ss len

-- the part of a slice that is polynomial k
abbrev pub part_of : {A : Type 0} → (starts : List ℕ) (k : ℕ) → List A → List A
part_of starts k l = take (get_or starts (k + 1) 0 - get_or starts k 0) (drop (get_or starts k 0) l)

-- ---- "polynomial by polynomial, the first place with 4 or 5 (4 first at one place), then 6"

-- the first of two refusals, where there is one
abbrev pub first : ℕ → ℕ → ℕ
first zero k = k
first (suc r) k = suc r

-- 4: coefficient 0 or ≥ p. 5: word not of the layout
abbrev pub term_by : (coef_good word_good : Bool) → ℕ
term_by false w = 4
term_by true false = 5
term_by true true = 0

abbrev pub term_refusal : Order → (n : ℕ) (weights : List ℕ) (p : ℕ) → Term ℕ → ℕ
term_refusal o n vs p t = term_by (ltb 0 t.coef && ltb t.coef p) (in_layout o n vs t.mono)

-- the refusal of the first term that has one, by any judgement of a term
unfoldable pub terms_refusal : {A : Type 0} → (judge : Term A → ℕ) → List (Term A) → ℕ
terms_refusal judge [] = 0
terms_refusal judge (t ∷ ts) = first (judge t) (terms_refusal judge ts)

abbrev pub is_larger : Ordering → Bool
is_larger Ordering.lt = false
is_larger Ordering.eq = false
is_larger Ordering.gt = true

-- each term is larger than the next
unfoldable pub fall : {A : Type 0} → (A → A → Ordering) → List (Term A) → Bool
fall cmp [] = true
fall cmp (t ∷ []) = true
fall cmp (t ∷ (u ∷ ts)) = is_larger (cmp t.mono u.mono) && fall cmp (u ∷ ts)

-- 6: terms do not fall strictly
abbrev pub order_by : (falling : Bool) → ℕ
order_by true = 0
order_by false = 6

-- the refusal of a polynomial, by any judgement of a term and any comparison of monomials
unfoldable pub refusal_of : {A : Type 0} → (judge : Term A → ℕ) → (A → A → Ordering) → List (Term A) → ℕ
refusal_of judge cmp ts = first (terms_refusal judge ts) (order_by (fall cmp ts))

-- that of words in a setting
abbrev pub polynomial_refusal : Setting → List (Term ℕ) → ℕ
polynomial_refusal t ts = refusal_of (term_refusal (order_of t.order) t.n t.weights t.p) (compare_words (order_of t.order)) ts

-- what the part of polynomial k asks: both of its starts are there, rise, and end within the slice
pub record Within (starts : List ℕ) (k len : ℕ) : Type 0 where
  pub there : k + 1 < length starts
  pub rise : get_or starts k 0 ≤ get_or starts (k + 1) 0
  pub ends : get_or starts (k + 1) 0 ≤ len
