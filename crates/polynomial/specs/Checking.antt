-- The opening check of a polynomial in one pass, which may be cut anywhere (document 02, Point 3): "the check of its first part, carried on over the rest from a few numbers, gives the number that the whole gets". Here are the numbers, and what each term does to them; `check-cut` ties them to `refusal_of`. Over any kind of monomials, any judgement of a term and any comparison. Assumes nothing.
use Prim.Native.Nat.{ℕ, zero, suc, ◌≤◌, Ordering}
use Rattle.std.specs.Prelude.{◌≡◌, Bool, true, false, List, [], ◌∷◌, ◌++◌}
use Rattle.monomial.specs.declared.order.Order.{Order}
use Rattle.monomial.specs.Exponents.{order_of}
use Rattle.monomial.specs.Layout.{beyond_bits, fields}
use Rattle.monomial.specs.Words.{compare_words}
use Rattle.polynomial.specs.declared.check.Checking.{Checking}
use Rattle.polynomial.specs.declared.setting.Setting.{Setting}
use Rattle.polynomial.specs.Terms.{Term}
use Rattle.polynomial.specs.Opening.{first, term_refusal, is_larger}

-- what is known after some terms
pub record Carried (A : Type 0) : Type 0 where
  -- the refusal of the first bad term, one that has a refusal by itself; or 0
  pub stop : ℕ
  -- 6 where the terms so far do not fall, or else 0
  pub late : ℕ
  -- whether a term has come, and the monomial of the last one
  pub seen : Bool
  pub last : A

-- no term has come: which monomial stands as the last one does not matter
abbrev pub unseen : {A : Type 0} → A → Carried A
unseen m = record { stop = 0; late = 0; seen = false; last = m }

-- the number that the terms get: that of the first bad term, and else 6 where they do not fall
abbrev pub verdict : {A : Type 0} → Carried A → ℕ
verdict s = first s.stop s.late

-- the refusal for the order after one pair of neighbours more
abbrev pub order_next : (larger : Bool) (late : ℕ) → ℕ
order_next true late = late
order_next false late = 6

-- the refusal for the order once m has come: it is compared with `last` where a term came before it
abbrev pub late_after : {A : Type 0} → (A → A → Ordering) → (seen : Bool) (last m : A) (late : ℕ) → ℕ
late_after cmp false last m late = late
late_after cmp true last m late = order_next (is_larger (cmp last m)) late

-- one term more: after a bad one no other is looked at
abbrev pub one_more : {A : Type 0} → (judge : Term A → ℕ) → (A → A → Ordering) → (stop late : ℕ) (seen : Bool) (last : A) → Term A → Carried A
one_more judge cmp zero late seen last t = record { stop = judge t; late = late_after cmp seen last t.mono late; seen = true; last = t.mono }
one_more judge cmp (suc r) late seen last t = record { stop = suc r; late = late; seen = seen; last = last }

-- the check carried on over further terms
unfoldable pub carry_on : {A : Type 0} → (judge : Term A → ℕ) → (A → A → Ordering) → Carried A → List (Term A) → Carried A
carry_on judge cmp s [] = s
carry_on judge cmp s (t ∷ ts) = carry_on judge cmp (one_more judge cmp s.stop s.late s.seen s.last t) ts

-- the check carried on over several parts, one after the other, and the polynomial that they are together
unfoldable pub carry_over : {A : Type 0} → (judge : Term A → ℕ) → (A → A → Ordering) → Carried A → List (List (Term A)) → Carried A
carry_over judge cmp s [] = s
carry_over judge cmp s (ts ∷ parts) = carry_over judge cmp (carry_on judge cmp s ts) parts

unfoldable pub together : {A : Type 0} → List (List (Term A)) → List (Term A)
together [] = []
together (ts ∷ parts) = ts ++ together parts

-- ---- words in a setting

-- the numbers as the code keeps them
abbrev pub carried_by : Checking → Carried ℕ
carried_by s = record { stop = s.stop; late = s.late; seen = s.seen; last = s.last }

-- the check carried on over a part, and over several
abbrev pub polynomial_on : Setting → Carried ℕ → List (Term ℕ) → Carried ℕ
polynomial_on t s ts = carry_on (term_refusal (order_of t.order) t.n t.weights t.p) (compare_words (order_of t.order)) s ts

abbrev pub polynomial_over : Setting → Carried ℕ → List (List (Term ℕ)) → Carried ℕ
polynomial_over t s parts = carry_over (term_refusal (order_of t.order) t.n t.weights t.p) (compare_words (order_of t.order)) s parts

-- r is the refusal of the term, for each order and number of variables that have these bits beyond, with the weights of this word
abbrev pub JudgesTerm : (beyond v p : ℕ) → Term ℕ → (r : ℕ) → Type 0
JudgesTerm beyond v p t r = (o : Order) (n : ℕ) → n ≤ 6 → beyond ≡ beyond_bits o n → r ≡ term_refusal o n (fields o v) p t
