-- The answer of a call where its test holds, and the fixed number where it does not. Assumes nothing.
use mathlib.Core.Path.{◌≡◌, sym, ◌∙◌}
use mathlib.Core.Bool.{Bool, true, false, not, cond, ◌&&◌}
use borrow.Author.Tests.{not-true, not-false}

pub held : {A : Type 0} (y : A) {b : Bool} {x r : A} → b ≡ true → r ≡ x → r ≡ cond b x y
held y h e = rw h e

pub failed : {A : Type 0} (x y : A) {b : Bool} → b ≡ false → y ≡ cond b x y
failed x y h = rw h

-- what a test `!t` says of the definition b that t is
pub yes : {t b : Bool} → t ≡ b → not t ≡ false → b ≡ true
yes {t} e h = sym e ∙ not-false t h

pub no : {t b : Bool} → t ≡ b → not t ≡ true → b ≡ false
no {t} e h = sym e ∙ not-true t h

-- two tests in turn
pub one-fails : {s : Bool} (t : Bool) → s ≡ false → (s && t) ≡ false
one-fails t e = rw e

pub other-fails : {s t : Bool} → s ≡ true → t ≡ false → (s && t) ≡ false
other-fails e f = rw (e, f)

pub both_hold : {s t : Bool} → s ≡ true → t ≡ true → (s && t) ≡ true
both_hold e f = rw (e, f)

-- three tests in turn
pub first-fails : {s : Bool} (t u : Bool) → s ≡ false → (s && (t && u)) ≡ false
first-fails t u e = rw e

pub second-fails : {s t : Bool} (u : Bool) → s ≡ true → t ≡ false → (s && (t && u)) ≡ false
second-fails u e f = rw (e, f)

pub third-fails : {s t u : Bool} → s ≡ true → t ≡ true → u ≡ false → (s && (t && u)) ≡ false
third-fails e f g = rw (e, f, g)

pub by-third : {s t : Bool} (u : Bool) → s ≡ true → t ≡ true → u ≡ (s && (t && u))
by-third u e f = rw (e, f)

pub all_hold : {s t u : Bool} → s ≡ true → t ≡ true → u ≡ true → (s && (t && u)) ≡ true
all_hold e f g = rw (e, f, g)
