-- Words of the layout meet what division asks of monomials: the quotient is the difference, the product the sum, and what is too large has an exponent over 127; and these are the operations on exponents. Assumes nothing.
use mathlib.Core.Path.{◌≡◌, refl, sym, ap, ◌∙◌}
use mathlib.Core.Bool.{Bool, true, false, not}
use mathlib.Core.List.{List, [], ◌∷◌, map}
use Prim.Native.Nat.{ℕ, ◌+◌, ◌-◌, ◌≤◌}
use native.Mathlib.Omega.{arith}
use lib.ListN.{length}
use Rattle.monomial.specs.declared.order.Order.{Order}
use Rattle.monomial.specs.Exponents.{divides, quotient, product, compare_in}
use Rattle.monomial.specs.Layout.{bytes, exponents, Below, below, Layout}
use Rattle.monomial.specs.Words.{compare_words, divides_word}
use Rattle.monomial.proofs.Places.{below_true}
use Rattle.monomial.proofs.ByteLaws.{bytes-add}
use Rattle.monomial.proofs.LayoutLaws.{length-exponents, layout-tops}
use Rattle.monomial.proofs.KeyLaws.{compare-layout}
use Rattle.monomial.proofs.WordLaws.{divides-layout, product-test, product-exponents, product-layout, quotient_le, quotient-exponents, quotient-layout, multiply-keeps}
use Rattle.polynomial.specs.Terms.{Term, All}
use Rattle.division.specs.Steps.{over_word}
use Rattle.division.specs.Operations.{Operations}
use Rattle.division.specs.Divisors.{Valid, AllOf}
use Rattle.division.specs.InExponents.{in_exponents}
use Rattle.division.proofs.Renaming.{Agrees, canonical-renamed}

not-false : (b : Bool) → not b ≡ false → b ≡ true
not-false true h = refl
not-false false h = absurd (let z : ◌≡◌ {A = ℕ} 0 1 = cc in let q : ⊥ = omega arith in q)

module _ (o : Order) (n : ℕ) (vs : List ℕ) (few : n ≤ 6) (small : Below 17 vs) where
  by-exponents : (a b : ℕ) → Layout o n vs a → Layout o n vs b → divides_word b a ≡ true → divides (exponents o n b) (exponents o n a) ≡ true
  by-exponents a b la lb d = sym (divides-layout o n vs b a few lb la) ∙ d

  fitting : (a b : ℕ) → Layout o n vs a → Layout o n vs b → over_word a b ≡ false → below 128 (product (exponents o n a) (exponents o n b)) ≡ true
  fitting a b la lb h = sym (product-test o n vs a b few la lb) ∙ not-false (below 128 (product (bytes 6 a) (bytes 6 b))) h

  -- a product of words is over where one of exponents is
  pub over-exponents : (a b : ℕ) → Layout o n vs a → Layout o n vs b → over_word a b ≡ not (below 128 (product (exponents o n a) (exponents o n b)))
  over-exponents a b la lb = ap not (product-test o n vs a b few la lb)

  word-quotient : (a b : ℕ) → Layout o n vs a → Layout o n vs b → divides_word b a ≡ true → Layout o n vs (a - b)
  word-quotient a b la lb d = quotient-layout o n vs a b few la lb (by-exponents a b la lb d)

  word_back : (a b : ℕ) → Layout o n vs a → Layout o n vs b → divides_word b a ≡ true → a - b + b ≡ a
  word_back a b la lb d = omega (arith, quotient_le o n vs a b few la lb (by-exponents a b la lb d))

  pub word-operations : Operations ℕ (compare_words o) divides_word ◌-◌ ◌+◌ over_word (λ w. Layout o n vs w)
  word-operations = record {
    quotient_is = word-quotient;
    back = word_back;
    back_fits = λ a b la lb d.
        ap not
        (ap (below 128) (sym (bytes-add 6 (a - b) b (layout-tops o n vs (a - b) few (word-quotient a b la lb d)) (layout-tops o n vs b few lb)))
        ∙ (ap (λ (w : ℕ). below 128 (bytes 6 w)) (word_back a b la lb d) ∙ below_true 128 (bytes 6 a) (layout-tops o n vs a few la)));
    product_is = λ a b la lb h. product-layout o n vs a b few la lb (fitting a b la lb h);
    keeps = λ m a b lm la lb h k. multiply-keeps o n vs m a b few small lm la lb (fitting m a lm la h) (fitting m b lm lb k);
  }

  -- ---- the same by exponents
  pub words-agree : Agrees (exponents o n) (λ w. Layout o n vs w) (compare_words o) divides_word ◌-◌ ◌+◌ (compare_in o vs) divides quotient product
  words-agree = record {
    compares = λ a b la lb. sym (compare-layout o n vs a b few small la lb);
    divide = λ a b la lb. sym (divides-layout o n vs b a few lb la);
    quotients = λ a b la lb d. sym (quotient-exponents o n vs a b few la lb (by-exponents a b la lb d));
    products = λ a b la lb. sym (product-exponents o n vs a b few la lb);
  }

  lengths : (f : List (Term ℕ)) → All (λ t. Layout o n vs t.mono) f → All (λ t. length t.mono ≡ n) (in_exponents o n f)
  lengths [] a = tt
  lengths (t ∷ ts) a = (length-exponents o n t.mono few, lengths ts a.1)

  pub valid-exponents : (p : ℕ) (f : List (Term ℕ)) → Valid (compare_words o) p (λ w. Layout o n vs w) f → Valid (compare_in o vs) p (λ α. length α ≡ n) (in_exponents o n f)
  valid-exponents p f v = record { canonical = canonical-renamed (exponents o n) (λ w. Layout o n vs w) (compare_words o) (compare_in o vs) words-agree.compares p f v.are v.canonical; are = lengths f v.are }

  pub all-exponents : (p : ℕ) (gs : List (List (Term ℕ))) → AllOf (Valid (compare_words o) p (λ w. Layout o n vs w)) gs → AllOf (Valid (compare_in o vs) p (λ α. length α ≡ n)) (map (in_exponents o n) gs)
  unfolding AllOf
  all-exponents p [] u = tt
  all-exponents p (g ∷ gs) u = (valid-exponents p g u.0, all-exponents p gs u.1)
