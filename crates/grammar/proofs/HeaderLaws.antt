-- The first lines as the code reads them, return by return. Assumes nothing.
use Rattle.std.specs.Prelude.{None}
use Prim.Native.Nat.{ℕ, ◌+◌, ◌<◌}
use native.Mathlib.Omega.{arith}
use mathlib.Core.Path.{◌≡◌, refl, sym, ap, ◌∙◌}
use mathlib.Core.Bool.{Bool, true, false}
use mathlib.Core.List.{List, [], ◌∷◌, ◌++◌}
use mathlib.Core.Option.{Option, none, some}
use lib.ListN.{length, take, drop, length-drop, length-append}
use lib.Seq.{drop-drop}
use Rattle.monomial.specs.declared.order.Order.{Order}
use Rattle.monomial.specs.declared.order.Order.TheVariants.{Lex, DegLex, DegRevLex}
use Rattle.std.specs.Prelude.{Some}
use Rattle.text.specs.Bytes.{begins, same, index_of, parts}
use Rattle.text.specs.Numbers.{and_then, number_of, found}
use Rattle.text.proofs.ByteLaws.{Without, below-without, within-true, parts-some, parts-cut, parts-uncut, parts-behind, begins-first, begins-is}
use Rattle.grammar.specs.Grammar.{Script, prime-word, order-word, vars-word, weights-word, order_name}
use Rattle.grammar.specs.Reading.{lines_of, number_if, after_word, order_read, weights_of, script_from, rest_by, rest_of, with_header}
use Rattle.grammar.specs.Parts.{weights_found, NoRest, RestRead, HeadRead}

-- ---- a number behind a word
module _ (w s : List ℕ) where
  pub no_word : begins w s ≡ false → None ≡ found (after_word w s)
  no_word e = sym (ap (λ (b : Bool). found (number_if b (drop (length w) s))) e)

  pub behind-word : begins w s ≡ true → found (number_of (drop (length w) s)) ≡ found (after_word w s)
  behind-word e = sym (ap (λ (b : Bool). found (number_if b (drop (length w) s))) e)

-- ---- the order
module _ (s : List ℕ) where
  pub order-lp : same (order-word ++ order_name Lex) s ≡ true → Some Lex ≡ found (order_read s)
  order-lp a = rw a

  pub order-Dp : same (order-word ++ order_name Lex) s ≡ false → same (order-word ++ order_name DegLex) s ≡ true → Some DegLex ≡ found (order_read s)
  order-Dp a b = rw (a, b)

  pub order-dp : same (order-word ++ order_name Lex) s ≡ false → same (order-word ++ order_name DegLex) s ≡ false → same (order-word ++ order_name DegRevLex) s ≡ true → Some DegRevLex ≡ found (order_read s)
  order-dp a b c = rw (a, b, c)

  pub order-none : same (order-word ++ order_name Lex) s ≡ false → same (order-word ++ order_name DegLex) s ≡ false → same (order-word ++ order_name DegRevLex) s ≡ false → None ≡ found (order_read s)
  order-none a b c = rw (a, b, c)

-- what stands behind a part behind s stands behind s
further : (m k : ℕ) (s : List ℕ) {t u : List ℕ} → t ≡ drop m s → u ≡ drop k t → u ≡ drop (m + k) s
further m k s d e = e ∙ (ap (drop k) d ∙ drop-drop k m s)

-- ---- the line of weights, where it is
then-none : {A B : Type 0} (x : Option A) (f : A → Option B) → ((a : A) → f a ≡ none) → and_then x f ≡ none
unfolding and_then
then-none none f h = refl
then-none (some a) f h = h a

no_lines : (p : ℕ) (o : Order) (n : ℕ) (weights : Option (List ℕ)) → script_from p o n weights [] ≡ none
unfolding and_then lines_of
no_lines p o n weights = refl

no-newline : Without 10 weights-word
no-newline = below-without 97 122 10 weights-word (omega arith) (within-true 97 122 weights-word refl)

-- the word of weights begins the first line where it begins the whole
at-first : (b : Bool) (p : ℕ) (o : Order) (n : ℕ) (s l : List ℕ) (ls : List (List ℕ)) → parts 10 s ≡ l ∷ ls → begins weights-word s ≡ b → rest_of p o n (parts 10 s) ≡ rest_by b p o n l ls
at-first b p o n s l ls m e = ap (rest_of p o n) m ∙ ap (λ (t : Bool). rest_by t p o n l ls) (begins-first 10 weights-word s l ls no-newline m ∙ e)

module _ (n : ℕ) (s : List ℕ) where
  pub rest_plain : begins weights-word s ≡ false → RestRead n s (1 ∷ 1 ∷ 1 ∷ 1 ∷ 1 ∷ 1 ∷ []) s
  rest_plain e = let m = parts-some 10 s in record { given = none; weighed = refl; from = 0; from-in = omega arith; behind = refl; is = λ p o. at-first false p o n s m.0 m.1 m.2 e ∙ ap (script_from p o n none) (sym m.2) }

  module _ (e : begins weights-word s ≡ true) (t : List ℕ) (d : t ≡ drop 7 s) where
    behind : (l : List ℕ) (ls : List (List ℕ)) → parts 10 t ≡ l ∷ ls → (p : ℕ) (o : Order) → rest_of p o n (parts 10 s) ≡ and_then (weights_of n l) (λ vs. script_from p o n (some vs) ls)
    behind l ls q p o =
        let whole : s ≡ weights-word ++ t = begins-is weights-word s e ∙ ap (λ (r : List ℕ). weights-word ++ r) (sym d) in
        at-first true p o n s (weights-word ++ l) ls (ap (parts 10) whole ∙ parts-behind 10 weights-word t l ls no-newline q) e

    pub rest-cut : index_of 10 t ≡ length t → NoRest n s
    rest-cut c p o = behind t [] (parts-uncut 10 t c) p o ∙ then-none (weights_of n t) (λ vs. script_from p o n (some vs) []) (λ vs. no_lines p o n (some vs))

    module _ {l r : List ℕ} (c : (index_of 10 t < length t) × (l ≡ take (index_of 10 t) t) × (r ≡ drop (index_of 10 t + 1) t)) where
      pub rest-bad : None ≡ weights_found (weights_of n l) → NoRest n s
      unfolding and_then
      rest-bad q p o = behind l (parts 10 r) (parts-cut 10 t c) p o ∙ go (weights_of n l) q
        where
          go : (x : Option (List ℕ)) → None ≡ weights_found x → and_then x (λ vs. script_from p o n (some vs) (parts 10 r)) ≡ none
          go none q = refl
          go (some vs) q = absurd (let z : ◌≡◌ {A = ℕ} 0 1 = cc in let y : ⊥ = omega arith in y)

      pub rest-good : (ws : List ℕ) → Some ws ≡ weights_found (weights_of n l) → RestRead n s ws r
      unfolding and_then
      rest-good ws q = go (weights_of n l) refl q
        where
          go : (x : Option (List ℕ)) → weights_of n l ≡ x → Some ws ≡ weights_found x → RestRead n s ws r
          go none w q = absurd (let z : ◌≡◌ {A = ℕ} 0 1 = cc in let y : ⊥ = omega arith in y)
          go (some vs) w q = record {
            given = some vs;
            weighed = cc;
            from = 7 + (index_of 10 t + 1);
            from-in = omega (arith, c.0, ap length (begins-is weights-word s e), length-append weights-word (drop 7 s), ap length d);
            behind = further _ _ _ d c.2;
            is = λ p o. behind l (parts 10 r) (parts-cut 10 t c) p o ∙ ap (λ (x : Option (List ℕ)). and_then x (λ vs. script_from p o n (some vs) (parts 10 r))) w;
          }

-- ---- the first three lines

-- the third line and those behind it
abbrev vars_then : (p : ℕ) → Order → List (List ℕ) → Option Script
vars_then p o [] = none
vars_then p o (c ∷ ls) = and_then (after_word vars-word c) (λ n. rest_of p o n ls)

no-prime : (a : List ℕ) (ls : List (List ℕ)) → after_word prime-word a ≡ none → with_header (a ∷ ls) ≡ none
unfolding and_then
no-prime a [] e = refl
no-prime a (b ∷ []) e = refl
no-prime a (b ∷ (c ∷ ls)) e = ap (λ (x : Option ℕ). and_then x (λ p. and_then (order_read b) (λ o. and_then (after_word vars-word c) (λ n. rest_of p o n ls)))) e

with-prime : (a b : List ℕ) (ls : List (List ℕ)) (p : ℕ) → after_word prime-word a ≡ some p → with_header (a ∷ (b ∷ ls)) ≡ and_then (order_read b) (λ o. vars_then p o ls)
unfolding and_then
with-prime a b [] p e = sym (then-none (order_read b) (λ o. none) (λ o. refl))
with-prime a b (c ∷ ls) p e = ap (λ (x : Option ℕ). and_then x (λ q. and_then (order_read b) (λ o. and_then (after_word vars-word c) (λ n. rest_of q o n ls)))) e

-- how a text of the first lines is cut
abbrev pub Cut : (s l r : List ℕ) → Type 0
Cut s l r = (index_of 10 s < length s) × (l ≡ take (index_of 10 s) s) × (r ≡ drop (index_of 10 s + 1) s)

pub prime-cut : (s : List ℕ) → index_of 10 s ≡ length s → with_header (parts 10 s) ≡ none
prime-cut s e = ap with_header (parts-uncut 10 s e)

module _ (s : List ℕ) {a r : List ℕ} (x : Cut s a r) where
  pub prime-bad : after_word prime-word a ≡ none → with_header (parts 10 s) ≡ none
  prime-bad e = ap with_header (parts-cut 10 s x) ∙ no-prime a (parts 10 r) e

  module _ {p : ℕ} (e : after_word prime-word a ≡ some p) where
    pub order-cut : index_of 10 r ≡ length r → with_header (parts 10 s) ≡ none
    order-cut c = ap with_header (parts-cut 10 s x ∙ ap (λ (l : List (List ℕ)). a ∷ l) (parts-uncut 10 r c))

    module _ {b t : List ℕ} (y : Cut r b t) where
      two : with_header (parts 10 s) ≡ and_then (order_read b) (λ o. vars_then p o (parts 10 t))
      two = ap with_header (parts-cut 10 s x ∙ ap (λ (l : List (List ℕ)). a ∷ l) (parts-cut 10 r y)) ∙ with-prime a b (parts 10 t) p e

      pub order-bad : order_read b ≡ none → with_header (parts 10 s) ≡ none
      unfolding and_then
      order-bad f = two ∙ ap (λ (z : Option Order). and_then z (λ o. vars_then p o (parts 10 t))) f

      module _ {o : Order} (f : order_read b ≡ some o) where
        three : with_header (parts 10 s) ≡ vars_then p o (parts 10 t)
        unfolding and_then
        three = two ∙ ap (λ (z : Option Order). and_then z (λ o. vars_then p o (parts 10 t))) f

        pub vars-cut : index_of 10 t ≡ length t → with_header (parts 10 s) ≡ none
        vars-cut c = three ∙ (ap (vars_then p o) (parts-uncut 10 t c) ∙ then-none (after_word vars-word t) (λ n. rest_of p o n []) (λ n. refl))

        module _ {c u : List ℕ} (z : Cut t c u) where
          pub vars-bad : after_word vars-word c ≡ none → with_header (parts 10 s) ≡ none
          unfolding and_then
          vars-bad g = three ∙ (ap (vars_then p o) (parts-cut 10 t z) ∙ ap (λ (v : Option ℕ). and_then v (λ n. rest_of p o n (parts 10 u))) g)

          module _ {n : ℕ} (g : after_word vars-word c ≡ some n) where
            all : with_header (parts 10 s) ≡ rest_of p o n (parts 10 u)
            unfolding and_then
            all = three ∙ (ap (vars_then p o) (parts-cut 10 t z) ∙ ap (λ (v : Option ℕ). and_then v (λ n. rest_of p o n (parts 10 u))) g)

            pub rest-none : NoRest n u → with_header (parts 10 s) ≡ none
            rest-none d = all ∙ d p o

            pub header-good : {ws ls : List ℕ} → RestRead n u ws ls → HeadRead s p o n ws ls
            header-good d = record {
              given = d.given;
              weighed = d.weighed;
              from = (index_of 10 s + 1) + ((index_of 10 r + 1) + ((index_of 10 t + 1) + d.from));
              from-in = omega (arith, d.from-in, x.0, y.0, z.0, ap length x.2, length-drop (index_of 10 s + 1) s, ap length y.2, length-drop (index_of 10 r + 1) r, ap length z.2, length-drop (index_of 10 t + 1) t);
              behind = further _ _ _ x.2 (further _ _ _ y.2 (further _ _ _ z.2 d.behind));
              is = all ∙ d.is p o;
            }
