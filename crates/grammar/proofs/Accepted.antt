-- What the reading accepts is the text of what it gives. Assumes nothing.
use Prim.Native.Nat.{ℕ, suc, ◌≤◌}
use native.Mathlib.Omega.{arith}
use mathlib.Core.Path.{◌≡◌, refl, sym, ap, ◌∙◌}
use mathlib.Core.Bool.{Bool, true, false}
use mathlib.Core.List.{List, [], ◌∷◌, ◌++◌, map, append-nil}
use mathlib.Core.Option.{Option, none, some}
use borrow.Author.Tests.{eqb-true, ltb-true, leb-true}
use lib.Dec.{eqb, ltb, leb}
use lib.ListN.{length, take, drop}
use Rattle.limits.specs.Limits.{script_bytes}
use Rattle.monomial.specs.declared.order.Order.{Order}
use Rattle.monomial.specs.declared.order.Order.TheVariants.{Lex, DegLex, DegRevLex}
use Rattle.text.specs.Bytes.{begins, same, index_of, parts, joined}
use Rattle.text.specs.Numbers.{decimal, and_then, only_if, number_of}
use Rattle.text.proofs.ByteLaws.{cons, begins-is, same-is, parts-some, joined-parts, cut}
use Rattle.text.proofs.NumberLaws.{then_some, only-if, number_read}
use Rattle.grammar.specs.Grammar.{Entry, Line, add_line, Script, prime-word, order-word, vars-word, weights-word, add-word, lead-word, sum-word, order_name, entry_text, entries_text, line_text, lines_text, spaced_text, rest_text, script_text, Small, AllSmall, GoodEntry, GoodEntries, GoodLine, GoodLines, GoodWeights, GoodScript}
use Rattle.grammar.specs.Reading.{numbers_of, exponents_of, entry_by, entry_of, entries_of, fields_of, add_of, line_by, line_of, lines_of, number_if, after_word, order_by, order_read, spaced_of, weights_of, script_from, rest_by, rest_of, with_header, script_of}

pub never : {A : Type 0} {a : A} {B : Type 0} → none ≡ some a → B
never e = absurd (let z : ◌≡◌ {A = ℕ} 0 1 = cc in let y : ⊥ = omega arith in y)

pub is_some : {A : Type 0} {a b : A} → some a ≡ some b → a ≡ b
is_some e = cc

pub numbers-read : (ps : List (List ℕ)) (vs : List ℕ) → numbers_of ps ≡ some vs → AllSmall vs × (ps ≡ map decimal vs)
unfolding numbers_of
numbers-read [] vs e = rw (← is_some e) (tt, refl)
numbers-read (p ∷ ps) vs e =
    let t = then_some (number_of p) (λ v. and_then (numbers_of ps) (λ us. some (v ∷ us))) vs e in
    let u = then_some (numbers_of ps) (λ us. some (t.0 ∷ us)) vs t.2 in
    let n = number_read p t.0 t.1 in
    let i = numbers-read ps u.0 u.1 in
    rw (← is_some u.2) ((n.0, i.0), cons n.1 i.1)

exponents-read : (n : ℕ) (s es : List ℕ) → exponents_of n s ≡ some es → AllSmall es × (1 ≤ length es) × (length es ≡ n) × (s ≡ joined 46 (map decimal es))
exponents-read n s es e =
    let t = then_some (numbers_of (parts 46 s)) (λ us. only_if (eqb (length us) n) us) es e in
    let o = only-if (eqb (length t.0) n) t.0 es t.2 in
    let i = numbers-read (parts 46 s) t.0 t.1 in
    let p = parts-some 46 s in
    let q : map decimal t.0 ≡ p.0 ∷ p.1 = sym i.1 ∙ p.2 in
    rw (← o.1) (i.0, some_of t.0 p.0 p.1 q, eqb-true _ _ o.0, sym (joined-parts 46 s) ∙ ap (joined 46) i.1)
  where
    some_of : (us : List ℕ) (p : List ℕ) (ps : List (List ℕ)) → map decimal us ≡ p ∷ ps → 1 ≤ length us
    some_of [] p ps e = absurd (let z : ◌≡◌ {A = ℕ} 0 1 = cc in let y : ⊥ = omega arith in y)
    some_of (u ∷ us) p ps e = omega arith

pub entry_read : (n : ℕ) (s : List ℕ) (t : Entry) → entry_of n s ≡ some t → GoodEntry n t × (s ≡ entry_text t)
unfolding entry_of
entry_read n s t e = go (ltb (index_of 58 s) (length s)) refl e
  where
    go : (b : Bool) → ltb (index_of 58 s) (length s) ≡ b → entry_by b n (index_of 58 s) s ≡ some t → GoodEntry n t × (s ≡ entry_text t)
    go false l e = never e
    go true l e =
        let k = index_of 58 s in
        let u = then_some (number_of (take k s)) (λ c. and_then (exponents_of n (drop (suc k) s)) (λ es. some (record { coef = c; exps = es }))) t e in
        let v = then_some (exponents_of n (drop (suc k) s)) (λ es. some (record { coef = u.0; exps = es })) t u.2 in
        let c = number_read (take k s) u.0 u.1 in
        let x = exponents-read n (drop (suc k) s) v.0 v.1 in
        rw (← is_some v.2) (record { coef-small = c.0; exps-small = x.0; some-exps = x.1; n-exps = x.2 }, cut 58 s (ltb-true _ _ l) ∙ (ap (λ (r : List ℕ). r ++ (58 ∷ drop (suc k) s)) c.1 ∙ ap (λ (r : List ℕ). decimal u.0 ++ (58 ∷ r)) x.3))

entries-read : (n : ℕ) (fs : List (List ℕ)) (ts : List Entry) → entries_of n fs ≡ some ts → GoodEntries n ts × (fs ≡ map (λ t. entry_text t) ts)
unfolding entries_of
entries-read n [] ts e = rw (← is_some e) (tt, refl)
entries-read n (f ∷ fs) ts e =
    let t = then_some (entry_of n f) (λ x. and_then (entries_of n fs) (λ xs. some (x ∷ xs))) ts e in
    let u = then_some (entries_of n fs) (λ xs. some (t.0 ∷ xs)) ts t.2 in
    let a = entry_read n f t.0 t.1 in
    let i = entries-read n fs u.0 u.1 in
    rw (← is_some u.2) ((a.0, i.0), cons a.1 i.1)

joined-front : (b : ℕ) (p : List ℕ) (ps : List (List ℕ)) → joined b (p ∷ ps) ≡ p ++ joined b ([] ∷ ps)
unfolding joined
joined-front b p [] = sym (append-nil p)
joined-front b p (q ∷ ps) = refl

-- terms, each behind a space
pub entries-joined : (ts : List Entry) → joined 32 ([] ∷ map (λ t. entry_text t) ts) ≡ entries_text ts
unfolding entries_text joined
entries-joined [] = refl
entries-joined (t ∷ ts) = ap (λ (l : List ℕ). 32 ∷ l) (joined-front 32 (entry_text t) (map (λ u. entry_text u) ts) ∙ ap (λ (l : List ℕ). entry_text t ++ l) (entries-joined ts))

fields_read : (n : ℕ) (ps : List (List ℕ)) (ts : List Entry) → fields_of n ps ≡ some ts → GoodEntries n ts × (joined 32 ps ≡ entries_text ts)
fields_read n [] ts e = never e
fields_read n ((b ∷ p) ∷ fs) ts e = never e
fields_read n ([] ∷ fs) ts e = let i = entries-read n fs ts e in (i.0, ap (λ (l : List (List ℕ)). joined 32 ([] ∷ l)) i.1 ∙ entries-joined ts)

pub line_read : (n : ℕ) (s : List ℕ) (l : Line) → line_of n s ≡ some l → GoodLine n l × (s ≡ line_text l)
unfolding line_of add_of
line_read n s l e = go (same lead-word s) (same sum-word s) (begins add-word s) refl refl refl e
  where
    go : (a b c : Bool) → same lead-word s ≡ a → same sum-word s ≡ b → begins add-word s ≡ c → line_by a b c n s ≡ some l → GoodLine n l × (s ≡ line_text l)
    go true b c p q r e = rw (← is_some e) (tt, same-is lead-word s p)
    go false true c p q r e = rw (← is_some e) (tt, same-is sum-word s q)
    go false false true p q r e =
        let t = then_some (fields_of n (parts 32 (drop 3 s))) (λ ts. some (add_line ts)) l e in
        let i = fields_read n (parts 32 (drop 3 s)) t.0 t.1 in
        rw (← is_some t.2) (i.0, begins-is add-word s r ∙ ap (λ (x : List ℕ). add-word ++ x) (sym (joined-parts 32 (drop 3 s)) ∙ i.1))
    go false false false p q r e = never e

pub lines-read : (n : ℕ) (ps : List (List ℕ)) (ls : List Line) → lines_of n ps ≡ some ls → GoodLines n ls × (joined 10 ps ≡ lines_text ls)
unfolding lines_of lines_text joined
lines-read n [] ls e = never e
lines-read n ([] ∷ []) ls e = rw (← is_some e) (tt, refl)
lines-read n ((b ∷ s) ∷ []) ls e = never e
lines-read n (s ∷ (r ∷ rs)) ls e =
    let t = then_some (line_of n s) (λ l. and_then (lines_of n (r ∷ rs)) (λ xs. some (l ∷ xs))) ls e in
    let u = then_some (lines_of n (r ∷ rs)) (λ xs. some (t.0 ∷ xs)) ls t.2 in
    let a = line_read n s t.0 t.1 in
    let i = lines-read n (r ∷ rs) u.0 u.1 in
    rw (← is_some u.2) ((a.0, i.0), ap (λ (x : List ℕ). x ++ (10 ∷ joined 10 (r ∷ rs))) a.1 ∙ ap (λ (x : List ℕ). line_text t.0 ++ (10 ∷ x)) i.1)

-- ---- the first lines
-- numbers, each behind a space
pub spaced-joined : (vs : List ℕ) → joined 32 ([] ∷ map decimal vs) ≡ spaced_text vs
unfolding spaced_text joined
spaced-joined [] = refl
spaced-joined (v ∷ vs) = ap (λ (l : List ℕ). 32 ∷ l) (joined-front 32 (decimal v) (map decimal vs) ∙ ap (λ (l : List ℕ). decimal v ++ l) (spaced-joined vs))

spaced-read : (ps : List (List ℕ)) (vs : List ℕ) → spaced_of ps ≡ some vs → AllSmall vs × (joined 32 ps ≡ spaced_text vs)
spaced-read [] vs e = never e
spaced-read ((b ∷ p) ∷ fs) vs e = never e
spaced-read ([] ∷ fs) vs e = let i = numbers-read fs vs e in (i.0, ap (λ (l : List (List ℕ)). joined 32 ([] ∷ l)) i.1 ∙ spaced-joined vs)

weights-read : (n : ℕ) (s vs : List ℕ) → weights_of n s ≡ some vs → AllSmall vs × (length vs ≡ n) × (s ≡ spaced_text vs)
weights-read n s vs e =
    let t = then_some (spaced_of (parts 32 s)) (λ us. only_if (eqb (length us) n) us) vs e in
    let o = only-if (eqb (length t.0) n) t.0 vs t.2 in
    let i = spaced-read (parts 32 s) t.0 t.1 in
    rw (← o.1) (i.0, eqb-true _ _ o.0, sym (joined-parts 32 s) ∙ i.1)

after_read : (w s : List ℕ) (v : ℕ) → after_word w s ≡ some v → Small v × (s ≡ w ++ decimal v)
after_read w s v e = go (begins w s) refl e
  where
    go : (b : Bool) → begins w s ≡ b → number_if b (drop (length w) s) ≡ some v → Small v × (s ≡ w ++ decimal v)
    go true h e = let n = number_read (drop (length w) s) v e in (n.0, begins-is w s h ∙ ap (λ (l : List ℕ). w ++ l) n.1)
    go false h e = never e

order-read : (s : List ℕ) (o : Order) → order_read s ≡ some o → s ≡ order-word ++ order_name o
order-read s o e = go (same (order-word ++ order_name Lex) s) (same (order-word ++ order_name DegLex) s) (same (order-word ++ order_name DegRevLex) s) refl refl refl e
  where
    go : (a b c : Bool) → same (order-word ++ order_name Lex) s ≡ a → same (order-word ++ order_name DegLex) s ≡ b → same (order-word ++ order_name DegRevLex) s ≡ c → order_by a b c ≡ some o → s ≡ order-word ++ order_name o
    go true b c p q r e = same-is (order-word ++ order_name Lex) s p ∙ ap (λ (x : Order). order-word ++ order_name x) (is_some e)
    go false true c p q r e = same-is (order-word ++ order_name DegLex) s q ∙ ap (λ (x : Order). order-word ++ order_name x) (is_some e)
    go false false true p q r e = same-is (order-word ++ order_name DegRevLex) s r ∙ ap (λ (x : Order). order-word ++ order_name x) (is_some e)
    go false false false p q r e = never e

some-lines : (n : ℕ) (ls : List (List ℕ)) (xs : List Line) → lines_of n ls ≡ some xs → (l : List ℕ) × (r : List (List ℕ)) × (ls ≡ l ∷ r)
unfolding lines_of
some-lines n [] xs e = never e
some-lines n (l ∷ r) xs e = (l, r, refl)

joined-lines : (l : List ℕ) (ls : List (List ℕ)) (m : List ℕ) (r : List (List ℕ)) → ls ≡ m ∷ r → joined 10 (l ∷ ls) ≡ l ++ (10 ∷ joined 10 ls)
unfolding joined
joined-lines l ls m r e = rw e

record RestRead (p : ℕ) (o : Order) (n : ℕ) (ls : List (List ℕ)) (s : Script) : Type 0 where
  weights : Option (List ℕ)
  lines : List Line
  is : record { prime = p; order = o; vars = n; weights = weights; lines = lines } ≡ s
  weights-good : GoodWeights n weights
  lines-good : GoodLines n lines
  text : joined 10 ls ≡ rest_text weights lines
  first : List ℕ
  others : List (List ℕ)
  begin : ls ≡ first ∷ others

rest_read : (p : ℕ) (o : Order) (n : ℕ) (ls : List (List ℕ)) (s : Script) → rest_of p o n ls ≡ some s → RestRead p o n ls s
rest_read p o n [] s e = never e
rest_read p o n (l ∷ ls) s e = go (begins weights-word l) refl e
  where
    go : (b : Bool) → begins weights-word l ≡ b → rest_by b p o n l ls ≡ some s → RestRead p o n (l ∷ ls) s
    go true h e =
        let t = then_some (weights_of n (drop 7 l)) (λ vs. script_from p o n (some vs) ls) s e in
        let u = then_some (lines_of n ls) (λ xs. some (record { prime = p; order = o; vars = n; weights = some t.0; lines = xs })) s t.2 in
        let w = weights-read n (drop 7 l) t.0 t.1 in
        let i = lines-read n ls u.0 u.1 in
        let m = some-lines n ls u.0 u.1 in
        let front : l ≡ weights-word ++ spaced_text t.0 = begins-is weights-word l h ∙ ap (λ (x : List ℕ). weights-word ++ x) w.2 in
        record {
          weights = some t.0;
          lines = u.0;
          is = is_some u.2;
          weights-good = (w.0, w.1);
          lines-good = i.0;
          text = joined-lines l ls m.0 m.1 m.2 ∙ (ap (λ (x : List ℕ). x ++ (10 ∷ joined 10 ls)) front ∙ ap (λ (x : List ℕ). (weights-word ++ spaced_text t.0) ++ (10 ∷ x)) i.1);
          first = l;
          others = ls;
          begin = refl;
        }
    go false h e =
        let u = then_some (lines_of n (l ∷ ls)) (λ xs. some (record { prime = p; order = o; vars = n; weights = none; lines = xs })) s e in
        let i = lines-read n (l ∷ ls) u.0 u.1 in
        record { weights = none; lines = u.0; is = is_some u.2; weights-good = tt; lines-good = i.0; text = i.1; first = l; others = ls; begin = refl }

header_read : (ps : List (List ℕ)) (s : Script) → with_header ps ≡ some s → Small s.prime × Small s.vars × GoodWeights s.vars s.weights × GoodLines s.vars s.lines × (joined 10 ps ≡ script_text s)
unfolding script_text
header_read [] s e = never e
header_read (a ∷ []) s e = never e
header_read (a ∷ (b ∷ [])) s e = never e
header_read (a ∷ (b ∷ (c ∷ ls))) s e =
    let t = then_some (after_word prime-word a) (λ p. and_then (order_read b) (λ o. and_then (after_word vars-word c) (λ n. rest_of p o n ls))) s e in
    let u = then_some (order_read b) (λ o. and_then (after_word vars-word c) (λ n. rest_of t.0 o n ls)) s t.2 in
    let v = then_some (after_word vars-word c) (λ n. rest_of t.0 u.0 n ls) s u.2 in
    let p = after_read prime-word a t.0 t.1 in
    let o = order-read b u.0 u.1 in
    let n = after_read vars-word c v.0 v.1 in
    let r = rest_read t.0 u.0 v.0 ls s v.2 in
    let rest = rest_text r.weights r.lines in
    let third : joined 10 (c ∷ ls) ≡ (vars-word ++ decimal v.0) ++ (10 ∷ rest) = joined-lines c ls r.first r.others r.begin ∙ (ap (λ (x : List ℕ). x ++ (10 ∷ joined 10 ls)) n.1 ∙ ap (λ (x : List ℕ). (vars-word ++ decimal v.0) ++ (10 ∷ x)) r.text) in
    let second : joined 10 (b ∷ (c ∷ ls)) ≡ (order-word ++ order_name u.0) ++ (10 ∷ ((vars-word ++ decimal v.0) ++ (10 ∷ rest))) = joined-lines b (c ∷ ls) c ls refl ∙ (ap (λ (x : List ℕ). x ++ (10 ∷ joined 10 (c ∷ ls))) o ∙ ap (λ (x : List ℕ). (order-word ++ order_name u.0) ++ (10 ∷ x)) third) in
    let first = joined-lines a (b ∷ (c ∷ ls)) b (c ∷ ls) refl ∙ (ap (λ (x : List ℕ). x ++ (10 ∷ joined 10 (b ∷ (c ∷ ls)))) p.1 ∙ ap (λ (x : List ℕ). (prime-word ++ decimal t.0) ++ (10 ∷ x)) second) in
    rw (← r.is) (p.0, n.0, r.weights-good, r.lines-good, first)

-- No other text is accepted: what is read as s is the text of s, and s is a script of the grammar.
pub text-read : (bytes : List ℕ) (s : Script) → script_of bytes ≡ some s → GoodScript s × (bytes ≡ script_text s)
unfolding script_of
text-read bytes s e = go (leb (length bytes) script_bytes) refl e
  where
    go : (b : Bool) → leb (length bytes) script_bytes ≡ b → elim b [ true ↦ with_header (parts 10 bytes) | false ↦ none ] ≡ some s → GoodScript s × (bytes ≡ script_text s)
    go true l e =
        let h = header_read (parts 10 bytes) s e in
        let is : bytes ≡ script_text s = sym (joined-parts 10 bytes) ∙ h.4 in
        (record { prime-small = h.0; vars-small = h.1; weights-good = h.2; lines-good = h.3; not-long = rw is at (leb-true (length bytes) script_bytes l) }, is)
    go false l e = never e
