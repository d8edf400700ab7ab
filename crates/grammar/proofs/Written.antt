-- Every script of the grammar is accepted, and read from its text. Assumes nothing.
use Prim.Native.Nat.{ℕ, suc, ◌≤◌, ◌<◌}
use native.Mathlib.Omega.{arith}
use mathlib.Core.Path.{◌≡◌, refl, sym, ap, ◌∙◌}
use mathlib.Core.Bool.{Bool, true, false}
use mathlib.Core.List.{List, [], ◌∷◌, ◌++◌, map}
use mathlib.Core.Option.{Option, none, some}
use borrow.Author.Tests.{eq-eqb, lt-ltb, le-leb}
use lib.Dec.{eqb, ltb}
use lib.ListN.{length, drop, length-append}
use lib.Seq.{take-append_seam, drop-append_seam}
use Rattle.limits.specs.Limits.{script_bytes}
use Rattle.monomial.specs.declared.order.Order.{Order}
use Rattle.monomial.specs.declared.order.Order.TheVariants.{Lex, DegLex, DegRevLex}
use Rattle.text.specs.Bytes.{begins, same, index_of, parts, joined}
use Rattle.text.specs.Numbers.{decimal, and_then, number_of}
use Rattle.text.proofs.ByteLaws.{and-false, begins-word, parts-some, parts_first, parts-joined, index-first, Without, AllWithout, Within, within-true, within-append, within_more, below-without, above-without}
use Rattle.text.proofs.NumberLaws.{number-written, decimal-within}
use Rattle.grammar.specs.Grammar.{Entry, Line, add_line, lead_line, sum_line, Script, prime-word, order-word, vars-word, weights-word, add-word, lead-word, sum-word, order_name, entry_text, entries_text, line_text, lines_text, spaced_text, rest_text, script_text, Small, AllSmall, GoodEntry, GoodEntries, GoodLine, GoodLines, GoodWeights, GoodScript}
use Rattle.grammar.specs.Reading.{numbers_of, exponents_of, entry_at, entry_by, entry_of, entries_of, add_of, line_of, lines_of, number_if, after_word, order_read, weights_of, script_from, rest_by, rest_of, with_header, script_of}
use Rattle.grammar.proofs.Accepted.{is_some, entries-joined, spaced-joined, line_read}

-- ---- numbers
numbers-written : (vs : List ℕ) → AllSmall vs → numbers_of (map decimal vs) ≡ some vs
unfolding numbers_of and_then
numbers-written [] h = refl
numbers-written (v ∷ vs) h = rw (number-written v h.0, numbers-written vs h.1)

dots-without : (vs : List ℕ) → AllWithout 46 (map decimal vs)
dots-without [] = tt
dots-without (v ∷ vs) = (below-without 48 57 46 (decimal v) (omega arith) (decimal-within v), dots-without vs)

joined-within : (vs : List ℕ) → Within 46 57 (joined 46 (map decimal vs))
unfolding joined
joined-within [] = tt
joined-within (v ∷ []) = within_more 48 57 46 57 (decimal v) (omega arith) (omega arith) (decimal-within v)
joined-within (v ∷ (w ∷ vs)) = within-append 46 57 (decimal v) (46 ∷ joined 46 (map decimal (w ∷ vs))) (within_more 48 57 46 57 (decimal v) (omega arith) (omega arith) (decimal-within v)) ((omega arith, omega arith), joined-within (w ∷ vs))

exponents-written : (n : ℕ) (es : List ℕ) → AllSmall es → 1 ≤ length es → length es ≡ n → exponents_of n (joined 46 (map decimal es)) ≡ some es
unfolding and_then
exponents-written n [] a h e = absurd (let z : ⊥ = omega arith in z)
exponents-written n (v ∷ vs) a h e = rw (parts-joined 46 (decimal v) (map decimal vs) (dots-without (v ∷ vs)), numbers-written (v ∷ vs) a, eq-eqb (suc (length vs)) n e)

-- ---- terms
pub entry-within : (t : Entry) → Within 46 58 (entry_text t)
entry-within t = within-append 46 58 (decimal t.coef) (58 ∷ joined 46 (map decimal t.exps)) (within_more 48 57 46 58 (decimal t.coef) (omega arith) (omega arith) (decimal-within t.coef)) ((omega arith, omega arith), within_more 46 57 46 58 (joined 46 (map decimal t.exps)) (omega arith) (omega arith) (joined-within t.exps))

-- the term by the place of its colon
pub entry-at : (n k : ℕ) (s : List ℕ) → index_of 58 s ≡ k → k < length s → entry_of n s ≡ entry_at n k s
unfolding entry_of
entry-at n k s e l = ap (λ (i : ℕ). entry_by (ltb i (length s)) n i s) e ∙ ap (λ (b : Bool). entry_by b n k s) (lt-ltb k (length s) l)

entry-written : (n : ℕ) (t : Entry) → GoodEntry n t → entry_of n (entry_text t) ≡ some t
unfolding and_then
entry-written n t g =
    let c = decimal t.coef in
    let e = joined 46 (map decimal t.exps) in
    let k : index_of 58 (c ++ (58 ∷ e)) ≡ length c = index-first 58 c e (above-without 48 57 58 c (omega arith) (decimal-within t.coef)) in
    let l : length c < length (c ++ (58 ∷ e)) = simp length-append (omega arith) in
    let d : drop (suc (length c)) (c ++ (58 ∷ e)) ≡ e = behind c 58 e in
    entry-at n (length c) (c ++ (58 ∷ e)) k l ∙ rw (take-append_seam c (58 ∷ e), number-written t.coef g.coef-small, d, exponents-written n t.exps g.exps-small g.some-exps g.n-exps)
  where
    behind : (c : List ℕ) (x : ℕ) (e : List ℕ) → drop (suc (length c)) (c ++ (x ∷ e)) ≡ e
    behind [] x e = refl
    behind (y ∷ c) x e = behind c x e

entries-written : (n : ℕ) (ts : List Entry) → GoodEntries n ts → entries_of n (map (λ t. entry_text t) ts) ≡ some ts
unfolding entries_of and_then
entries-written n [] g = refl
entries-written n (t ∷ ts) g = rw (entry-written n t g.0, entries-written n ts g.1)

spaces-without : (ts : List Entry) → AllWithout 32 (map (λ t. entry_text t) ts)
spaces-without [] = tt
spaces-without (t ∷ ts) = (below-without 46 58 32 (entry_text t) (omega arith) (entry-within t), spaces-without ts)

entries-within : (ts : List Entry) → Within 32 122 (entries_text ts)
unfolding entries_text
entries-within [] = tt
entries-within (t ∷ ts) = ((omega arith, omega arith), within-append 32 122 (entry_text t) (entries_text ts) (within_more 46 58 32 122 (entry_text t) (omega arith) (omega arith) (entry-within t)) (entries-within ts))

-- ---- lines
line-written : (n : ℕ) (l : Line) → GoodLine n l → line_of n (line_text l) ≡ some l
unfolding line_of same begins add_of and_then
line-written n lead_line g = refl
line-written n sum_line g = refl
line-written n (add_line ts) g =
    let s = entries_text ts in
    let p : parts 32 s ≡ [] ∷ map (λ t. entry_text t) ts = ap (parts 32) (sym (entries-joined ts)) ∙ parts-joined 32 [] (map (λ t. entry_text t) ts) (tt, spaces-without ts) in
    rw (and-false (eqb (suc (suc (suc (length s)))) 4), and-false (eqb (suc (suc (suc (length s)))) 3), p, entries-written n ts g)

line-within : (l : Line) → Within 32 122 (line_text l)
line-within (add_line ts) = within-append 32 122 add-word (entries_text ts) (within-true 32 122 add-word refl) (entries-within ts)
line-within lead_line = within-true 32 122 lead-word refl
line-within sum_line = within-true 32 122 sum-word refl

lines_two : (n : ℕ) (s m : List ℕ) (r : List (List ℕ)) (l : Line) (ls : List Line) → line_of n s ≡ some l → lines_of n (m ∷ r) ≡ some ls → lines_of n (s ∷ (m ∷ r)) ≡ some (l ∷ ls)
unfolding lines_of and_then
lines_two n s m r l ls e i = rw (e, i)

-- all lines, with the newline behind the last
lines-written : (n : ℕ) (ls : List Line) → GoodLines n ls → lines_of n (parts 10 (lines_text ls)) ≡ some ls
unfolding lines_of lines_text parts and_then
lines-written n [] g = refl
lines-written n (l ∷ ls) g =
    let m = parts-some 10 (lines_text ls) in
    let p : parts 10 (line_text l ++ (10 ∷ lines_text ls)) ≡ line_text l ∷ (m.0 ∷ m.1) = parts_first 10 (line_text l) (lines_text ls) (below-without 32 122 10 (line_text l) (omega arith) (line-within l)) ∙ ap (λ (x : List (List ℕ)). line_text l ∷ x) m.2 in
    let i : lines_of n (m.0 ∷ m.1) ≡ some ls = ap (lines_of n) (sym m.2) ∙ lines-written n ls g.1 in
    ap (lines_of n) p ∙ lines_two n (line_text l) m.0 m.1 l ls (line-written n l g.0) i

-- ---- the first lines
header-within : (w : List ℕ) (v : ℕ) → Within 32 122 w → Without 10 (w ++ decimal v)
header-within w v h = below-without 32 122 10 (w ++ decimal v) (omega arith) (within-append 32 122 w (decimal v) h (within_more 48 57 32 122 (decimal v) (omega arith) (omega arith) (decimal-within v)))

after-written : (w : List ℕ) (v : ℕ) → Small v → after_word w (w ++ decimal v) ≡ some v
after-written w v h = ap (λ (b : Bool). number_if b (drop (length w) (w ++ decimal v))) (begins-word w (decimal v)) ∙ (ap number_of (drop-append_seam w (decimal v)) ∙ number-written v h)

order-written : (o : Order) → order_read (order-word ++ order_name o) ≡ some o
unfolding same begins
order-written Lex = refl
order-written DegLex = refl
order-written DegRevLex = refl

order-without : (o : Order) → Without 10 (order-word ++ order_name o)
order-without o = below-without 32 122 10 (order-word ++ order_name o) (omega arith) (name o)
  where
    name : (o : Order) → Within 32 122 (order-word ++ order_name o)
    name Lex = within-true 32 122 (order-word ++ order_name Lex) refl
    name DegLex = within-true 32 122 (order-word ++ order_name DegLex) refl
    name DegRevLex = within-true 32 122 (order-word ++ order_name DegRevLex) refl

-- ---- weights
numbers-without : (vs : List ℕ) → AllWithout 32 (map decimal vs)
numbers-without [] = tt
numbers-without (v ∷ vs) = (below-without 48 57 32 (decimal v) (omega arith) (decimal-within v), numbers-without vs)

weights-written : (n : ℕ) (vs : List ℕ) → AllSmall vs → length vs ≡ n → weights_of n (spaced_text vs) ≡ some vs
unfolding and_then
weights-written n vs a e =
    let p : parts 32 (spaced_text vs) ≡ [] ∷ map decimal vs = ap (parts 32) (sym (spaced-joined vs)) ∙ parts-joined 32 [] (map decimal vs) (tt, numbers-without vs) in
    rw (p, numbers-written vs a, eq-eqb (length vs) n e)

spaced-within : (vs : List ℕ) → Within 32 122 (spaced_text vs)
unfolding spaced_text
spaced-within [] = tt
spaced-within (v ∷ vs) = ((omega arith, omega arith), within-append 32 122 (decimal v) (spaced_text vs) (within_more 48 57 32 122 (decimal v) (omega arith) (omega arith) (decimal-within v)) (spaced-within vs))

-- no other line begins with `weights`
no-weights : (l : Line) → begins weights-word (line_text l) ≡ false
unfolding begins
no-weights (add_line ts) = refl
no-weights lead_line = refl
no-weights sum_line = refl

-- so there is at most one such line, and only behind `vars`: a later one is no line of a script
pub weights-once : (n : ℕ) (s : List ℕ) → begins weights-word s ≡ true → line_of n s ≡ none
weights-once n s b = go (line_of n s) refl
  where
    go : (x : Option Line) → line_of n s ≡ x → x ≡ none
    go none e = refl
    go (some l) e =
        let q : true ≡ false = sym b ∙ (ap (begins weights-word) (line_read n s l e).1 ∙ no-weights l) in
        absurd (let z : ◌≡◌ {A = ℕ} 0 1 = cc in let y : ⊥ = omega arith in y)

first-line : (ls : List Line) → (q : List ℕ) × (qs : List (List ℕ)) × (parts 10 (lines_text ls) ≡ q ∷ qs) × (begins weights-word q ≡ false)
unfolding lines_text parts begins
first-line [] = ([], [], refl, refl)
first-line (l ∷ ls) = (line_text l, parts 10 (lines_text ls), parts_first 10 (line_text l) (lines_text ls) (below-without 32 122 10 (line_text l) (omega arith) (line-within l)), no-weights l)

rest-written : (p : ℕ) (o : Order) (n : ℕ) (ws : Option (List ℕ)) (ls : List Line) → GoodWeights n ws → GoodLines n ls → rest_of p o n (parts 10 (rest_text ws ls)) ≡ some (record { prime = p; order = o; vars = n; weights = ws; lines = ls })
unfolding and_then
rest-written p o n none ls a g =
    let f = first-line ls in
    ap (rest_of p o n) f.2 ∙ (ap (λ (b : Bool). rest_by b p o n f.0 f.1) f.3 ∙ (ap (script_from p o n none) (sym f.2) ∙ rw (lines-written n ls g)))
rest-written p o n (some vs) ls a g =
    let l = weights-word ++ spaced_text vs in
    let r = lines_text ls in
    let f : parts 10 (l ++ (10 ∷ r)) ≡ l ∷ parts 10 r = parts_first 10 l r (below-without 32 122 10 l (omega arith) (within-append 32 122 weights-word (spaced_text vs) (within-true 32 122 weights-word refl) (spaced-within vs))) in
    ap (rest_of p o n) f ∙ (ap (λ (b : Bool). rest_by b p o n l (parts 10 r)) (begins-word weights-word (spaced_text vs)) ∙ rw (weights-written n vs a.0 a.1, lines-written n ls g))

script-at : (bytes : List ℕ) (ps : List (List ℕ)) → length bytes ≤ script_bytes → parts 10 bytes ≡ ps → script_of bytes ≡ with_header ps
unfolding script_of
script-at bytes ps l e = rw (le-leb (length bytes) script_bytes l, script_of, e)

-- Every script of the grammar is accepted.
pub read-text : (s : Script) → GoodScript s → script_of (script_text s) ≡ some s
unfolding script_of script_text and_then
read-text s g =
    let a = prime-word ++ decimal s.prime in
    let b = order-word ++ order_name s.order in
    let c = vars-word ++ decimal s.vars in
    let r = rest_text s.weights s.lines in
    let third : parts 10 (c ++ (10 ∷ r)) ≡ c ∷ parts 10 r = parts_first 10 c r (header-within vars-word s.vars (within-true 32 122 vars-word refl)) in
    let second : parts 10 (b ++ (10 ∷ (c ++ (10 ∷ r)))) ≡ b ∷ (c ∷ parts 10 r) = parts_first 10 b (c ++ (10 ∷ r)) (order-without s.order) ∙ ap (λ (x : List (List ℕ)). b ∷ x) third in
    let first : parts 10 (script_text s) ≡ a ∷ (b ∷ (c ∷ parts 10 r)) = parts_first 10 a (b ++ (10 ∷ (c ++ (10 ∷ r)))) (header-within prime-word s.prime (within-true 32 122 prime-word refl)) ∙ ap (λ (x : List (List ℕ)). a ∷ x) second in
    script-at (script_text s) (a ∷ (b ∷ (c ∷ parts 10 r))) g.not-long first
    ∙ rw (after-written prime-word s.prime g.prime-small, order-written s.order, after-written vars-word s.vars g.vars-small, rest-written s.prime s.order s.vars s.weights s.lines g.weights-good g.lines-good)

-- A script has one reading: two scripts of the grammar with the same text are the same.
pub one-reading : (s t : Script) → GoodScript s → GoodScript t → script_text s ≡ script_text t → s ≡ t
one-reading s t g h e = is_some (sym (read-text s g) ∙ (ap script_of e ∙ read-text t h))
