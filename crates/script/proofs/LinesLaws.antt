-- The lines behind the first ones as the code reads them. Assumes nothing.
use Rattle.std.proofs.lemmas.List.{nil_from_length, take-append-drop}
use Rattle.std.specs.Prelude.{Some, None, Option as Answered}
use Prim.Native.Nat.{ℕ, suc, ◌+◌, ◌-◌, ◌*◌, ◌≤◌, ◌<◌}
use native.Mathlib.Numerals.{add-one}
use native.Mathlib.Omega.{arith}
use mathlib.Core.Path.{◌≡◌, refl, sym, ap, ◌∙◌}
use mathlib.Core.Bool.{Bool, true, false, ◌&&◌}
use mathlib.Core.List.{List, [], ◌∷◌, ◌++◌, map, append-nil, append_assoc}
use mathlib.Core.Option.{Option, none, some}
use lib.Dec.{eqb}
use lib.ListN.{length, take, drop, get_or, length-append, length-map, drop_of_length-le}
use lib.Pointwise.{pointwise}
use lib.Seq.{sets, length-sets, drop-cons}
use Rattle.monomial.specs.declared.order.Order.{Order}
use Rattle.text.specs.Bytes.{onto, parts}
use Rattle.text.specs.Numbers.{and_then}
use Rattle.text.proofs.ByteLaws.{same-code, same-is, parts-some, parts_first}
use Rattle.merge_common.proofs.Lists.{sets-append}
use Rattle.script.specs.declared.line.Counts.{Counts}
use Rattle.grammar.specs.Grammar.{Entry, Line, add_line, lead_line, sum_line, line_text, GoodLine}
use Rattle.grammar.specs.Reading.{line_of, lines_of}
use Rattle.grammar.specs.Parts.{entry_word, entry_coef}
use Rattle.script.specs.Loading.{line_entries, entries_in, ends_from, pairs_from, counts_behind, LineRoom, LineAs, ReadLine, counts_of, LinesRoom, ReadLines}
use Rattle.grammar.proofs.Accepted.{line_read}
use Rattle.script.proofs.FieldLaws.{entries-size, spent}
use Rattle.grammar.proofs.Prefix.{before, before_more, before-none}

-- ---- one line more
entries-more : (ls : List Line) (l : Line) → entries_in (ls ++ (l ∷ [])) ≡ entries_in ls ++ line_entries l
unfolding entries_in
entries-more [] l = append-nil (line_entries l)
entries-more (k ∷ ls) l = ap (λ (x : List Entry). line_entries k ++ x) (entries-more ls l) ∙ sym (append_assoc (line_entries k) (entries_in ls) (line_entries l))

ends_more : (at : ℕ) (ls : List Line) (l : Line) → ends_from at (ls ++ (l ∷ [])) ≡ ends_from at ls ++ ends_from (at + length (entries_in ls)) (l ∷ [])
unfolding ends_from entries_in
ends_more at [] l = ap (λ (k : ℕ). ends_from k (l ∷ [])) (let z : at ≡ at + 0 = omega arith in z)
ends_more at (add_line ts ∷ ls) l =
    let z : at + length ts + length (entries_in ls) ≡ at + length (ts ++ entries_in ls) = omega (arith, length-append ts (entries_in ls)) in
    ap (λ (x : List ℕ). (at + length ts) ∷ x) (ends_more (at + length ts) ls l ∙ ap (λ (k : ℕ). ends_from (at + length ts) ls ++ ends_from k (l ∷ [])) z)
ends_more at (lead_line ∷ ls) l = ends_more at ls l
ends_more at (sum_line ∷ ls) l = ends_more at ls l

-- the number of polynomials does not depend on where they lie
ends-long : (a b : ℕ) (ls : List Line) → length (ends_from a ls) ≡ length (ends_from b ls)
unfolding ends_from
ends-long a b [] = refl
ends-long a b (add_line ts ∷ ls) = ap suc (ends-long (a + length ts) (b + length ts) ls)
ends-long a b (lead_line ∷ ls) = ends-long a b ls
ends-long a b (sum_line ∷ ls) = ends-long a b ls

pairs-more : (k : ℕ) (ls : List Line) (l : Line) → pairs_from k (ls ++ (l ∷ [])) ≡ pairs_from k ls ++ pairs_from (k + length (ends_from 0 ls)) (l ∷ [])
unfolding pairs_from ends_from
pairs-more k [] l = ap (λ (j : ℕ). pairs_from j (l ∷ [])) (let z : k ≡ k + 0 = omega arith in z)
pairs-more k (add_line ts ∷ ls) l =
    let z : k + 1 + length (ends_from 0 ls) ≡ k + suc (length (ends_from (0 + length ts) ls)) = omega (arith, ends-long 0 (0 + length ts) ls) in
    ap (λ (x : List ℕ). 1 ∷ (k ∷ x)) (pairs-more (k + 1) ls l ∙ ap (λ (j : ℕ). pairs_from (k + 1) ls ++ pairs_from j (l ∷ [])) z)
pairs-more k (lead_line ∷ ls) l = ap (λ (x : List ℕ). 2 ∷ (0 ∷ x)) (pairs-more k ls l)
pairs-more k (sum_line ∷ ls) l = ap (λ (x : List ℕ). 3 ∷ (0 ∷ x)) (pairs-more k ls l)

pub pairs-long : (k : ℕ) (ls : List Line) → length (pairs_from k ls) ≡ 2 * length ls
unfolding pairs_from
pairs-long k [] = refl
pairs-long k (add_line ts ∷ ls) = omega (arith, pairs-long (k + 1) ls)
pairs-long k (lead_line ∷ ls) = omega (arith, pairs-long k ls)
pairs-long k (sum_line ∷ ls) = omega (arith, pairs-long k ls)

same-counts : {a b c a' b' c' : ℕ} → a ≡ a' → b ≡ b' → c ≡ c' → ◌≡◌ {A = Counts} (record { terms = a; polynomials = b; operations = c }) (record { terms = a'; polynomials = b'; operations = c' })
same-counts p q r = cc

-- before the first line
abbrev pub none_read : Counts
none_read = record { terms = 0; polynomials = 0; operations = 0 }

pub counts-none : (c : Counts) → c.terms ≡ 0 → c.polynomials ≡ 0 → c.operations ≡ 0 → c ≡ none_read
counts-none c p q r = same-counts p q r

counts-more : (ls : List Line) (l : Line) → counts_of (ls ++ (l ∷ [])) ≡ counts_behind (counts_of ls) l
unfolding ends_from
counts-more ls l = go l (ap length (entries-more ls l) ∙ length-append (entries_in ls) (line_entries l)) (ap length (ends_more 0 ls l) ∙ length-append (ends_from 0 ls) (ends_from (0 + length (entries_in ls)) (l ∷ []))) (length-append ls (l ∷ []))
  where
    go : (k : Line) → length (entries_in (ls ++ (l ∷ []))) ≡ length (entries_in ls) + length (line_entries k) → length (ends_from 0 (ls ++ (l ∷ []))) ≡ length (ends_from 0 ls) + length (ends_from (0 + length (entries_in ls)) (k ∷ [])) → length (ls ++ (l ∷ [])) ≡ length ls + 1 → counts_of (ls ++ (l ∷ [])) ≡ counts_behind (counts_of ls) k
    go (add_line ts) p q r = same-counts p q r
    go lead_line p q r = same-counts (omega arith) (omega arith) r
    go sum_line p q r = same-counts (omega arith) (omega arith) r

-- ---- a line has four bytes for each term, and three at least
line-size : (n : ℕ) (s : List ℕ) (l : Line) → line_of n s ≡ some l → (4 * length (line_entries l) + 3 ≤ length s)
line-size n s l e = let g = line_read n s l e in rw g.1 (go l g.0)
  where
    go : (k : Line) → GoodLine n k → 4 * length (line_entries k) + 3 ≤ length (line_text k)
    go (add_line ts) g = omega (arith, entries-size n ts g)
    go lead_line g = omega arith
    go sum_line g = omega arith

-- ---- what a line's answer tells
line-bad : (o : Order) (vs : List ℕ) (x : Option Line) (c : Counts) (words coefs starts ops words' coefs' starts' ops' : List ℕ) (r : Answered Counts) → LineAs o vs x c words coefs starts ops words' coefs' starts' ops' r → r ≡ None → x ≡ none
line-bad o vs none c words coefs starts ops words' coefs' starts' ops' r d e = refl
line-bad o vs (some l) c words coefs starts ops words' coefs' starts' ops' r d e = absurd (let x : r ≡ Some (counts_behind c l) = d.0 in let z : ◌≡◌ {A = ℕ} 0 1 = cc in let y : ⊥ = omega arith in y)

pub record LineRead (o : Order) (vs : List ℕ) (n : ℕ) (s : List ℕ) (c : Counts) (words coefs starts ops words' coefs' starts' ops' : List ℕ) (b : Counts) : Type 0 where
  pub line : Line
  pub is : line_of n s ≡ some line
  pub counts : b ≡ counts_behind c line
  pub words_are : words' ≡ sets words c.terms (map (entry_word o vs) (line_entries line))
  pub coefs-are : coefs' ≡ sets coefs c.terms (map entry_coef (line_entries line))
  pub starts-are : starts' ≡ sets starts (c.polynomials + 1) (ends_from c.terms (line ∷ []))
  pub ops-are : ops' ≡ sets ops (2 * c.operations) (pairs_from c.polynomials (line ∷ []))

line-good : (o : Order) (vs : List ℕ) (n : ℕ) (s : List ℕ) (x : Option Line) (c : Counts) (words coefs starts ops words' coefs' starts' ops' : List ℕ) (r : Answered Counts) (b : Counts) → line_of n s ≡ x → LineAs o vs x c words coefs starts ops words' coefs' starts' ops' r → r ≡ Some b → LineRead o vs n s c words coefs starts ops words' coefs' starts' ops' b
line-good o vs n s none c words coefs starts ops words' coefs' starts' ops' r b q d e = absurd (let x : r ≡ None = d in let z : ◌≡◌ {A = ℕ} 0 1 = cc in let y : ⊥ = omega arith in y)
line-good o vs n s (some l) c words coefs starts ops words' coefs' starts' ops' r b q d e = let x : r ≡ Some (counts_behind c l) = d.0 in record { line = l; is = q; counts = cc; words_are = d.1; coefs-are = d.2; starts-are = d.3; ops-are = d.4 }

pub line-none : {o : Order} {vs : List ℕ} {n : ℕ} {s : List ℕ} {c : Counts} {words coefs starts ops words' coefs' starts' ops' : List ℕ} {r : Answered Counts} → ReadLine o vs n s c words coefs starts ops words' coefs' starts' ops' r → r ≡ None → line_of n s ≡ none
line-none {o} {vs} {n} {s} {c} {words} {coefs} {starts} {ops} {words'} {coefs'} {starts'} {ops'} {r} d e = line-bad o vs (line_of n s) c words coefs starts ops words' coefs' starts' ops' r d.is e

pub line-some : {o : Order} {vs : List ℕ} {n : ℕ} {s : List ℕ} {c : Counts} {words coefs starts ops words' coefs' starts' ops' : List ℕ} {r : Answered Counts} {b : Counts} → ReadLine o vs n s c words coefs starts ops words' coefs' starts' ops' r → r ≡ Some b → LineRead o vs n s c words coefs starts ops words' coefs' starts' ops' b
line-some {o} {vs} {n} {s} {c} {words} {coefs} {starts} {ops} {words'} {coefs'} {starts'} {ops'} {r} {b} d e = line-good o vs n s (line_of n s) c words coefs starts ops words' coefs' starts' ops' r b refl d.is e

-- ---- the parts between newlines, each of them a line
unfoldable pub each_line : (n : ℕ) → List (List ℕ) → Option (List Line)
each_line n [] = some []
each_line n (p ∷ ps) = and_then (line_of n p) (λ l. and_then (each_line n ps) (λ ls. some (l ∷ ls)))

lines-behind : (n : ℕ) (l : List ℕ) (ls : List (List ℕ)) (m : List ℕ) (r : List (List ℕ)) → ls ≡ m ∷ r → lines_of n (l ∷ ls) ≡ and_then (line_of n l) (λ x. and_then (lines_of n ls) (λ xs. some (x ∷ xs)))
unfolding lines_of
lines-behind n l ls m r e = rw e

-- of a text that ends with a newline
lines-ended : (n : ℕ) (p : List ℕ) (ps : List (List ℕ)) → lines_of n ((p ∷ ps) ++ ([] ∷ [])) ≡ each_line n (p ∷ ps)
unfolding lines_of each_line
lines-ended n p [] = lines-behind n p ([] ∷ []) [] [] refl
lines-ended n p (q ∷ ps) = lines-behind n p ((q ∷ ps) ++ ([] ∷ [])) q (ps ++ ([] ∷ [])) refl ∙ ap (λ (x : Option (List Line)). and_then (line_of n p) (λ l. and_then x (λ ls. some (l ∷ ls)))) (lines-ended n q ps)

parts-ended : (b : ℕ) (t : List ℕ) → parts b (t ++ (b ∷ [])) ≡ parts b t ++ ([] ∷ [])
unfolding parts
parts-ended b [] = parts_first b [] [] tt
parts-ended b (x ∷ t) = let m = parts-some b t in go (eqb x b) (parts b t) m.0 m.1 m.2 (parts-ended b t)
  where
    go : (e : Bool) (l : List (List ℕ)) (p : List ℕ) (ps : List (List ℕ)) → l ≡ p ∷ ps → parts b (t ++ (b ∷ [])) ≡ l ++ ([] ∷ []) → elim e [ true ↦ [] ∷ parts b (t ++ (b ∷ [])) | false ↦ onto x (parts b (t ++ (b ∷ []))) ] ≡ ◌++◌ {A = List ℕ} (elim e [ true ↦ [] ∷ l | false ↦ onto x l ]) ([] ∷ [])
    go true l p ps m i = ap (λ (k : List (List ℕ)). [] ∷ k) i
    go false l p ps m i = ap (onto x) i ∙ rw m refl

pub lines-whole : (n : ℕ) (s t : List ℕ) → pointwise eqb (drop (length s - 1) s) (10 ∷ []) ≡ true → t ≡ take (length s - 1) s → lines_of n (parts 10 s) ≡ each_line n (parts 10 t)
lines-whole n s t e f =
    let d : drop (length s - 1) s ≡ 10 ∷ [] = same-is (10 ∷ []) (drop (length s - 1) s) (sym (same-code (10 ∷ []) (drop (length s - 1) s)) ∙ e) in
    let w : s ≡ t ++ (10 ∷ []) = sym (take-append-drop (length s - 1) s) ∙ (ap (λ (l : List ℕ). l ++ drop (length s - 1) s) (sym f) ∙ ap (λ (l : List ℕ). t ++ l) d) in
    let m = parts-some 10 t in
    ap (λ (l : List ℕ). lines_of n (parts 10 l)) w ∙ (ap (lines_of n) (parts-ended 10 t) ∙ (ap (λ (l : List (List ℕ)). lines_of n (l ++ ([] ∷ []))) m.2 ∙ (lines-ended n m.0 m.1 ∙ ap (each_line n) (sym m.2))))

-- of a text that ends otherwise: its last part is not empty
abbrev Open : List (List ℕ) → Type 0
Open [] = ⊥
Open (p ∷ []) = 0 < length p
Open (p ∷ (q ∷ ps)) = Open (q ∷ ps)

open-none : (n : ℕ) (ps : List (List ℕ)) → Open ps → lines_of n ps ≡ none
unfolding lines_of and_then
open-none n [] h = absurd h
open-none n ([] ∷ []) h = absurd (let z : ⊥ = omega arith in z)
open-none n ((b ∷ p) ∷ []) h = refl
open-none n (p ∷ (q ∷ ps)) h = lines-behind n p (q ∷ ps) q ps refl ∙ (ap (λ (x : Option (List Line)). and_then (line_of n p) (λ l. and_then x (λ ls. some (l ∷ ls)))) (open-none n (q ∷ ps) h) ∙ nothing (line_of n p))
  where
    nothing : (o : Option Line) → and_then o (λ l. and_then {A = List Line} none (λ ls. some (l ∷ ls))) ≡ none
    nothing none = refl
    nothing (some l) = refl

open-onto : (x : ℕ) (ps : List (List ℕ)) → Open ps → Open (onto x ps)
open-onto x [] h = absurd h
open-onto x (p ∷ []) h = omega arith
open-onto x (p ∷ (q ∷ ps)) h = h

open-behind : (ps : List (List ℕ)) → Open ps → Open ([] ∷ ps)
open-behind [] h = absurd h
open-behind (p ∷ ps) h = h

parts-open : (s : List ℕ) → 0 < length s → pointwise eqb (drop (length s - 1) s) (10 ∷ []) ≡ false → Open (parts 10 s)
unfolding parts
parts-open [] h e = absurd (let z : ⊥ = omega arith in z)
parts-open (x ∷ []) h e = go (eqb x 10) e
  where
    go : (t : Bool) → (t && true) ≡ false → Open (elim t [ true ↦ [] ∷ ([] ∷ []) | false ↦ (x ∷ []) ∷ [] ])
    go true e = absurd (let z : ◌≡◌ {A = ℕ} 0 1 = cc in let y : ⊥ = omega arith in y)
    go false e = omega arith
parts-open (x ∷ (y ∷ t)) h e =
    let z : suc (length (y ∷ t) - 1) ≡ length (x ∷ (y ∷ t)) - 1 = omega arith in
    go (eqb x 10) (parts 10 (y ∷ t)) (parts-open (y ∷ t) (omega arith) (ap (λ (k : ℕ). pointwise eqb (drop k (x ∷ (y ∷ t))) (10 ∷ [])) z ∙ e))
  where
    go : (b : Bool) (l : List (List ℕ)) → Open l → Open (elim b [ true ↦ [] ∷ l | false ↦ onto x l ])
    go true l o = open-behind l o
    go false l o = open-onto x l o

module _ {o : Order} {vs : List ℕ} (n : ℕ) (s : List ℕ) {words coefs starts ops : List ℕ} where
  -- no newline behind the last line
  pub lines-open : (length s ≡ 0 → ⊥) → pointwise eqb (drop (length s - 1) s) (10 ∷ []) ≡ false → ReadLines o vs n s words coefs starts ops words coefs starts ops None
  lines-open h e = record { is = rw (open-none n (parts 10 s) (parts-open s (omega arith) e)) refl }

  pub lines-empty : {c : Counts} → c ≡ none_read → length s ≡ 0 → ReadLines o vs n s words coefs starts ops words coefs starts ops (Some c)
  unfolding lines_of parts entries_in ends_from pairs_from
  lines-empty e h = record { is = rw (nil_from_length s h, e) (refl, refl, refl, refl, refl) }

-- ---- the lines of the first k parts, read
pub record Reading (o : Order) (vs : List ℕ) (n : ℕ) (ls : List (List ℕ)) (words₀ coefs₀ starts₀ ops₀ words coefs starts ops : List ℕ) (c : Counts) (k : ℕ) : Type 0 where
  pub done : List Line
  pub counts : c ≡ counts_of done
  pub whole : before done (each_line n (drop k ls)) ≡ each_line n ls
  pub words_are : words ≡ sets words₀ 0 (map (entry_word o vs) (entries_in done))
  pub coefs-are : coefs ≡ sets coefs₀ 0 (map entry_coef (entries_in done))
  pub starts-are : starts ≡ sets starts₀ 1 (ends_from 0 done)
  pub ops-are : ops ≡ sets ops₀ 0 (pairs_from 0 done)

-- room for l bytes of lines
pub record Left (l : ℕ) (c : Counts) (words coefs starts ops : ℕ) : Type 0 where
  pub terms-fit : 4 * c.terms + l ≤ 4 * words
  pub same-long : coefs ≡ words
  pub starts_fit : 4 * c.polynomials + l + 4 ≤ 4 * starts
  pub pairs-fit : 4 * c.operations + l ≤ 2 * ops

pub left-start : {l words coefs starts ops : ℕ} → LinesRoom l words coefs starts ops → {c : Counts} → c ≡ none_read → (k : ℕ) → k ≡ l → Left k c words coefs starts ops
left-start r z k e = rw z (record { terms-fit = omega (arith, r.terms-fit); same-long = r.same-long; starts_fit = omega (arith, r.starts_fit); pairs-fit = omega (arith, r.pairs-fit) })

map_both : {A : Type 0} (f : A → ℕ) (xs ys : List A) → map f (xs ++ ys) ≡ map f xs ++ map f ys
map_both f [] ys = refl
map_both f (x ∷ xs) ys = ap (λ (l : List ℕ). f x ∷ l) (map_both f xs ys)

-- what is put behind what has been put
put-behind : (l₀ l l' : List ℕ) (i at : ℕ) (us vs ws : List ℕ) → l ≡ sets l₀ i us → l' ≡ sets l at vs → at ≡ i + length us → ws ≡ us ++ vs → l' ≡ sets l₀ i ws
put-behind l₀ l l' i at us vs ws p q r t = q ∙ (ap (λ (x : List ℕ). sets x at vs) p ∙ (ap (λ (k : ℕ). sets (sets l₀ i us) k vs) r ∙ (sym (sets-append l₀ i us vs) ∙ ap (sets l₀ i) (sym t))))

pub reading-start : (o : Order) (vs : List ℕ) (n : ℕ) (ls : List (List ℕ)) (words coefs starts ops : List ℕ) {c : Counts} → c ≡ none_read → Reading o vs n ls words coefs starts ops words coefs starts ops c 0
unfolding ends_from pairs_from entries_in
reading-start o vs n ls words coefs starts ops e = record { done = []; counts = e; whole = before-none (each_line n ls); words_are = refl; coefs-are = refl; starts-are = refl; ops-are = refl }

module _ {o : Order} {vs : List ℕ} {n : ℕ} {ls : List (List ℕ)} {words₀ coefs₀ starts₀ ops₀ words coefs starts ops : List ℕ} {c : Counts} {k : ℕ} (d : Reading o vs n ls words₀ coefs₀ starts₀ ops₀ words coefs starts ops c k) where
  pub long-words : length words ≡ length words₀
  long-words = ap length d.words_are ∙ length-sets words₀ 0 (map (entry_word o vs) (entries_in d.done))

  pub long-coefs : length coefs ≡ length coefs₀
  long-coefs = ap length d.coefs-are ∙ length-sets coefs₀ 0 (map entry_coef (entries_in d.done))

  pub long-starts : length starts ≡ length starts₀
  long-starts = ap length d.starts-are ∙ length-sets starts₀ 1 (ends_from 0 d.done)

  pub long-ops : length ops ≡ length ops₀
  long-ops = ap length d.ops-are ∙ length-sets ops₀ 0 (pairs_from 0 d.done)

  pub reading-end : length ls ≤ k → {s : List ℕ} → lines_of n (parts 10 s) ≡ each_line n ls → ReadLines o vs n s words₀ coefs₀ starts₀ ops₀ words coefs starts ops (Some c)
  unfolding each_line and_then
  reading-end h {s} f =
      let w : some (d.done ++ []) ≡ lines_of n (parts 10 s) = ap (λ (ps : List (List ℕ)). before d.done (each_line n ps)) (sym (drop_of_length-le ls h)) ∙ (d.whole ∙ sym f) in
      record { is = rw (← w, append-nil) (ap Some d.counts, d.words_are, d.coefs-are, d.starts-are, d.ops-are) }

  module _ (t : List ℕ) (l : k < length ls) (is : t ≡ get_or ls k t) where
    next : drop k ls ≡ t ∷ drop (k + 1) ls
    next = rw (add-one k, drop-cons ls k t l) (ap (λ (p : List ℕ). p ∷ drop (suc k) ls) (sym is))

    read-next : before d.done (and_then (line_of n t) (λ x. and_then (each_line n (drop (k + 1) ls)) (λ xs. some (x ∷ xs)))) ≡ each_line n ls
    unfolding each_line
    read-next = ap (λ (ps : List (List ℕ)). before d.done (each_line n ps)) (sym next) ∙ d.whole

    pub reading-bad : line_of n t ≡ none → {s : List ℕ} → lines_of n (parts 10 s) ≡ each_line n ls → {words' coefs' starts' ops' : List ℕ} → ReadLines o vs n s words₀ coefs₀ starts₀ ops₀ words' coefs' starts' ops' None
    unfolding and_then
    reading-bad q {s} f =
        let w : none ≡ lines_of n (parts 10 s) = ap (λ (y : Option Line). before d.done (and_then y (λ x. and_then (each_line n (drop (k + 1) ls)) (λ xs. some (x ∷ xs))))) (sym q) ∙ (read-next ∙ sym f) in
        record { is = rw (← w) refl }

    line-long : spent (drop k ls) ≡ length t + 1 + spent (drop (k + 1) ls)
    line-long = omega (arith, ap spent next)

    -- room for this line
    pub line-room : Left (spent (drop k ls)) c (length words₀) (length coefs₀) (length starts₀) (length ops₀) → LineRoom (length t) c (length words) (length coefs) (length starts) (length ops)
    line-room r =
        let lw = long-words in
        let lc = long-coefs in
        let lt = long-starts in
        let lo = long-ops in
        record { terms-fit = omega (arith, lw, line-long, r.terms-fit); same-long = lc ∙ (r.same-long ∙ sym lw); starts_fit = omega (arith, lt, line-long, r.starts_fit); pairs-fit = omega (arith, lo, line-long, r.pairs-fit) }

    module _ {words' coefs' starts' ops' : List ℕ} {b : Counts} (r : LineRead o vs n t c words coefs starts ops words' coefs' starts' ops' b) where
      pub left-more : {words coefs starts ops : ℕ} → Left (spent (drop k ls)) c words coefs starts ops → Left (spent (drop (k + 1) ls)) b words coefs starts ops
      left-more {words} {coefs} {starts} {ops} f = rw r.counts (go r.line (line-size n t r.line r.is))
        where
          go : (l : Line) → 4 * length (line_entries l) + 3 ≤ length t → Left (spent (drop (k + 1) ls)) (counts_behind c l) words coefs starts ops
          go (add_line ts) z = record { terms-fit = omega (arith, line-long, f.terms-fit); same-long = f.same-long; starts_fit = omega (arith, line-long, f.starts_fit); pairs-fit = omega (arith, line-long, f.pairs-fit) }
          go lead_line z = record { terms-fit = omega (arith, line-long, f.terms-fit); same-long = f.same-long; starts_fit = omega (arith, line-long, f.starts_fit); pairs-fit = omega (arith, line-long, f.pairs-fit) }
          go sum_line z = record { terms-fit = omega (arith, line-long, f.terms-fit); same-long = f.same-long; starts_fit = omega (arith, line-long, f.starts_fit); pairs-fit = omega (arith, line-long, f.pairs-fit) }

      pub reading-more : Reading o vs n ls words₀ coefs₀ starts₀ ops₀ words' coefs' starts' ops' b (k + 1)
      unfolding and_then
      reading-more =
          let done = d.done in
          let l = r.line in
          let ct : c.terms ≡ length (entries_in done) = ap (λ (x : Counts). x.terms) d.counts in
          let cp : c.polynomials ≡ length (ends_from 0 done) = ap (λ (x : Counts). x.polynomials) d.counts in
          let co : c.operations ≡ length done = ap (λ (x : Counts). x.operations) d.counts in
          record {
            done = done ++ (l ∷ []);
            counts = r.counts ∙ (ap (λ (x : Counts). counts_behind x l) d.counts ∙ sym (counts-more done l));
            whole = sym (before_more done l (each_line n (drop (k + 1) ls))) ∙ (ap (λ (y : Option Line). before done (and_then y (λ j. and_then (each_line n (drop (k + 1) ls)) (λ js. some (j ∷ js))))) (sym r.is) ∙ read-next);
            words_are = put-behind words₀ words words' 0 c.terms (map (entry_word o vs) (entries_in done)) (map (entry_word o vs) (line_entries l)) _ d.words_are r.words_are (omega (arith, ct, length-map (entries_in done) (entry_word o vs))) (ap (map (entry_word o vs)) (entries-more done l) ∙ map_both (entry_word o vs) (entries_in done) (line_entries l));
            coefs-are = put-behind coefs₀ coefs coefs' 0 c.terms (map entry_coef (entries_in done)) (map entry_coef (line_entries l)) _ d.coefs-are r.coefs-are (omega (arith, ct, length-map (entries_in done) entry_coef)) (ap (map entry_coef) (entries-more done l) ∙ map_both entry_coef (entries_in done) (line_entries l));
            starts-are = put-behind starts₀ starts starts' 1 (c.polynomials + 1) (ends_from 0 done) (ends_from c.terms (l ∷ [])) _ d.starts-are r.starts-are (omega (arith, cp)) (ends_more 0 done l ∙ ap (λ (j : ℕ). ends_from 0 done ++ ends_from j (l ∷ [])) (let z : 0 + length (entries_in done) ≡ c.terms = omega (arith, ct) in z));
            ops-are = put-behind ops₀ ops ops' 0 (2 * c.operations) (pairs_from 0 done) (pairs_from c.polynomials (l ∷ [])) _ d.ops-are r.ops-are (omega (arith, co, pairs-long 0 done)) (pairs-more 0 done l ∙ ap (λ (j : ℕ). pairs_from 0 done ++ pairs_from j (l ∷ [])) (let z : 0 + length (ends_from 0 done) ≡ c.polynomials = omega (arith, cp) in z));
          }
