-- Laws of words at the start of a text and of separators. Assumes nothing.
use Prim.Native.Nat.{ℕ, suc, ◌+◌, ◌≤◌, ◌<◌}
use native.Mathlib.Numerals.{add-one}
use native.Mathlib.Omega.{arith}
use mathlib.Core.Path.{◌≡◌, refl, sym, ap, ◌∙◌}
use mathlib.Core.Bool.{Bool, cond, true, false, ◌&&◌}
use mathlib.Core.List.{List, [], ◌∷◌, ◌++◌, append-nil}
use borrow.Author.Tests.{eq-eqb, ne_eqb, eqb-true, leb-true, ltb-true, ltb-false}
use lib.Dec.{eqb, leb, eqb-suc-zero, eqb-zero-suc, eqb-suc-suc}
use lib.Pointwise.{pointwise}
use Rattle.std.proofs.Common.{nat_lt, Some, None}
use Rattle.std.specs.List.{position_or_len, position, slice_split, onto_first}
use Rattle.std.proofs.lemmas.List.Recursion.{is_position_or_len}
use lib.ListN.{length, get_or, take, drop, drop_of_length-le}
use Rattle.text.specs.Bytes.{begins, same, index_of, onto, parts, joined}

pub and-false : (b : Bool) → (b && false) ≡ false
and-false true = refl
and-false false = refl

pub both : (a b : Bool) → (a && b) ≡ true → (a ≡ true) × (b ≡ true)
both true b e = (refl, e)
both false b e = absurd (let z : ◌≡◌ {A = ℕ} 0 1 = cc in let y : ⊥ = omega arith in y)

pub cons : {A : Type 0} {a b : A} {l m : List A} → a ≡ b → l ≡ m → a ∷ l ≡ b ∷ m
cons p q = cc

-- ---- what the code's own tests of texts say
pub prefix-code : (w s : List ℕ) → pointwise eqb (take (length w) s) w ≡ begins w s
unfolding begins
prefix-code [] s = refl
prefix-code (x ∷ w) [] = refl
prefix-code (x ∷ w) (y ∷ s) = rw (prefix-code w s)

swap-and : (a b c : Bool) → (a && (b && c)) ≡ (b && (a && c))
swap-and true b c = refl
swap-and false true c = refl
swap-and false false c = refl

pub same-code : (w s : List ℕ) → pointwise eqb s w ≡ same w s
unfolding same begins
same-code [] [] = refl
same-code [] (y ∷ s) = rw eqb-suc-zero
same-code (x ∷ w) [] = rw eqb-zero-suc
same-code (x ∷ w) (y ∷ s) = rw (same-code w s, eqb-suc-suc (length s) (length w)) (swap-and (eqb y x) (eqb (length s) (length w)) (begins w s))

-- ---- the place of a separator
pub index-most : (b : ℕ) (s : List ℕ) → index_of b s ≤ length s
unfolding index_of
index-most b [] = omega arith
index-most b (x ∷ s) = go (eqb x b) (index-most b s)
  where
    go : (t : Bool) → index_of b s ≤ length s → elim t [ true ↦ 0 | false ↦ suc (index_of b s) ] ≤ suc (length s)
    go true h = omega arith
    go false h = omega arith

pub index-code : (b : ℕ) (s : List ℕ) → index_of b s ≡ position_or_len (λ x. eqb x b) s
unfolding index_of
index-code b = is_position_or_len (index_of b) (λ x. eqb x b) refl step
  where
    step : (x : ℕ) (xs : List ℕ) → index_of b (x ∷ xs) ≡ cond (eqb x b) 0 (1 + index_of b xs)
    step x xs = go (eqb x b)
      where
        go : (t : Bool) → elim t [ true ↦ 0 | false ↦ suc (index_of b xs) ] ≡ cond t 0 (1 + index_of b xs)
        go true = refl
        go false = omega arith

-- the place that `position` answers
pub index-found : (b : ℕ) (s : List ℕ) (i : ℕ) → Some i ≡ position (λ x. eqb x b) s → (i ≡ index_of b s) × (i < length s)
index-found b s i e = go (nat_lt (position_or_len (λ x. eqb x b) s) (length s)) refl e
  where
    go : (t : Bool) → nat_lt (position_or_len (λ x. eqb x b) s) (length s) ≡ t → Some i ≡ cond t (Some (position_or_len (λ x. eqb x b) s)) None → (i ≡ index_of b s) × (i < length s)
    go true l f = let k : i ≡ position_or_len (λ x. eqb x b) s = cc in (k ∙ sym (index-code b s), let m = ltb-true _ _ l in omega arith)
    go false l f = absurd (let z : ◌≡◌ {A = ℕ} 0 1 = cc in let y : ⊥ = omega arith in y)

pub index-none : (b : ℕ) (s : List ℕ) → None ≡ position (λ x. eqb x b) s → index_of b s ≡ length s
index-none b s e = go (nat_lt (position_or_len (λ x. eqb x b) s) (length s)) refl e
  where
    go : (t : Bool) → nat_lt (position_or_len (λ x. eqb x b) s) (length s) ≡ t → None ≡ cond t (Some (position_or_len (λ x. eqb x b) s)) None → index_of b s ≡ length s
    go true l f = absurd (let z : ◌≡◌ {A = ℕ} 0 1 = cc in let y : ⊥ = omega arith in y)
    go false l f = let m = ltb-false _ _ l in let k = index-most b s in let j = index-code b s in omega arith

-- what a word at the start tells
pub begins-is : (w s : List ℕ) → begins w s ≡ true → s ≡ w ++ drop (length w) s
unfolding begins
begins-is [] s e = refl
begins-is (x ∷ w) [] e = absurd (let z : ◌≡◌ {A = ℕ} 0 1 = cc in let y : ⊥ = omega arith in y)
begins-is (x ∷ w) (y ∷ s) e =
    let t = both (eqb y x) (begins w s) e in
    cons (eqb-true _ _ t.0) (begins-is w s t.1)

pub begins-word : (w s : List ℕ) → begins w (w ++ s) ≡ true
unfolding begins
begins-word [] s = refl
begins-word (x ∷ w) s = rw (eq-eqb x x refl) (begins-word w s)

pub same-is : (w s : List ℕ) → same w s ≡ true → s ≡ w
unfolding same
same-is w s e =
    let t = both (eqb (length s) (length w)) (begins w s) e in
    let i = begins-is w s t.1 in
    let z : length s ≤ length w = omega (arith, eqb-true (length s) (length w) t.0) in
    i ∙ (ap (λ (l : List ℕ). w ++ l) (drop_of_length-le s z) ∙ append-nil w)

-- ---- parts

-- no byte of a text is b
abbrev pub Without : ℕ → List ℕ → Type 0
Without b [] = Unit {0}
Without b (x ∷ xs) = (x ≡ b → ⊥) × Without b xs

abbrev pub AllWithout : ℕ → List (List ℕ) → Type 0
AllWithout b [] = Unit {0}
AllWithout b (p ∷ ps) = Without b p × AllWithout b ps

abbrev first : List (List ℕ) → List ℕ
first [] = []
first (p ∷ ps) = p

-- a text without b is one part; before a b it is the first
pub parts-one : (b : ℕ) (p : List ℕ) → Without b p → parts b p ≡ p ∷ []
unfolding parts
parts-one b [] w = refl
parts-one b (x ∷ p) w = rw (ne_eqb x b w.0, parts, parts-one b p w.1)

pub parts_first : (b : ℕ) (p s : List ℕ) → Without b p → parts b (p ++ (b ∷ s)) ≡ p ∷ parts b s
unfolding parts
parts_first b [] s w = rw (eq-eqb b b refl, parts)
parts_first b (x ∷ p) s w = rw (ne_eqb x b w.0, parts, parts_first b p s w.1)

-- parts are got back from what they join to
pub parts-joined : (b : ℕ) (p : List ℕ) (ps : List (List ℕ)) → AllWithout b (p ∷ ps) → parts b (joined b (p ∷ ps)) ≡ p ∷ ps
unfolding joined
parts-joined b p [] w = parts-one b p w.0
parts-joined b p (q ∷ ps) w = parts_first b p (joined b (q ∷ ps)) w.0 ∙ ap (λ (l : List (List ℕ)). p ∷ l) (parts-joined b q ps w.1)

-- and a text from its parts
pub parts-some : (b : ℕ) (s : List ℕ) → (p : List ℕ) × (ps : List (List ℕ)) × (parts b s ≡ p ∷ ps)
unfolding parts
parts-some b [] = ([], [], refl)
parts-some b (x ∷ s) = go (eqb x b) (parts b s) (parts-some b s)
  where
    go : (t : Bool) (l : List (List ℕ)) → (p : List ℕ) × (ps : List (List ℕ)) × (l ≡ p ∷ ps) → (p : List ℕ) × (ps : List (List ℕ)) × (elim t [ true ↦ [] ∷ l | false ↦ onto x l ] ≡ p ∷ ps)
    go true l m = ([], l, refl)
    go false l m = (x ∷ m.0, m.1, ap (onto x) m.2)

-- the same parts as the library's `split` gives
pub parts-code : (b : ℕ) (s : List ℕ) → parts b s ≡ slice_split (λ x. eqb x b) s
unfolding parts
parts-code b [] = refl
parts-code b (x ∷ s) = let m = parts-some b s in go (eqb x b) (parts b s) m.0 m.1 m.2 (parts-code b s)
  where
    go : (t : Bool) (l : List (List ℕ)) (p : List ℕ) (ps : List (List ℕ)) → l ≡ p ∷ ps → l ≡ slice_split (λ y. eqb y b) s → elim t [ true ↦ [] ∷ l | false ↦ onto x l ] ≡ cond t ([] ∷ slice_split (λ y. eqb y b) s) (onto_first x (slice_split (λ y. eqb y b) s))
    go true l p ps m i = ap (λ (k : List (List ℕ)). [] ∷ k) i
    go false l p ps m i = rw (← i, m) refl

-- a part that the library's `split` comes to at a place
pub part_at : (b : ℕ) (s : List ℕ) (n : ℕ) {m : ℕ} {part : List ℕ} → n ≡ m → (m < length (slice_split (λ x. eqb x b) s)) × (part ≡ get_or (slice_split (λ x. eqb x b) s) m part) → (n < length (parts b s)) × (part ≡ get_or (parts b s) n part)
part_at b s n {m} {part} e h = rw (parts-code b s, e) h

pub parts-most : (b : ℕ) (s : List ℕ) → length (parts b s) ≤ length s + 1
unfolding parts
parts-most b [] = omega arith
parts-most b (x ∷ s) = go (eqb x b) (parts b s) (parts-most b s)
  where
    go : (t : Bool) (l : List (List ℕ)) → length l ≤ length s + 1 → length {A = List ℕ} (elim t [ true ↦ [] ∷ l | false ↦ onto x l ]) ≤ suc (length s) + 1
    go true l h = omega arith
    go false [] h = omega arith
    go false (p ∷ l) h = omega arith

onto-joined : (b x : ℕ) (p : List ℕ) (ps : List (List ℕ)) → joined b ((x ∷ p) ∷ ps) ≡ x ∷ joined b (p ∷ ps)
unfolding joined
onto-joined b x p [] = refl
onto-joined b x p (q ∷ ps) = refl

pub joined-parts : (b : ℕ) (s : List ℕ) → joined b (parts b s) ≡ s
unfolding parts joined
joined-parts b [] = refl
joined-parts b (x ∷ s) = let m = parts-some b s in go (eqb x b) refl (parts b s) m.0 m.1 m.2 (joined-parts b s)
  where
    go : (t : Bool) → eqb x b ≡ t → (l : List (List ℕ)) (p : List ℕ) (ps : List (List ℕ)) → l ≡ p ∷ ps → joined b l ≡ s → joined b (elim t [ true ↦ [] ∷ l | false ↦ onto x l ]) ≡ x ∷ s
    go true e l p ps m i = rw m (cons (sym (eqb-true _ _ e)) (rw m at i))
    go false e l p ps m i = rw m (onto-joined b x p ps ∙ ap (λ (r : List ℕ). x ∷ r) (rw m at i))

-- the first part, by the place of the separator
pub parts-found : (b : ℕ) (s : List ℕ) → index_of b s < length s → parts b s ≡ take (index_of b s) s ∷ parts b (drop (suc (index_of b s)) s)
unfolding parts index_of
parts-found b [] h = absurd (let z : ⊥ = omega arith in z)
parts-found b (x ∷ s) h = go (eqb x b) h (λ k. parts-found b s k)
  where
    go : (t : Bool) → elim t [ true ↦ 0 | false ↦ suc (index_of b s) ] < suc (length s) → (index_of b s < length s → parts b s ≡ take (index_of b s) s ∷ parts b (drop (suc (index_of b s)) s))
        → elim t [ true ↦ [] ∷ parts b s | false ↦ onto x (parts b s) ] ≡ take (elim t [ true ↦ 0 | false ↦ suc (index_of b s) ]) (x ∷ s) ∷ parts b (drop (suc (elim t [ true ↦ 0 | false ↦ suc (index_of b s) ])) (x ∷ s))
    go true k f = refl
    go false k f = ap (onto x) (f (omega arith))

pub parts_last : (b : ℕ) (s : List ℕ) → length s ≤ index_of b s → parts b s ≡ s ∷ []
unfolding parts index_of
parts_last b [] h = refl
parts_last b (x ∷ s) h = go (eqb x b) h (λ k. parts_last b s k)
  where
    go : (t : Bool) → suc (length s) ≤ elim t [ true ↦ 0 | false ↦ suc (index_of b s) ] → (length s ≤ index_of b s → parts b s ≡ s ∷ []) → elim t [ true ↦ [] ∷ parts b s | false ↦ onto x (parts b s) ] ≡ (x ∷ s) ∷ []
    go true k f = absurd (let z : ⊥ = omega arith in z)
    go false k f = ap (onto x) (f (omega arith))

-- the same of a text that is cut at its first separator
module _ (b : ℕ) (s : List ℕ) {l r : List ℕ} (c : (index_of b s < length s) × (l ≡ take (index_of b s) s) × (r ≡ drop (index_of b s + 1) s)) where
  pub parts-cut : parts b s ≡ l ∷ parts b r
  parts-cut = parts-found b s c.0 ∙ cons (sym c.1) (ap (parts b) (sym (c.2 ∙ ap (λ (n : ℕ). drop n s) (add-one (index_of b s)))))

pub parts-uncut : (b : ℕ) (s : List ℕ) → index_of b s ≡ length s → parts b s ≡ s ∷ []
parts-uncut b s e = parts_last b s (omega arith)

-- a word without b at the start is the start of the first part
pub parts-behind : (b : ℕ) (w s p : List ℕ) (ps : List (List ℕ)) → Without b w → parts b s ≡ p ∷ ps → parts b (w ++ s) ≡ (w ++ p) ∷ ps
unfolding parts
parts-behind b [] s p ps h e = e
parts-behind b (x ∷ w) s p ps h e = rw (ne_eqb x b h.0, parts, parts-behind b w s p ps h.1 e)

pub begins-first : (b : ℕ) (w s p : List ℕ) (ps : List (List ℕ)) → Without b w → parts b s ≡ p ∷ ps → begins w p ≡ begins w s
unfolding parts begins
begins-first b [] s p ps h e = refl
begins-first b (x ∷ w) [] p ps h e = ap (begins (x ∷ w)) (sym (ap first e))
begins-first b (x ∷ w) (y ∷ s) p ps h e = let m = parts-some b s in go (eqb y b) refl (parts b s) m.0 m.1 m.2 (λ q qs f. begins-first b w s q qs h.1 f) e
  where
    go :
        (t : Bool)
        → eqb y b ≡ t
        → (l : List (List ℕ)) (q : List ℕ) (qs : List (List ℕ))
        → l ≡ q ∷ qs
        → ((q : List ℕ) (qs : List (List ℕ)) → l ≡ q ∷ qs → begins w q ≡ begins w s)
        → elim t [ true ↦ [] ∷ l | false ↦ onto y l ] ≡ p ∷ ps
        → begins (x ∷ w) p ≡ (eqb y x && begins w s)
    go true k l q qs m i f = ap (begins (x ∷ w)) (sym (ap first f)) ∙ sym (ap (λ (t : Bool). t && begins w s) (ne_eqb y x (λ z. h.0 (sym z ∙ eqb-true _ _ k))))
    go false k l q qs m i f = ap (begins (x ∷ w)) (sym (ap first (sym (ap (onto y) m) ∙ f))) ∙ ap (λ (t : Bool). eqb y x && t) (i q qs m)

-- the text before and after the first separator
pub cut : (b : ℕ) (s : List ℕ) → index_of b s < length s → s ≡ take (index_of b s) s ++ (b ∷ drop (suc (index_of b s)) s)
unfolding index_of
cut b [] h = absurd (let z : ⊥ = omega arith in z)
cut b (x ∷ s) h = go (eqb x b) refl h (λ k. cut b s k)
  where
    go : (t : Bool) → eqb x b ≡ t → elim t [ true ↦ 0 | false ↦ suc (index_of b s) ] < suc (length s) → (index_of b s < length s → s ≡ take (index_of b s) s ++ (b ∷ drop (suc (index_of b s)) s))
        → x ∷ s ≡ take (elim t [ true ↦ 0 | false ↦ suc (index_of b s) ]) (x ∷ s) ++ (b ∷ drop (suc (elim t [ true ↦ 0 | false ↦ suc (index_of b s) ])) (x ∷ s))
    go true e k f = cons (eqb-true _ _ e) refl
    go false e k f = ap (λ (l : List ℕ). x ∷ l) (f (omega arith))

pub index-first : (b : ℕ) (p s : List ℕ) → Without b p → index_of b (p ++ (b ∷ s)) ≡ length p
unfolding index_of
index-first b [] s w = rw (eq-eqb b b refl, index_of)
index-first b (x ∷ p) s w = rw (ne_eqb x b w.0, index_of, index-first b p s w.1)

-- ---- bytes in a range
abbrev pub Within : (low high : ℕ) → List ℕ → Type 0
Within low high [] = Unit {0}
Within low high (x ∷ xs) = ((low ≤ x) × (x ≤ high)) × Within low high xs

-- the same as a test, for words that are written out
abbrev pub within : (low high : ℕ) → List ℕ → Bool
within low high [] = true
within low high (x ∷ xs) = (leb low x && leb x high) && within low high xs

pub within-true : (low high : ℕ) (xs : List ℕ) → within low high xs ≡ true → Within low high xs
within-true low high [] e = tt
within-true low high (x ∷ xs) e =
    let t = both (leb low x && leb x high) (within low high xs) e in
    let u = both (leb low x) (leb x high) t.0 in
    ((leb-true _ _ u.0, leb-true _ _ u.1), within-true low high xs t.1)

pub within-append : (low high : ℕ) (xs ys : List ℕ) → Within low high xs → Within low high ys → Within low high (xs ++ ys)
within-append low high [] ys h k = k
within-append low high (x ∷ xs) ys h k = (h.0, within-append low high xs ys h.1 k)

pub within_more : (low high l m : ℕ) (xs : List ℕ) → l ≤ low → high ≤ m → Within low high xs → Within l m xs
within_more low high l m [] p q h = tt
within_more low high l m (x ∷ xs) p q h = ((omega (arith, h.0), omega (arith, h.0)), within_more low high l m xs p q h.1)

pub below-without : (low high b : ℕ) (xs : List ℕ) → b < low → Within low high xs → Without b xs
below-without low high b [] p h = tt
below-without low high b (x ∷ xs) p h = ((λ e. let z : ⊥ = omega (arith, h.0) in z), below-without low high b xs p h.1)

pub above-without : (low high b : ℕ) (xs : List ℕ) → high < b → Within low high xs → Without b xs
above-without low high b [] p h = tt
above-without low high b (x ∷ xs) p h = ((λ e. let z : ⊥ = omega (arith, h.0) in z), above-without low high b xs p h.1)
