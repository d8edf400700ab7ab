-- The terms of an addition, field by field, as the code reads them. Assumes nothing.
use Rattle.std.proofs.lemmas.List.{nil_from_length}
use Rattle.std.proofs.lemmas.Option.{some_pair_parts}
use Rattle.std.specs.Prelude.{Some, None}
use Prim.Native.Nat.{ℕ, suc, ◌+◌, ◌*◌, ◌≤◌, ◌<◌}
use native.Mathlib.Numerals.{add-one}
use native.Mathlib.Omega.{arith}
use mathlib.Core.Path.{◌≡◌, refl, sym, ap, ◌∙◌}
use mathlib.Core.Bool.{Bool, true, false}
use mathlib.Core.List.{List, [], ◌∷◌, ◌++◌, map, append-nil}
use mathlib.Core.Option.{Option, none, some}
use lib.Dec.{eqb}
use lib.ListN.{length, drop, get_or, set, length-append, length-map, drop_of_length-le}
use lib.Seq.{sets, length-sets, drop-cons}
use Rattle.monomial.specs.declared.order.Order.{Order}
use Rattle.text.specs.Bytes.{begins, onto, parts, joined}
use Rattle.text.specs.Numbers.{decimal, and_then}
use Rattle.text.proofs.ByteLaws.{parts-some}
use Rattle.text.proofs.NumberLaws.{decimal-some}
use Rattle.merge_common.proofs.Lists.{sets-snoc}
use Rattle.grammar.specs.Grammar.{Entry, entry_text, entries_text, GoodEntry, GoodEntries}
use Rattle.grammar.specs.Reading.{entry_of, entries_of, fields_of}
use Rattle.grammar.specs.Parts.{parsed, entry_word, entry_coef}
use Rattle.script.specs.Loading.{ReadEntries}
use Rattle.grammar.proofs.Accepted.{entry_read}
use Rattle.grammar.proofs.WeightsLaws.{first-space}
use Rattle.grammar.proofs.Prefix.{map_snoc, before, before_more, before-none}

-- ---- the fields behind the first space
no-fields : (n : ℕ) (s : List ℕ) → length s ≡ 0 → fields_of n (parts 32 s) ≡ some []
unfolding parts entries_of
no-fields n s h = ap (λ (l : List ℕ). fields_of n (parts 32 l)) (nil_from_length s h)

no-space : (n : ℕ) (s : List ℕ) → (length s ≡ 0 → ⊥) → begins (32 ∷ []) s ≡ false → fields_of n (parts 32 s) ≡ none
unfolding parts
no-space n [] h e = absurd (h refl)
no-space n (x ∷ s) h e = let m = parts-some 32 s in rw (first-space x s ∙ e, parts, m.2)

pub fields-behind : (n : ℕ) (s t : List ℕ) → (length s ≡ 0 → ⊥) → begins (32 ∷ []) s ≡ true → t ≡ drop 1 s → fields_of n (parts 32 s) ≡ entries_of n (parts 32 t)
unfolding parts
fields-behind n [] t h e d = absurd (h refl)
fields-behind n (x ∷ s) t h e d = rw (first-space x s ∙ e, parts, d)

module _ {o : Order} {vs : List ℕ} (n : ℕ) (s : List ℕ) {at : ℕ} {words coefs : List ℕ} where
  pub entries-none : length s ≡ 0 → ReadEntries o vs n s at words coefs words coefs (Some at)
  entries-none h = record { is = rw (no-fields n s h) (ap Some (let z : at ≡ at + 0 = omega arith in z), refl, refl) }

  pub unspaced : (length s ≡ 0 → ⊥) → begins (32 ∷ []) s ≡ false → ReadEntries o vs n s at words coefs words coefs None
  unspaced h e = record { is = rw (no-space n s h e) refl }

-- ---- the bytes of some parts, each with a separator before it
abbrev pub spent : List (List ℕ) → ℕ
spent [] = 0
spent (p ∷ ps) = suc (length p + spent ps)

pub spent-parts : (b : ℕ) (s : List ℕ) → spent (parts b s) ≡ length s + 1
unfolding parts
spent-parts b [] = refl
spent-parts b (x ∷ s) = let m = parts-some b s in go (eqb x b) (parts b s) m.0 m.1 m.2 (spent-parts b s)
  where
    go : (t : Bool) (l : List (List ℕ)) (p : List ℕ) (ps : List (List ℕ)) → l ≡ p ∷ ps → spent l ≡ length s + 1 → spent (elim t [ true ↦ [] ∷ l | false ↦ onto x l ]) ≡ suc (length s) + 1
    go true l p ps m h = omega arith
    go false l p ps m h = rw m (let z : spent (p ∷ ps) ≡ length s + 1 = rw m at h in omega arith)

-- ---- the size of a term's text
joined-some : (e : ℕ) (es : List ℕ) → 1 ≤ length (joined 46 (map decimal (e ∷ es)))
unfolding joined
joined-some e [] = decimal-some e
joined-some e (f ∷ es) = simp length-append (omega arith)

pub entry-size : (n : ℕ) (t : Entry) → GoodEntry n t → 3 ≤ length (entry_text t)
entry-size n t g = simp length-append (omega (arith, decimal-some t.coef, behind t.exps g.some-exps))
  where
    behind : (es : List ℕ) → 1 ≤ length es → 1 ≤ length (joined 46 (map decimal es))
    behind [] h = absurd (let z : ⊥ = omega arith in z)
    behind (e ∷ es) h = joined-some e es

pub entries-size : (n : ℕ) (ts : List Entry) → GoodEntries n ts → 4 * length ts ≤ length (entries_text ts)
unfolding entries_text
entries-size n [] g = omega arith
entries-size n (t ∷ ts) g =
    let h : length (entry_text t ++ entries_text ts) ≡ length (entry_text t) + length (entries_text ts) = length-append (entry_text t) (entries_text ts) in
    omega (arith, h, entry-size n t g.0, entries-size n ts g.1)

-- ---- what the code's answer for one term tells
pub parsed-term : (o : Order) (vs : List ℕ) (x : Option Entry) (w c : ℕ) → Some (w, c) ≡ parsed o vs x → (t : Entry) × (x ≡ some t) × (w ≡ entry_word o vs t) × (c ≡ entry_coef t)
parsed-term o vs none w c e = absurd (let z : ◌≡◌ {A = ℕ} 0 1 = cc in let y : ⊥ = omega arith in y)
parsed-term o vs (some t) w c e = let p = some_pair_parts w (entry_word o vs t) c (entry_coef t) e in (t, refl, p.0, p.1)

pub parsed-bad : (o : Order) (vs : List ℕ) (x : Option Entry) → None ≡ parsed o vs x → x ≡ none
parsed-bad o vs none e = refl
parsed-bad o vs (some t) e = absurd (let z : ◌≡◌ {A = ℕ} 0 1 = cc in let y : ⊥ = omega arith in y)

-- ---- the terms put so far, of the first k fields
pub record Adding (o : Order) (vs : List ℕ) (n : ℕ) (fs : List (List ℕ)) (at : ℕ) (words₀ coefs₀ words coefs : List ℕ) (to k : ℕ) : Type 0 where
  pub done : List Entry
  pub place : to ≡ at + length done
  pub whole : before done (entries_of n (drop k fs)) ≡ entries_of n fs
  pub words_are : words ≡ sets words₀ at (map (entry_word o vs) done)
  pub coefs-are : coefs ≡ sets coefs₀ at (map entry_coef done)
  pub room : 4 * to + spent (drop k fs) ≤ 4 * length words₀

pub adding-start : (o : Order) (vs : List ℕ) (n : ℕ) (s : List ℕ) (at : ℕ) (words coefs : List ℕ) → 4 * at + (length s + 1) ≤ 4 * length words → Adding o vs n (parts 32 s) at words coefs words coefs at 0
adding-start o vs n s at words coefs h = record { done = []; place = omega arith; whole = before-none (entries_of n (parts 32 s)); words_are = refl; coefs-are = refl; room = omega (arith, h, spent-parts 32 s) }

put_one : {A : Type 0} (f : A → ℕ) (l₀ l : List ℕ) (at to : ℕ) (done : List A) (a : A) (v : ℕ) → to ≡ at + length done → l ≡ sets l₀ at (map f done) → v ≡ f a → set l to v ≡ sets l₀ at (map f (done ++ (a ∷ [])))
put_one f l₀ l at to done a v p e q =
    let z : to ≡ at + length (map f done) = omega (arith, length-map done f) in
    ap (λ (k : ℕ). set l k v) z ∙ (ap (λ (x : List ℕ). set x (at + length (map f done)) v) e ∙ (ap (λ (x : ℕ). set (sets l₀ at (map f done)) (at + length (map f done)) x) q ∙ (sym (sets-snoc l₀ at (map f done) (f a)) ∙ ap (sets l₀ at) (sym (map_snoc f done a)))))

module _ {o : Order} {vs : List ℕ} {n : ℕ} {fs : List (List ℕ)} {at : ℕ} {words₀ coefs₀ words coefs : List ℕ} {to k : ℕ} (a : Adding o vs n fs at words₀ coefs₀ words coefs to k) where
  pub adding-words : length words ≡ length words₀
  adding-words = ap length a.words_are ∙ length-sets words₀ at (map (entry_word o vs) a.done)

  pub adding-coefs : length coefs ≡ length coefs₀
  adding-coefs = ap length a.coefs-are ∙ length-sets coefs₀ at (map entry_coef a.done)

  pub adding-end : length fs ≤ k → {s : List ℕ} → fields_of n (parts 32 s) ≡ entries_of n fs → ReadEntries o vs n s at words₀ coefs₀ words coefs (Some to)
  unfolding and_then entries_of
  adding-end h {s} f =
      let w : some (a.done ++ []) ≡ fields_of n (parts 32 s) = ap (λ (ps : List (List ℕ)). before a.done (entries_of n ps)) (sym (drop_of_length-le fs h)) ∙ (a.whole ∙ sym f) in
      record { is = rw (← w, append-nil) (ap Some a.place, a.words_are, a.coefs-are) }

  module _ (field : List ℕ) (l : k < length fs) (is : field ≡ get_or fs k field) where
    next : drop k fs ≡ field ∷ drop (k + 1) fs
    next = rw (add-one k, drop-cons fs k field l) (ap (λ (p : List ℕ). p ∷ drop (suc k) fs) (sym is))

    read-next : before a.done (and_then (entry_of n field) (λ t. and_then (entries_of n (drop (k + 1) fs)) (λ ts. some (t ∷ ts)))) ≡ entries_of n fs
    unfolding entries_of
    read-next = ap (λ (ps : List (List ℕ)). before a.done (entries_of n ps)) (sym next) ∙ a.whole

    pub adding-bad : entry_of n field ≡ none → {s : List ℕ} → fields_of n (parts 32 s) ≡ entries_of n fs → ReadEntries o vs n s at words₀ coefs₀ words coefs None
    unfolding and_then
    adding-bad q {s} f =
        let w : none ≡ fields_of n (parts 32 s) = ap (λ (x : Option Entry). before a.done (and_then x (λ t. and_then (entries_of n (drop (k + 1) fs)) (λ ts. some (t ∷ ts))))) (sym q) ∙ (read-next ∙ sym f) in
        record { is = rw (← w) refl }

    module _ (t : Entry) (q : entry_of n field ≡ some t) where
      -- a term takes four bytes, with its space
      pub adding-four : 4 * (to + 1) + spent (drop (k + 1) fs) ≤ 4 * length words₀
      adding-four =
          let g = entry_read n field t q in
          let z : 3 ≤ length field = rw g.1 (entry-size n t g.0) in
          omega (arith, z, a.room, ap spent next)

      pub adding-more : (w c : ℕ) → w ≡ entry_word o vs t → c ≡ entry_coef t → Adding o vs n fs at words₀ coefs₀ (set words to w) (set coefs to c) (to + 1) (k + 1)
      unfolding and_then
      adding-more w c x y = record {
        done = a.done ++ (t ∷ []);
        place = simp length-append (omega (arith, a.place));
        whole = sym (before_more a.done t (entries_of n (drop (k + 1) fs))) ∙ (ap (λ (z : Option Entry). before a.done (and_then z (λ u. and_then (entries_of n (drop (k + 1) fs)) (λ ts. some (u ∷ ts))))) (sym q) ∙ read-next);
        words_are = put_one (entry_word o vs) words₀ words at to a.done t w a.place a.words_are x;
        coefs-are = put_one entry_coef coefs₀ coefs at to a.done t c a.place a.coefs-are y;
        room = adding-four;
      }
