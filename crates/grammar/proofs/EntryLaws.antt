-- A term as the code reads it, return by return. Assumes nothing.
use Rattle.std.specs.Prelude.{Some, None}
use Prim.Native.Nat.{ℕ, zero, suc, ◌+◌, ◌≤◌, ◌<◌, min}
use native.Mathlib.Numerals.{add-one}
use native.Mathlib.Omega.{arith}
use mathlib.Core.Path.{◌≡◌, refl, sym, ap, ◌∙◌}
use mathlib.Core.Bool.{Bool, true, false}
use mathlib.Core.List.{List, [], ◌∷◌, map}
use mathlib.Core.Option.{Option, none, some}
use borrow.Author.Tests.{eq-eqb, ne_eqb, le-ltb, ltb-true, ltb-false}
use lib.Dec.{eqb, ltb}
use lib.ListN.{length, take, drop, length-map, length-take, take-append-drop, drop_of_length-le}
use lib.Seq.{sets, sets-eq, length-sets, take_at}
use Rattle.monomial.specs.declared.order.Order.{Order}
use Rattle.monomial.specs.Layout.{word_of}
use Rattle.text.specs.Bytes.{index_of, parts}
use Rattle.text.specs.Numbers.{and_then, only_if, number_of}
use Rattle.merge_common.proofs.Lists.{sets-append}
use Rattle.grammar.specs.Reading.{numbers_of, exponents_of, entry_at, entry_by, entry_of}
use Rattle.grammar.specs.Parts.{capped, parsed}
use Rattle.grammar.proofs.Written.{entry-at}
use Rattle.grammar.proofs.Prefix.{sets-out}
use Rattle.grammar.proofs.NumbersLaws.{Stored}

map-take : (f : ℕ → ℕ) (k : ℕ) (xs : List ℕ) → take k (map f xs) ≡ map f (take k xs)
map-take f zero xs = refl
map-take f (suc k) [] = refl
map-take f (suc k) (x ∷ xs) = ap (λ (l : List ℕ). f x ∷ l) (map-take f k xs)

-- the first six exponents are stored
pub first-six : (exps exps' es : List ℕ) → length exps ≡ 6 → exps' ≡ sets exps 0 (map capped es) → take (min (length es) 6) exps' ≡ map capped (take 6 es)
first-six exps exps' es h e =
    let vs = map capped es in
    let t = take 6 vs in
    let n : length t ≡ min 6 (length vs) = length-take 6 vs in
    let m : length vs ≡ length es = length-map es capped in
    let fits : 0 + length t ≤ length exps = omega arith in
    let past : sets exps 0 vs ≡ sets exps 0 t = ap (sets exps 0) (sym (take-append-drop 6 vs)) ∙ (sets-append exps 0 t (drop 6 vs) ∙ tail (ltb (length vs) 6) refl) in
    let at : length t ≡ min (length es) 6 = omega arith in
    ap (take (min (length es) 6)) (e ∙ (past ∙ sets-eq t exps 0 fits)) ∙ (take_at t (drop (0 + length t) exps) (min (length es) 6) at ∙ map-take capped 6 es)
  where
    tail : (b : Bool) → ltb (length (map capped es)) 6 ≡ b → sets (sets exps 0 (take 6 (map capped es))) (0 + length (take 6 (map capped es))) (drop 6 (map capped es)) ≡ sets exps 0 (take 6 (map capped es))
    tail true q =
        let l : length (map capped es) ≤ 6 = omega (arith, ltb-true (length (map capped es)) 6 q) in
        ap (sets (sets exps 0 (take 6 (map capped es))) (0 + length (take 6 (map capped es)))) (drop_of_length-le (map capped es) l)
    tail false q =
        let l : 6 ≤ length (map capped es) = ltb-false _ _ q in
        sets-out (sets exps 0 (take 6 (map capped es))) (0 + length (take 6 (map capped es))) (drop 6 (map capped es)) (omega (arith, length-sets exps 0 (take 6 (map capped es)), length-take 6 (map capped es)))

-- ---- the term, return by return
module _ (o : Order) (vs : List ℕ) (n : ℕ) (s : List ℕ) where
  pub no-colon : index_of 58 s ≡ length s → None ≡ parsed o vs (entry_of n s)
  unfolding entry_of
  no-colon e = sym (ap (λ (b : Bool). parsed o vs (entry_by b n (index_of 58 s) s)) (le-ltb (index_of 58 s) (length s) (omega arith)))

  module _ {l r : List ℕ} (x : (index_of 58 s < length s) × (l ≡ take (index_of 58 s) s) × (r ≡ drop (index_of 58 s + 1) s)) where
    colon : entry_of n s ≡ entry_at n (index_of 58 s) s
    colon = entry-at n (index_of 58 s) s refl x.0

    pub no-coef : number_of l ≡ none → None ≡ parsed o vs (entry_of n s)
    unfolding and_then
    no-coef e = sym (ap (parsed o vs) (colon ∙ ap (λ (y : Option ℕ). and_then y (λ v. and_then (exponents_of n (drop (suc (index_of 58 s)) s)) (λ es. some (record { coef = v; exps = es })))) (ap number_of (sym x.1) ∙ e)))

    module _ {c : ℕ} (e : number_of l ≡ some c) where
      exps-at : (y : Option (List ℕ)) → exponents_of n r ≡ y → entry_of n s ≡ and_then y (λ es. some (record { coef = c; exps = es }))
      unfolding and_then
      exps-at y q =
          let z : drop (suc (index_of 58 s)) s ≡ r = ap (λ (i : ℕ). drop i s) (sym (add-one (index_of 58 s))) ∙ sym x.2 in
          colon ∙ (ap (λ (y : Option ℕ). and_then y (λ v. and_then (exponents_of n (drop (suc (index_of 58 s)) s)) (λ es. some (record { coef = v; exps = es })))) (ap number_of (sym x.1) ∙ e) ∙ (ap (λ (y : List ℕ). and_then (exponents_of n y) (λ es. some (record { coef = c; exps = es }))) z ∙ ap (λ (y : Option (List ℕ)). and_then y (λ es. some (record { coef = c; exps = es }))) q))

      pub no-exps : numbers_of (parts 46 r) ≡ none → None ≡ parsed o vs (entry_of n s)
      unfolding and_then
      no-exps q = sym (ap (parsed o vs) (exps-at none (rw q)))

      pub other-number : {exps exps' : List ℕ} {m : ℕ} → Stored (numbers_of (parts 46 r)) exps exps' m → (m ≡ n → ⊥) → None ≡ parsed o vs (entry_of n s)
      unfolding and_then
      other-number {exps} {exps'} {m} t q = sym (ap (parsed o vs) (exps-at none (ap (λ (y : Option (List ℕ)). and_then y (λ es. only_if (eqb (length es) n) es)) t.is ∙ ap (λ (b : Bool). only_if b t.es) (ne_eqb (length t.es) n (λ x. q (sym t.long ∙ x))))))

      pub is-term : {exps exps' : List ℕ} {m : ℕ} → Stored (numbers_of (parts 46 r)) exps exps' m → length exps ≡ 6 → m ≡ n → (most : ℕ) → most ≡ min m 6 → (w : ℕ) → w ≡ word_of o vs (take most exps') → Some (w, c) ≡ parsed o vs (entry_of n s)
      unfolding and_then
      is-term {exps} {exps'} {m} t six q most u w y =
          let z : entry_of n s ≡ some (record { coef = c; exps = t.es }) = exps-at (some t.es) (ap (λ (u : Option (List ℕ)). and_then u (λ es. only_if (eqb (length es) n) es)) t.is ∙ ap (λ (b : Bool). only_if b t.es) (eq-eqb (length t.es) n (t.long ∙ q))) in
          let f : take most exps' ≡ map capped (take 6 t.es) = ap (λ (i : ℕ). take i exps') (u ∙ ap (λ (i : ℕ). min i 6) (sym t.long)) ∙ first-six exps exps' t.es six t.stored in
          ap (λ (v : ℕ). Some (v, c)) (y ∙ ap (word_of o vs) f) ∙ ap (parsed o vs) (sym z)
