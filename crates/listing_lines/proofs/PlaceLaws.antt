-- A term put exponent by exponent. Assumes nothing.
use Prim.Native.Nat.{ℕ, zero, suc, ◌+◌, ◌≤◌, ◌<◌, min}
use native.Mathlib.Numerals.{add-one}
use native.Mathlib.Omega.{arith}
use mathlib.Core.Path.{◌≡◌, refl, sym, ap, ◌∙◌}
use mathlib.Core.Bool.{Bool, true, false}
use mathlib.Core.List.{List, [], ◌∷◌, ◌++◌, map, append_assoc}
use borrow.Author.Tests.{leb-true, leb-false}
use lib.Dec.{leb}
use lib.ListN.{length, take, get_or}
use lib.Seq.{take-suc, take_all}
use Rattle.monomial.specs.declared.order.Order.{Order}
use Rattle.monomial.specs.Layout.{fields}
use Rattle.monomial.proofs.LayoutLaws.{length_fields}
use Rattle.text.specs.Bytes.{joined}
use Rattle.text.specs.Numbers.{decimal}
use Rattle.grammar.proofs.Prefix.{map_snoc}
use Rattle.listing_lines.specs.Put.{Put}
use Rattle.listing_lines.specs.Listing.{exponents_text, dotted}
use Rattle.listing_lines.proofs.PutLaws.{put_both, put_same, put-nothing}

joined-last : (b : ℕ) (p : List ℕ) (ps : List (List ℕ)) (q : List ℕ) → joined b ((p ∷ ps) ++ (q ∷ [])) ≡ joined b (p ∷ ps) ++ (b ∷ q)
unfolding joined
joined-last b p [] q = refl
joined-last b p (r ∷ ps) q = ap (λ (l : List ℕ). p ++ (b ∷ l)) (joined-last b r ps q) ∙ sym (append_assoc p (b ∷ joined b (r ∷ ps)) (b ∷ q))

-- one more exponent
dotted-more : (es : List ℕ) (i : ℕ) → i < length es → joined 46 (map decimal (take (i + 1) es)) ≡ joined 46 (map decimal (take i es)) ++ dotted i (get_or es i 0)
unfolding joined
dotted-more es zero h = ap (λ (l : List ℕ). joined 46 (map decimal l)) (take-suc es 0 0 h)
dotted-more [] (suc i) h = absurd (let z : ⊥ = omega arith in z)
dotted-more (e ∷ es) (suc i) h =
    ap (λ (k : ℕ). joined 46 (map decimal (take k (e ∷ es)))) (add-one (suc i))
    ∙ (ap (λ (l : List ℕ). joined 46 (map decimal l)) (take-suc (e ∷ es) (suc i) 0 h)
    ∙ (ap (joined 46) (map_snoc decimal (take (suc i) (e ∷ es)) (get_or (e ∷ es) (suc i) 0)) ∙ joined-last 46 (decimal e) (map decimal (take i es)) (decimal (get_or (e ∷ es) (suc i) 0))))

-- taking no more than there is
take-least : (n : ℕ) (xs : List ℕ) (k : ℕ) → length xs ≡ k → take (min n k) xs ≡ take n xs
take-least n xs k e = go (leb n k) refl
  where
    go : (b : Bool) → leb n k ≡ b → take (min n k) xs ≡ take n xs
    go true h = ap (λ (j : ℕ). take j xs) (let l : n ≤ k = leb-true _ _ h in let z : min n k ≡ n = omega arith in z)
    go false h = let l : k < n = leb-false _ _ h in ap (λ (j : ℕ). take j xs) (let z : min n k ≡ k = omega arith in z) ∙ (take_all k xs (omega arith) ∙ sym (take_all n xs (omega arith)))

pub exponents-start : (o : Order) (w : ℕ) (out : List ℕ) (at to : ℕ) → to ≡ min at (length out) → Put (joined 46 (map decimal (take 0 (fields o w)))) at out out to
unfolding joined
exponents-start o w out at to e = put-nothing out at to e

module _ (o : Order) (w : ℕ) {at : ℕ} {out out' : List ℕ} {to : ℕ} where
  pub exponents-more : (i : ℕ) → i < 6 → Put (joined 46 (map decimal (take i (fields o w)))) at out out' to → {out'' : List ℕ} {to' : ℕ} → Put (dotted i (get_or (fields o w) i 0)) to out' out'' to' → Put (joined 46 (map decimal (take (i + 1) (fields o w)))) at out out'' to'
  exponents-more i h p q = put_same (sym (dotted-more (fields o w) i (omega (arith, length_fields o w)))) (put_both p q)

  pub exponents-all : (n i most : ℕ) → most ≡ min n 6 → i ≤ most → most ≤ i → Put (joined 46 (map decimal (take i (fields o w)))) at out out' to → Put (exponents_text o n w) at out out' to
  exponents-all n i most e h l p = put_same (ap (λ (x : List ℕ). joined 46 (map decimal x)) (go (let z : i ≡ min n 6 = omega arith in z))) p
    where
      go : i ≡ min n 6 → take i (fields o w) ≡ take n (fields o w)
      go q = ap (λ (k : ℕ). take k (fields o w)) q ∙ take-least n (fields o w) 6 (length_fields o w)

-- a dot and an exponent
pub put-dotted : (i e : ℕ) {at : ℕ} {out out' out'' : List ℕ} {to to' : ℕ} → (i ≡ 0 → ⊥) → Put (46 ∷ []) at out out' to → Put (decimal e) to out' out'' to' → Put (dotted i e) at out out'' to'
put-dotted zero e n p q = absurd (n refl)
put-dotted (suc i) e n p q = put_both p q
