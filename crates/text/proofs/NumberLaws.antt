-- Laws of decimal numbers: a text is read xs a number exactly where it is that number's decimal digits. Assumes nothing.
use Prim.Native.Nat.{ℕ, zero, suc, ◌+◌, ◌-◌, ◌*◌, ◌/◌, ◌%◌, ◌≤◌, ◌<◌}
use native.Mathlib.Numerals.{add-one}
use native.Mathlib.Omega.{arith}
use mathlib.Core.Path.{◌≡◌, refl, sym, ap, ◌∙◌}
use mathlib.Core.Bool.{Bool, true, false, ◌&&◌}
use mathlib.Core.List.{List, [], ◌∷◌, ◌++◌, append-nil, append_assoc}
use native.Mathlib.Nat.{add-zero, div-lt_self, div-eq_of_lt, mul-add-div_right, div-add-mod', mod-lt}
use mathlib.Core.Option.{Option, none, some}
use Rattle.std.specs.Prelude.{Some, None, SomeIff, Option as Answered}
use borrow.Author.Tests.{lt-ltb, le-ltb, le-leb, lt-leb, ltb-true, ltb-false, leb-true}
use lib.Dec.{leb, ltb}
use lib.ListN.{length, drop, get_or, drop_of_length-le, length-append}
use lib.Seq.{drop-cons}
use Rattle.text.proofs.ByteLaws.{both, Within, within-append}
use Rattle.text.specs.Numbers.{decimal_in, decimal, and_then, only_if, is_digit, with_digit, with_digits, number_of, found}

-- ---- digits
pub digit-range : (b : ℕ) → is_digit b ≡ true → (48 ≤ b) × (b < 58)
digit-range b e = let h = both (leb 48 b) (ltb b 58) e in (leb-true _ _ h.0, ltb-true _ _ h.1)

pub range-digit : (b : ℕ) → 48 ≤ b → b < 58 → is_digit b ≡ true
range-digit b h k = simp (le-leb _ _ h, lt-ltb _ _ k)

-- ---- one more digit, as the code tries it
module _ (v b : ℕ) where
  pub after-zero : v ≡ 0 → with_digit v b ≡ none
  unfolding with_digit
  after-zero e = simp (le-ltb 0 v (omega arith))

  pub no_digit : is_digit b ≡ false → with_digit v b ≡ none
  unfolding with_digit
  no_digit e = go (ltb 0 v)
    where
      go : (t : Bool) → only_if (t && (is_digit b && leb (v * 10 + (b - 48)) 4294967295)) (v * 10 + (b - 48)) ≡ none
      go true = rw e
      go false = refl

  pub too_large : 4294967295 < v * 10 + (b - 48) → with_digit v b ≡ none
  unfolding with_digit
  too_large h = go (ltb 0 v) (is_digit b)
    where
      go : (t u : Bool) → only_if (t && (u && leb (v * 10 + (b - 48)) 4294967295)) (v * 10 + (b - 48)) ≡ none
      go true true = rw (lt-leb (v * 10 + (b - 48)) 4294967295 h)
      go true false = refl
      go false u = refl

  pub digit-added : (v ≡ 0 → ⊥) → is_digit b ≡ true → v * 10 + (b - 48) ≤ 4294967295 → with_digit v b ≡ some (v * 10 + (b - 48))
  unfolding with_digit
  digit-added n e h = simp (lt-ltb 0 v (omega arith), e, le-leb (v * 10 + (b - 48)) 4294967295 h)

-- ---- reading on
module _ (s : List ℕ) (i v : ℕ) (l : i < length s) where
  pub reads_on : (w : ℕ) → with_digit v (get_or s i 0) ≡ some w → with_digits v (drop i s) ≡ with_digits w (drop (i + 1) s)
  unfolding with_digits and_then
  reads_on w e = rw (add-one i, drop-cons s i 0 l, with_digits, e)

  pub reads_none : with_digit v (get_or s i 0) ≡ none → with_digits v (drop i s) ≡ none
  unfolding with_digits and_then
  reads_none e = rw (drop-cons s i 0 l, with_digits, e)

pub reads_all : (s : List ℕ) (i v : ℕ) → length s ≤ i → with_digits v (drop i s) ≡ some v
unfolding with_digits
reads_all s i v h = rw (drop_of_length-le s h)

-- ---- the start of a number
pub number-empty : (s : List ℕ) → length s ≡ 0 → number_of s ≡ none
unfolding number_of
number-empty [] h = refl
number-empty (b ∷ s) h = absurd (let z : ⊥ = omega arith in z)

pub number-no : (s : List ℕ) (b : ℕ) (r : List ℕ) → s ≡ b ∷ r → is_digit b ≡ false → number_of s ≡ none
unfolding number_of and_then
number-no s b r e h = rw (e, number_of, h)

pub number-starts : (s : List ℕ) (b : ℕ) (r : List ℕ) → s ≡ b ∷ r → is_digit b ≡ true → with_digits (b - 48) r ≡ number_of s
unfolding number_of and_then
number-starts s b r e h = rw (e, number_of, h)

-- ---- what the code hands back
pub found-some : {A : Type 0} (o : Option A) (v : A) → Some v ≡ found o → o ≡ some v
found-some none v e = absurd (let z : ◌≡◌ {A = ℕ} 0 1 = cc in let y : ⊥ = omega arith in y)
found-some (some w) v e = cc

pub found-none : {A : Type 0} (o : Option A) → None ≡ found o → o ≡ none
found-none none e = refl
found-none (some w) e = absurd (let z : ◌≡◌ {A = ℕ} 0 1 = cc in let y : ⊥ = omega arith in y)

-- what the code's sum answers, with no number past 32 bits
pub digit-code : (v b tens : ℕ) (r : Answered ℕ) → (v ≡ 0 → ⊥) → is_digit b ≡ true → tens ≡ v * 10 → SomeIff r (tens + (b - 48) < 4294967296) (tens + (b - 48)) → r ≡ found (with_digit v b)
digit-code v b tens None n e t h = sym (ap found (too_large v b (omega (arith, h))))
digit-code v b tens (Some w) n e t h = let k : w ≡ v * 10 + (b - 48) = omega (arith, h.1) in ap Some k ∙ sym (ap found (digit-added v b n e (omega (arith, h.0))))

-- ---- decimal digits
-- more steps than v make no difference
steps-enough : (j k v : ℕ) → v ≤ j → v ≤ k → decimal_in j v ≡ decimal_in k v
unfolding decimal_in
steps-enough zero zero v h l = refl
steps-enough zero (suc k) v h l = rw (lt-ltb v 10 (omega arith), decimal_in)
steps-enough (suc j) zero v h l = rw (lt-ltb v 10 (omega arith), decimal_in)
steps-enough (suc j) (suc k) v h l = go (λ u p q. steps-enough j k u p q) (ltb v 10) refl
  where
    go : ((u : ℕ) → u ≤ j → u ≤ k → decimal_in j u ≡ decimal_in k u) → (t : Bool) → ltb v 10 ≡ t → decimal_in (suc j) v ≡ decimal_in (suc k) v
    go f true e = rw (e, decimal_in)
    go f false e =
        let m : 10 ≤ v = ltb-false _ _ e in
        let d : v / 10 < v = div-lt_self (omega arith) (omega arith) in
        rw (e, decimal_in) (ap (λ (l : List ℕ). l ++ ((48 + v % 10) ∷ [])) (f (v / 10) (omega arith) (omega arith)))

pub decimal_digit : (v : ℕ) → v < 10 → decimal v ≡ (48 + v) ∷ []
unfolding decimal_in
decimal_digit zero h = refl
decimal_digit (suc v) h = rw (lt-ltb (suc v) 10 h, decimal_in)

pub decimal-more : (v : ℕ) → 10 ≤ v → decimal v ≡ decimal (v / 10) ++ ((48 + v % 10) ∷ [])
unfolding decimal_in
decimal-more zero h = absurd (let z : ⊥ = omega arith in z)
decimal-more (suc v) h =
    let d : suc v / 10 < suc v = div-lt_self (omega arith) (omega arith) in
    rw (le-ltb (suc v) 10 h, decimal_in) (ap (λ (l : List ℕ). l ++ ((48 + suc v % 10) ∷ [])) (steps-enough v (suc v / 10) (suc v / 10) (omega arith) (omega arith)))

-- the digits of v, and one behind them
pub decimal-behind : (v d : ℕ) → 0 < v → d < 10 → decimal (v * 10 + d) ≡ decimal v ++ ((48 + d) ∷ [])
decimal-behind v d h l =
    let q : (v * 10 + d) / 10 ≡ v = mul-add-div_right (omega arith) v d ∙ (ap (λ (n : ℕ). v + n) (div-eq_of_lt l) ∙ add-zero v) in
    let r : (v * 10 + d) % 10 ≡ d = let e : (v * 10 + d) / 10 * 10 + (v * 10 + d) % 10 ≡ v * 10 + d = div-add-mod' (v * 10 + d) 10 in omega (arith, ap (λ (n : ℕ). n * 10) q) in
    decimal-more (v * 10 + d) (omega arith) ∙ (ap (λ (n : ℕ). decimal n ++ ((48 + (v * 10 + d) % 10) ∷ [])) q ∙ ap (λ (n : ℕ). decimal v ++ ((48 + n) ∷ [])) r)

-- ---- a text is read xs v exactly where it is the decimal digits of v, and v is not too large
pub then_some : {A B : Type 0} (o : Option A) (f : A → Option B) (b : B) → and_then o f ≡ some b → (a : A) × (o ≡ some a) × (f a ≡ some b)
unfolding and_then
then_some none f b e = absurd (let z : ◌≡◌ {A = ℕ} 0 1 = cc in let y : ⊥ = omega arith in y)
then_some (some a) f b e = (a, refl, e)

pub only-if : {A : Type 0} (t : Bool) (a b : A) → only_if t a ≡ some b → (t ≡ true) × (a ≡ b)
only-if true a b e = (refl, cc)
only-if false a b e = absurd (let z : ◌≡◌ {A = ℕ} 0 1 = cc in let y : ⊥ = omega arith in y)

-- what the code's answer for one digit tells
pub no-value : {A : Type 0} (t : Bool) (a : A) → only_if t a ≡ none → t ≡ false
no-value true a e = absurd (let z : ◌≡◌ {A = ℕ} 0 1 = cc in let y : ⊥ = omega arith in y)
no-value false a e = refl

digit-behind : (v b w : ℕ) → with_digit v b ≡ some w → (0 < w) × (w ≤ 4294967295) × (decimal w ≡ decimal v ++ (b ∷ []))
unfolding with_digit
digit-behind v b w e =
    let o = only-if (ltb 0 v && (is_digit b && leb (v * 10 + (b - 48)) 4294967295)) (v * 10 + (b - 48)) w e in
    let t = both (ltb 0 v) (is_digit b && leb (v * 10 + (b - 48)) 4294967295) o.0 in
    let u = both (is_digit b) (leb (v * 10 + (b - 48)) 4294967295) t.1 in
    let p : 0 < v = ltb-true 0 v t.0 in
    let r = digit-range b u.0 in
    let m : v * 10 + (b - 48) ≤ 4294967295 = leb-true _ _ u.1 in
    let x : w ≡ v * 10 + (b - 48) = sym o.1 in
    let y : 48 + (b - 48) ≡ b = omega (arith, r) in
    (omega (arith, r), omega arith, rw x (decimal-behind v (b - 48) p (omega (arith, r)) ∙ ap (λ (n : ℕ). decimal v ++ (n ∷ [])) y))

digits-read : (v : ℕ) (bs : List ℕ) (w : ℕ) → v ≤ 4294967295 → with_digits v bs ≡ some w → (w ≤ 4294967295) × (decimal w ≡ decimal v ++ bs)
unfolding with_digits
digits-read v [] w h e = let x : v ≡ w = cc in (omega arith, ap decimal (sym x) ∙ sym (append-nil (decimal v)))
digits-read v (b ∷ bs) w h e =
    let t = then_some (with_digit v b) (λ u. with_digits u bs) w e in
    let d = digit-behind v b t.0 t.1 in
    let i = digits-read t.0 bs w d.1 t.2 in
    (i.0, i.1 ∙ (ap (λ (l : List ℕ). l ++ bs) d.2 ∙ append_assoc (decimal v) (b ∷ []) bs))

-- no other text is accepted
pub number_read : (s : List ℕ) (v : ℕ) → number_of s ≡ some v → (v ≤ 4294967295) × (s ≡ decimal v)
unfolding number_of
number_read [] v e = absurd (let z : ◌≡◌ {A = ℕ} 0 1 = cc in let y : ⊥ = omega arith in y)
number_read (b ∷ bs) v e =
    let t = then_some (only_if (is_digit b) (b - 48)) (λ u. with_digits u bs) v e in
    let o = only-if (is_digit b) (b - 48) t.0 t.1 in
    let r = digit-range b o.0 in
    let i = digits-read t.0 bs v (omega (arith, o.1, r)) t.2 in
    let x : decimal t.0 ≡ b ∷ [] = ap decimal (sym o.1) ∙ (decimal_digit (b - 48) (omega (arith, r)) ∙ ap (λ (n : ℕ). n ∷ []) (let y : 48 + (b - 48) ≡ b = omega (arith, r) in y)) in
    (i.0, sym (i.1 ∙ ap (λ (l : List ℕ). l ++ bs) x))

-- reading on over two texts
digits-both : (v : ℕ) (xs bs : List ℕ) (w : ℕ) → with_digits v xs ≡ some w → with_digits v (xs ++ bs) ≡ with_digits w bs
unfolding with_digits and_then
digits-both v [] bs w e = let x : v ≡ w = cc in ap (λ (n : ℕ). with_digits n bs) x
digits-both v (a ∷ xs) bs w e =
    let t = then_some (with_digit v a) (λ u. with_digits u xs) w e in
    ap (λ (o : Option ℕ). and_then o (λ u. with_digits u (xs ++ bs))) t.1 ∙ digits-both t.0 xs bs w t.2

number-both : (xs bs : List ℕ) (w : ℕ) → number_of xs ≡ some w → number_of (xs ++ bs) ≡ with_digits w bs
unfolding number_of and_then
number-both [] bs w e = absurd (let z : ◌≡◌ {A = ℕ} 0 1 = cc in let y : ⊥ = omega arith in y)
number-both (x ∷ xs) bs w e =
    let t = then_some (only_if (is_digit x) (x - 48)) (λ u. with_digits u xs) w e in
    ap (λ (o : Option ℕ). and_then o (λ u. with_digits u (xs ++ bs))) t.1 ∙ digits-both t.0 xs bs w t.2

written_in : (k v : ℕ) → v ≤ k → v ≤ 4294967295 → number_of (decimal v) ≡ some v
unfolding number_of and_then with_digits decimal_in
written_in zero v h m = rw (let z : v ≡ 0 = omega arith in z, decimal_in)
written_in (suc k) v h m = go (ltb v 10) refl (λ l n. written_in k (v / 10) l n)
  where
    go : (t : Bool) → ltb v 10 ≡ t → (v / 10 ≤ k → v / 10 ≤ 4294967295 → number_of (decimal (v / 10)) ≡ some (v / 10)) → number_of (decimal v) ≡ some v
    go true e f =
        let l : v < 10 = ltb-true _ _ e in
        rw (decimal_digit v l, range-digit (48 + v) (omega arith) (omega arith)) (ap some (let z : 48 + v - 48 ≡ v = omega arith in z))
    go false e f =
        let l : 10 ≤ v = ltb-false _ _ e in
        let q : v / 10 * 10 + v % 10 ≡ v = div-add-mod' v 10 in
        let r : v % 10 < 10 = mod-lt v (omega arith) in
        let z : 48 + v % 10 - 48 ≡ v % 10 = omega arith in
        let d : v / 10 < v = div-lt_self (omega arith) (omega arith) in
        let p : v / 10 ≡ 0 → ⊥ = λ u. let y : ⊥ = omega (arith, ap (λ (n : ℕ). n * 10) u) in y in
        let y : v / 10 * 10 + (48 + v % 10 - 48) ≡ v = ap (λ (n : ℕ). v / 10 * 10 + n) z ∙ q in
        let w : with_digit (v / 10) (48 + v % 10) ≡ some v = digit-added (v / 10) (48 + v % 10) p (range-digit (48 + v % 10) (omega arith) (omega arith)) (omega arith) ∙ ap some y in
        ap number_of (decimal-more v l) ∙ (number-both (decimal (v / 10)) ((48 + v % 10) ∷ []) (v / 10) (f (omega arith) (omega arith)) ∙ ap (λ (o : Option ℕ). and_then o (λ u. with_digits u [])) w)

-- every number is read from its digits
pub number-written : (v : ℕ) → v ≤ 4294967295 → number_of (decimal v) ≡ some v
number-written v m = written_in v v (omega arith) m

-- ---- the bytes of decimal digits
digits_in : (k v : ℕ) → v ≤ k → Within 48 57 (decimal v)
unfolding decimal_in
digits_in zero v h = rw (let z : v ≡ 0 = omega arith in z, decimal_in) ((omega arith, omega arith), tt)
digits_in (suc k) v h = go (ltb v 10) refl (λ l. digits_in k (v / 10) l)
  where
    go : (t : Bool) → ltb v 10 ≡ t → (v / 10 ≤ k → Within 48 57 (decimal (v / 10))) → Within 48 57 (decimal v)
    go true e f =
        let l : v < 10 = ltb-true _ _ e in
        rw (decimal_digit v l) ((omega arith, omega arith), tt)
    go false e f =
        let l : 10 ≤ v = ltb-false _ _ e in
        let d : v / 10 < v = div-lt_self (omega arith) (omega arith) in
        let r : v % 10 < 10 = mod-lt v (omega arith) in
        rw (decimal-more v l) (within-append 48 57 (decimal (v / 10)) ((48 + v % 10) ∷ []) (f (omega arith)) ((omega arith, omega arith), tt))

pub decimal-within : (v : ℕ) → Within 48 57 (decimal v)
decimal-within v = digits_in v v (omega arith)

pub decimal-some : (v : ℕ) → 1 ≤ length (decimal v)
decimal-some v = go (ltb v 10) refl
  where
    go : (t : Bool) → ltb v 10 ≡ t → 1 ≤ length (decimal v)
    go true e = rw (decimal_digit v (ltb-true _ _ e)) (omega arith)
    go false e = rw (decimal-more v (ltb-false _ _ e)) (simp length-append (omega arith))
