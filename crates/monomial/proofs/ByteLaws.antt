-- Numbers by their bytes: what sums, differences, masks, quotients and comparisons do to them. Assumes nothing.
use mathlib.Core.Path.{◌≡◌, refl, sym, ap, ap₂, ◌∙◌, subst}
use mathlib.Core.Bool.{Bool, true, false, ◌&&◌}
use mathlib.Core.List.{List, [], ◌∷◌, ◌++◌, reverse, reverse-cons}
use Prim.Native.Nat.{ℕ, zero, suc, ◌+◌, ◌-◌, ◌*◌, ◌/◌, ◌%◌, ◌^◌, ◌<◌, ◌≤◌, compare, Ordering}
use native.Mathlib.Nat.{mod-one, pow-suc, pow-succ', one-le-pow, div-div-eq-div-mul, div-one, zero-div, zero-mod, add-zero}
use native.Mathlib.Omega.{arith}
use native.Mathlib.Decide.{dec_le}
use borrow.Author.Tests.{lt-ltb, le-ltb, le-leb, lt-leb, eq-eqb, ne_eqb, eqb-true, eqb-false, leb-true}
use lib.Dec.{lit<, ltb, leb, eqb}
use lib.Arith.{mod-mul, digits_mod}
use lib.Bits.{bit_and, and_block, and_high, and_zero_r}
use lib.ListN.{length, take, drop, replicate}
use Rattle.monomial.specs.Exponents.{each, product, quotient, divides, or_else, lex, rev_lex}
use Rattle.monomial.specs.Layout.{bytes, of_bytes, Below, below}
use Rattle.monomial.proofs.Comparing.{compare-digits}
use Rattle.monomial.proofs.Places.{length-reverse, and_both}

byte_pow : (k : ℕ) → 0 < 256 ^ k
byte_pow k = one-le-pow k 256 (lit< tt)

-- ---- bytes and back
pub length-bytes : (k w : ℕ) → length (bytes k w) ≡ k
unfolding bytes
length-bytes zero w = refl
length-bytes (suc k) w = ap suc (length-bytes k (w / 256))

pub bytes_below : (k w : ℕ) → Below 256 (bytes k w)
unfolding bytes
bytes_below zero w = tt
bytes_below (suc k) w = (let h : w % 256 < 256 = omega arith in h, bytes_below k (w / 256))

pub of_bytes_bytes : (k w : ℕ) → of_bytes (bytes k w) ≡ w % 256 ^ k
unfolding bytes
of_bytes_bytes zero w = sym (mod-one w)
of_bytes_bytes (suc k) w =
    let e : w % 256 ^ suc k ≡ w / 256 % 256 ^ k * 256 + w % 256 = ap (λ (n : ℕ). w % n) (pow-suc 256 k) ∙ mod-mul w (byte_pow k) (lit< tt) in
    let r = of_bytes_bytes k (w / 256) in
    let s : w % 256 + 256 * of_bytes (bytes k (w / 256)) ≡ w / 256 % 256 ^ k * 256 + w % 256 = omega arith in
    s ∙ sym e

pub bytes-of_bytes : (bs : List ℕ) (h : ℕ) → Below 256 bs → bytes (length bs) (of_bytes bs + 256 ^ length bs * h) ≡ bs
unfolding bytes
bytes-of_bytes [] h u = refl
bytes-of_bytes (b ∷ bs) h u =
    let x : ℕ = of_bytes bs + 256 ^ length bs * h in
    let e : of_bytes (b ∷ bs) + 256 ^ suc (length bs) * h ≡ b + 256 * x = omega (arith, ap (λ (m : ℕ). m * h) (pow-suc 256 (length bs))) in
    let m : (b + 256 * x) % 256 ≡ b = omega (arith, u.0) in
    let d : (b + 256 * x) / 256 ≡ x = omega (arith, u.0) in
    ap (λ (v : ℕ). bytes (suc (length bs)) v) e ∙ ap₂ ◌∷◌ m (ap (bytes (length bs)) d ∙ bytes-of_bytes bs h u.1)

-- bytes of a list of a known length, with anything above
pub bytes_of : (k : ℕ) (bs : List ℕ) (h : ℕ) → length bs ≡ k → Below 256 bs → bytes k (of_bytes bs + 256 ^ k * h) ≡ bs
bytes_of k bs h e u = subst (λ (n : ℕ). bytes n (of_bytes bs + 256 ^ n * h) ≡ bs) e (bytes-of_bytes bs h u)

pub of_bytes-lt : (bs : List ℕ) → Below 256 bs → of_bytes bs < 256 ^ length bs
of_bytes-lt [] u = lit< tt
of_bytes-lt (b ∷ bs) u = omega (arith, u.0, of_bytes-lt bs u.1, pow-suc 256 (length bs))

-- ---- sums and differences without carry or borrow
pub bytes-add : (k x y : ℕ) → Below 128 (bytes k x) → Below 128 (bytes k y) → bytes k (x + y) ≡ product (bytes k x) (bytes k y)
unfolding bytes
bytes-add zero x y h l = refl
bytes-add (suc k) x y h l =
    let m : (x + y) % 256 ≡ x % 256 + y % 256 = omega (arith, h.0, l.0) in
    let d : (x + y) / 256 ≡ x / 256 + y / 256 = omega (arith, h.0, l.0) in
    ap₂ ◌∷◌ m (ap (bytes k) d ∙ bytes-add k (x / 256) (y / 256) h.1 l.1)

pub bytes-sub : (k x y : ℕ) → divides (bytes k y) (bytes k x) ≡ true → y ≤ x → bytes k (x - y) ≡ quotient (bytes k x) (bytes k y)
unfolding bytes
bytes-sub zero x y h l = refl
bytes-sub (suc k) x y h l =
    let e = and_both (leb (y % 256) (x % 256)) (divides (bytes k (y / 256)) (bytes k (x / 256))) h in
    let b : y % 256 ≤ x % 256 = leb-true (y % 256) (x % 256) e.0 in
    let m : (x - y) % 256 ≡ x % 256 - y % 256 = omega arith in
    let d : (x - y) / 256 ≡ x / 256 - y / 256 = omega arith in
    let t : y / 256 ≤ x / 256 = omega arith in
    ap₂ ◌∷◌ m (ap (bytes k) d ∙ bytes-sub k (x / 256) (y / 256) e.1 t)

-- ---- the top bit of each byte
abbrev pub tops : ℕ → ℕ
tops k = of_bytes (replicate k 128)

top_bit : (r : ℕ) → r < 256 → bit_and r 128 ≡ r / 128 * 128
top_bit r h = and_high r 1 7 ∙ (let e : r / 2 ^ 7 % 2 ^ 1 * 2 ^ 7 ≡ r / 128 * 128 = omega arith in e)

and-tops : (k w : ℕ) → bit_and w (tops (suc k)) ≡ bit_and (w / 256) (tops k) * 256 + w % 256 / 128 * 128
and-tops k w =
    let e : w ≡ w / 256 * 256 + w % 256 = omega arith in
    let f : tops (suc k) ≡ tops k * 256 + 128 = omega arith in
    let r : w % 256 < 256 = omega arith in
    ap₂ bit_and e f ∙ (and_block 8 (w / 256) (tops k) (w % 256) 128 r (lit< tt) ∙ ap (λ (n : ℕ). bit_and (w / 256) (tops k) * 256 + n) (top_bit (w % 256) r))

-- of two digits A and r, the top bits: none is set; all are set
clear_step : (A r : ℕ) (t : Bool) → eqb A 0 ≡ t → r < 256 → eqb (A * 256 + r / 128 * 128) 0 ≡ (ltb r 128 && t)
clear_step A r t h l = go (dec_le 128 r)
  where
    scaled : Dec (A ≤ 0) → eqb (A * 256) 0 ≡ eqb A 0
    scaled (yes z) = eq-eqb (A * 256) 0 (omega arith) ∙ sym (eq-eqb A 0 (omega arith))
    scaled (no z) = ne_eqb (A * 256) 0 (λ q. omega arith) ∙ sym (ne_eqb A 0 (λ q. omega arith))

    go : Dec (128 ≤ r) → eqb (A * 256 + r / 128 * 128) 0 ≡ (ltb r 128 && t)
    go (yes k) = ne_eqb (A * 256 + r / 128 * 128) 0 (λ z. omega arith) ∙ sym (ap (λ (b : Bool). b && t) (le-ltb r 128 k))
    go (no k) =
        let e : A * 256 + r / 128 * 128 ≡ A * 256 = omega arith in
        let m : r < 128 = omega arith in
        ap (λ (n : ℕ). eqb n 0) e ∙ (scaled (dec_le A 0) ∙ (h ∙ sym (ap (λ (b : Bool). b && t) (lt-ltb r 128 m))))

set-step : (A T r : ℕ) (t : Bool) → eqb A T ≡ t → r < 256 → eqb (A * 256 + r / 128 * 128) (T * 256 + 128) ≡ (leb 128 r && t)
set-step A T r t h l = go (dec_le 128 r)
  where
    scaled : (b : Bool) → eqb A T ≡ b → eqb (A * 256 + 128) (T * 256 + 128) ≡ b
    scaled true e = eq-eqb (A * 256 + 128) (T * 256 + 128) (ap (λ (n : ℕ). n * 256 + 128) (eqb-true A T e))
    scaled false e = ne_eqb (A * 256 + 128) (T * 256 + 128) (λ q. eqb-false A T e (let z : A ≡ T = omega arith in z))

    go : Dec (128 ≤ r) → eqb (A * 256 + r / 128 * 128) (T * 256 + 128) ≡ (leb 128 r && t)
    go (yes k) =
        let e : A * 256 + r / 128 * 128 ≡ A * 256 + 128 = omega arith in
        ap (λ (n : ℕ). eqb n (T * 256 + 128)) e ∙ (scaled t h ∙ sym (ap (λ (b : Bool). b && t) (le-leb 128 r k)))
    go (no k) = ne_eqb (A * 256 + r / 128 * 128) (T * 256 + 128) odd ∙ sym (ap (λ (b : Bool). b && t) (lt-leb 128 r (omega arith)))
      where
        odd : A * 256 + r / 128 * 128 ≡ T * 256 + 128 → ⊥
        odd z =
            let f : A * 256 ≡ T * 256 + 128 = omega arith in
            let g : T * 256 + 128 ≡ A * 256 + 0 = sym f ∙ sym (add-zero (A * 256)) in
            let d : ◌≡◌ {A = ℕ} 128 0 = sym (digits_mod T (lit< tt)) ∙ (ap (λ (n : ℕ). n % 256) g ∙ digits_mod A (lit< tt)) in
            omega arith

-- no top bit is set: each byte is below 128
pub tops-clear : (k w : ℕ) → eqb (bit_and w (tops k)) 0 ≡ below 128 (bytes k w)
unfolding bytes
tops-clear zero w = eq-eqb (bit_and w 0) 0 (and_zero_r w)
tops-clear (suc k) w = ap (λ (n : ℕ). eqb n 0) (and-tops k w) ∙ clear_step (bit_and (w / 256) (tops k)) (w % 256) (below 128 (bytes k (w / 256))) (tops-clear k (w / 256)) (omega arith)

-- every top bit is set: no byte is below 128
abbrev pub full : List ℕ → Bool
full [] = true
full (b ∷ bs) = leb 128 b && full bs

pub tops-set : (k w : ℕ) → eqb (bit_and w (tops k)) (tops k) ≡ full (bytes k w)
unfolding bytes
tops-set zero w = eq-eqb (bit_and w 0) 0 (and_zero_r w)
tops-set (suc k) w =
    let f : tops (suc k) ≡ tops k * 256 + 128 = omega arith in
    ap₂ eqb (and-tops k w) f ∙ set-step (bit_and (w / 256) (tops k)) (tops k) (w % 256) (full (bytes k (w / 256))) (tops-set k (w / 256)) (omega arith)

-- ---- a difference in which each byte first gets its top bit: nothing is borrowed, and the bit stays where the byte taken is not larger
abbrev pub apart : List ℕ → List ℕ → List ℕ
apart xs ys = each (λ a b. a + 128 - b) xs ys

pub apart-sum : (xs ys : List ℕ) → length xs ≡ length ys → Below 128 ys → of_bytes (apart xs ys) + of_bytes ys ≡ of_bytes xs + tops (length xs)
apart-sum [] [] h u = refl
apart-sum [] (y ∷ ys) h u = absurd (let z : ⊥ = omega arith in z)
apart-sum (x ∷ xs) [] h u = absurd (let z : ⊥ = omega arith in z)
apart-sum (x ∷ xs) (y ∷ ys) h u = omega (arith, u.0, apart-sum xs ys (omega arith) u.1)

pub apart_below : (xs ys : List ℕ) → Below 128 xs → Below 256 (apart xs ys)
apart_below [] ys u = tt
apart_below (x ∷ xs) [] u = tt
apart_below (x ∷ xs) (y ∷ ys) u = (let h : x + 128 - y < 256 = omega (arith, u.0) in h, apart_below xs ys u.1)

pub apart-full : (xs ys : List ℕ) → length xs ≡ length ys → Below 128 ys → full (apart xs ys) ≡ divides ys xs
apart-full [] [] h u = refl
apart-full [] (y ∷ ys) h u = absurd (let z : ⊥ = omega arith in z)
apart-full (x ∷ xs) [] h u = absurd (let z : ⊥ = omega arith in z)
apart-full (x ∷ xs) (y ∷ ys) h u = ap₂ ◌&&◌ (go (dec_le y x)) (apart-full xs ys (omega arith) u.1)
  where
    go : Dec (y ≤ x) → leb 128 (x + 128 - y) ≡ leb y x
    go (yes l) = le-leb 128 (x + 128 - y) (omega arith) ∙ sym (le-leb y x l)
    go (no l) = lt-leb 128 (x + 128 - y) (omega (arith, u.0)) ∙ sym (lt-leb y x (omega arith))

-- ---- the high bytes, the low bytes, and no bytes
pub of_bytes-drop : (n : ℕ) (bs : List ℕ) → Below 256 bs → of_bytes (drop n bs) ≡ of_bytes bs / 256 ^ n
of_bytes-drop zero bs u = sym (div-one (of_bytes bs))
of_bytes-drop (suc n) [] u = sym (zero-div (256 ^ suc n))
of_bytes-drop (suc n) (b ∷ bs) u =
    let d : of_bytes bs ≡ (b + 256 * of_bytes bs) / 256 = omega (arith, u.0) in
    of_bytes-drop n bs u.1
    ∙ (ap (λ (v : ℕ). v / 256 ^ n) d
    ∙ (div-div-eq-div-mul (b + 256 * of_bytes bs) 256 (256 ^ n) ∙ ap (λ (m : ℕ). (b + 256 * of_bytes bs) / m) (sym (pow-succ' 256 n))))

pub of_bytes-take : (n : ℕ) (bs : List ℕ) → Below 256 bs → of_bytes (take n bs) ≡ of_bytes bs % 256 ^ n
of_bytes-take zero bs u = sym (mod-one (of_bytes bs))
of_bytes-take (suc n) [] u = sym (zero-mod (256 ^ suc n))
of_bytes-take (suc n) (b ∷ bs) u =
    let v : ℕ = b + 256 * of_bytes bs in
    let e : v % 256 ^ suc n ≡ v / 256 % 256 ^ n * 256 + v % 256 = ap (λ (m : ℕ). v % m) (pow-suc 256 n) ∙ mod-mul v (byte_pow n) (lit< tt) in
    let d : v / 256 ≡ of_bytes bs = omega (arith, u.0) in
    let m : v % 256 ≡ b = omega (arith, u.0) in
    let r = of_bytes-take n bs u.1 in
    let s : b + 256 * of_bytes (take n bs) ≡ of_bytes bs % 256 ^ n * 256 + b = omega arith in
    s ∙ sym (e ∙ ap₂ (λ (i j : ℕ). i % 256 ^ n * 256 + j) d m)

pub zero-bytes : (bs : List ℕ) → eqb (of_bytes bs) 0 ≡ below 1 bs
zero-bytes [] = refl
zero-bytes (b ∷ bs) = go (dec_le b 0) (dec_le (of_bytes bs) 0) ∙ ap (λ (t : Bool). ltb b 1 && t) (zero-bytes bs)
  where
    go : Dec (b ≤ 0) → Dec (of_bytes bs ≤ 0) → eqb (b + 256 * of_bytes bs) 0 ≡ (ltb b 1 && eqb (of_bytes bs) 0)
    go (yes h) (yes k) = eq-eqb (b + 256 * of_bytes bs) 0 (omega arith) ∙ sym (ap₂ ◌&&◌ (lt-ltb b 1 (omega arith)) (eq-eqb (of_bytes bs) 0 (omega arith)))
    go (yes h) (no k) = ne_eqb (b + 256 * of_bytes bs) 0 (λ z. omega arith) ∙ sym (ap₂ ◌&&◌ (lt-ltb b 1 (omega arith)) (ne_eqb (of_bytes bs) 0 (λ z. omega arith)))
    go (no h) t = ne_eqb (b + 256 * of_bytes bs) 0 (λ z. omega arith) ∙ sym (ap (λ (s : Bool). s && eqb (of_bytes bs) 0) (le-ltb b 1 (omega arith)))

-- ---- comparison: the highest byte in which they differ decides
abbrev pub from_top : List ℕ → List ℕ → Ordering
from_top [] ys = Ordering.eq
from_top (x ∷ xs) [] = Ordering.eq
from_top (x ∷ xs) (y ∷ ys) = or_else (from_top xs ys) (compare x y)

pub compare-bytes : (xs ys : List ℕ) → length xs ≡ length ys → Below 256 xs → Below 256 ys → compare (of_bytes xs) (of_bytes ys) ≡ from_top xs ys
compare-bytes [] [] h u v = refl
compare-bytes [] (y ∷ ys) h u v = absurd (let z : ⊥ = omega arith in z)
compare-bytes (x ∷ xs) [] h u v = absurd (let z : ⊥ = omega arith in z)
compare-bytes (x ∷ xs) (y ∷ ys) h u v =
    let e : x + 256 * of_bytes xs ≡ of_bytes xs * 256 + x = omega arith in
    let f : y + 256 * of_bytes ys ≡ of_bytes ys * 256 + y = omega arith in
    ap₂ compare e f ∙ (compare-digits 256 (of_bytes xs) (of_bytes ys) x y u.0 v.0 ∙ ap (λ (o : Ordering). or_else o (compare x y)) (compare-bytes xs ys (omega arith) u.1 v.1))

-- RevLex goes by the bytes as they lie, the other way round
pub rev_lex-top : (α β : List ℕ) → length α ≡ length β → rev_lex α β ≡ from_top β α
rev_lex-top [] [] h = refl
rev_lex-top [] (b ∷ β) h = absurd (let z : ⊥ = omega arith in z)
rev_lex-top (a ∷ α) [] h = absurd (let z : ⊥ = omega arith in z)
rev_lex-top (a ∷ α) (b ∷ β) h = ap (λ (o : Ordering). or_else o (compare b a)) (rev_lex-top α β (omega arith))

pub or_else-assoc : (x y z : Ordering) → or_else (or_else x y) z ≡ or_else x (or_else y z)
or_else-assoc Ordering.lt y z = refl
or_else-assoc Ordering.eq y z = refl
or_else-assoc Ordering.gt y z = refl

pub or_else-none : (x : Ordering) → or_else x Ordering.eq ≡ x
or_else-none Ordering.lt = refl
or_else-none Ordering.eq = refl
or_else-none Ordering.gt = refl

top-last : (xs ys : List ℕ) (x y : ℕ) → length xs ≡ length ys → from_top (xs ++ (x ∷ [])) (ys ++ (y ∷ [])) ≡ or_else (compare x y) (from_top xs ys)
top-last [] [] x y h = sym (or_else-none (compare x y))
top-last [] (b ∷ ys) x y h = absurd (let z : ⊥ = omega arith in z)
top-last (a ∷ xs) [] x y h = absurd (let z : ⊥ = omega arith in z)
top-last (a ∷ xs) (b ∷ ys) x y h = ap (λ (o : Ordering). or_else o (compare a b)) (top-last xs ys x y (omega arith)) ∙ or_else-assoc (compare x y) (from_top xs ys) (compare a b)

-- Lex goes by the bytes as they lie where the first variable lies highest
pub lex-top : (α β : List ℕ) → length α ≡ length β → lex α β ≡ from_top (reverse α) (reverse β)
lex-top [] [] h = refl
lex-top [] (b ∷ β) h = absurd (let z : ⊥ = omega arith in z)
lex-top (a ∷ α) [] h = absurd (let z : ⊥ = omega arith in z)
lex-top (a ∷ α) (b ∷ β) h =
    ap (or_else (compare a b)) (lex-top α β (omega arith))
    ∙ (sym (top-last (reverse α) (reverse β) a b (omega (arith, length-reverse α, length-reverse β)))
    ∙ ap₂ from_top (sym (reverse-cons a α)) (sym (reverse-cons b β)))
