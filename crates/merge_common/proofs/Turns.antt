-- One word or two at a place: places put one by one, as the laws of lists have it for their numbers. Assumes nothing.
use mathlib.Core.Path.{◌≡◌, refl, sym, ap, subst, ◌∙◌}
use mathlib.Core.List.{List, ◌∷◌, map}
use Prim.Native.Nat.{ℕ, zero, suc, ◌+◌, ◌-◌, ◌*◌, ◌/◌, ◌^◌, ◌<◌, ◌≤◌, compare, Ordering}
use native.Mathlib.Omega.{arith}
use borrow.Author.Tests.{eq-eqb, ne_eqb}
use lib.Dec.{eqb}
use lib.ListN.{length, set, get_or, drop, replicate, length-map, length-drop, length-replicate}
use lib.Seq.{sets}
use Rattle.monomial.specs.Exponents.{or_else}
use Rattle.monomial.proofs.Comparing.{Tri, less, same, more, tri, compare-digits}
use Rattle.wide_monomial.specs.declared.width.Width.{Width}
use Rattle.wide_monomial.specs.declared.width.Width.TheVariants.{One, Two}
use Rattle.wide_monomial.specs.Widths.{words_each}
use Rattle.wide_monomial.specs.Wide.{paired}
use Rattle.place.specs.Numbers.{keyed, key_pairs, pairs_by, key_numbers, word_numbers, Whole}
use Rattle.place.proofs.PairLaws.{length_pairs}
use Rattle.place.proofs.WidthLaws.{numbers-count, numbers-space, numbers-sets, numbers-drop, numbers-lent}
use Rattle.merge_common.specs.Lent.{part, rest_of, Apart, flag, chosen}
use Rattle.merge_common.proofs.Lists.{Begun, begun_more, begun_all, begun-on, get_d-each, rest-left, rest-right, length_part}
use Rattle.merge_common.proofs.Shifts.{Left, left_less}

-- the second words decide where the first are alike
pub decides : (a1 a2 b1 b2 : ℕ) → a2 < 2 ^ 64 → b2 < 2 ^ 64 → {x y : ℕ} → x ≡ chosen (flag (eqb a1 b1)) a2 a1 → y ≡ chosen (flag (eqb a1 b1)) b2 b1 → compare x y ≡ compare (keyed a1 a2) (keyed b1 b2)
decides a1 a2 b1 b2 ha hb {x} {y} ex ey = go (tri a1 b1)
  where
    unlike : (a1 ≡ b1 → ⊥) → compare x y ≡ compare a1 b1
    unlike ne = rw (ex, ey, ne_eqb a1 b1 ne)

    go : Tri a1 b1 → compare x y ≡ compare (keyed a1 a2) (keyed b1 b2)
    go (less h e) = unlike (λ q. omega arith) ∙ (e ∙ sym (compare-digits (2 ^ 64) a1 b1 a2 b2 ha hb ∙ ap (λ (o : Ordering). or_else o (compare a2 b2)) e))
    go (same h e) = (rw (ex, ey, eq-eqb a1 b1 h)) ∙ sym (compare-digits (2 ^ 64) a1 b1 a2 b2 ha hb ∙ ap (λ (o : Ordering). or_else o (compare a2 b2)) e)
    go (more h e) = unlike (λ q. omega arith) ∙ (e ∙ sym (compare-digits (2 ^ 64) a1 b1 a2 b2 ha hb ∙ ap (λ (o : Ordering). or_else o (compare a2 b2)) e))

-- the words of so many places are there
pub place_room : (ws : List ℕ) → 2 * length (key_pairs ws) ≤ length ws
place_room ws = (length_pairs keyed ws).0

-- ---- so many words to a place
-- where place k begins
pub begins : (w : Width) (i : ℕ) {k n : ℕ} → k ≡ n → n ≡ words_each w → k * i ≡ words_each w * i
begins w i e q = ap (λ (x : ℕ). x * i) (e ∙ q)

-- how many places there are
pub places-counted : (w : Width) (ws : List ℕ) {k n : ℕ} → k ≡ n → n ≡ words_each w → (length ws / k ≡ length (key_numbers w ws)) × (length ws / k ≡ length (word_numbers w ws))
places-counted w ws e q = rw (e, q) (numbers-count keyed w ws, numbers-count paired w ws)

-- places i up to m, as they are lent
lents : (w : Width) (ws : List ℕ) (i m : ℕ) → i ≤ m → m ≤ length (key_numbers w ws) → (words_each w * i ≤ words_each w * m) × (words_each w * m ≤ length ws)
lents One ws i m h k = (omega arith, omega arith)
lents Two ws i m h k = (omega arith, omega (arith, length_pairs keyed ws))

words-less : (w : Width) (i m : ℕ) → words_each w * m - words_each w * i ≡ words_each w * (m - i)
words-less One i m = omega arith
words-less Two i m = omega arith

module _ (w : Width) (ws : List ℕ) (i m : ℕ) (hi : i ≤ m) (hm : m ≤ length (key_numbers w ws)) {k : ℕ} (ek : k ≡ words_each w) where
  abbrev lent : List ℕ
  lent = part (k * i) (k * m - k * i) ws

  pub lent-room : (k * i ≤ k * m) × (k * m ≤ length ws)
  lent-room = rw ek (lents w ws i m hi hm)

  pub lent-places : (key_numbers w lent ≡ part i (m - i) (key_numbers w ws)) × Whole w lent
  lent-places =
      let e : key_numbers w lent ≡ part i (m - i) (key_numbers w ws) = rw ek (numbers-lent keyed w i m ws) in
      let long : length lent ≡ words_each w * (m - i) = length_part (k * i) (k * m - k * i) ws (omega (arith, lent-room)) ∙ rw ek (words-less w i m) in
      (e, long ∙ ap (λ (n : ℕ). words_each w * n) (sym (ap length e ∙ length_part i (m - i) (key_numbers w ws) (omega (arith, hi, hm)))))

-- whole places are put as they are
pub places-put : (w : Width) (l s : List ℕ) (to : ℕ) {o : List ℕ} {k : ℕ} → Whole w s → to + length (key_numbers w s) ≤ length (key_numbers w l) → o ≡ sets l k s → k ≡ words_each w * to → key_numbers w o ≡ sets (key_numbers w l) to (key_numbers w s)
places-put w l s to whole room e q = ap (key_numbers w) (e ∙ ap (λ (x : ℕ). sets l x s) q) ∙ numbers-sets keyed w l to s (length (key_numbers w s)) whole room

pub places-room : (w : Width) (l s : List ℕ) (to : ℕ) {k : ℕ} → Whole w s → to + length (key_numbers w s) ≤ length (key_numbers w l) → k ≡ words_each w * to → k + length s ≤ length l
places-room w l s to whole room q = omega (arith, q, whole, numbers-space keyed w l to (length (key_numbers w s)) room)

-- places set to 0
pairs-zero : (n : ℕ) → pairs_by paired (replicate (2 * n) 0) ≡ replicate n 0
unfolding pairs_by
pairs-zero zero = refl
pairs-zero (suc n) =
    ap (λ (k : ℕ). pairs_by paired (replicate k 0)) (let e : 2 * suc n ≡ suc (suc (2 * n)) = omega arith in e)
    ∙ ap (λ (l : List ℕ). 0 ∷ l) (pairs-zero n)

numbers-zero : (w : Width) (n : ℕ) → word_numbers w (replicate (words_each w * n) 0) ≡ replicate n 0
numbers-zero One n = ap (λ (k : ℕ). replicate k 0) (let e : 1 * n ≡ n = omega arith in e)
numbers-zero Two n = pairs-zero n

module _ (w : Width) (l : List ℕ) {k : ℕ} (ek : k ≡ words_each w) (at n : ℕ) (h : at + n ≤ length (word_numbers w l)) where
  pub clear_room : k * at + k * n ≤ length l
  clear_room = rw ek (numbers-space paired w l at n h)

  pub cleared : {o : List ℕ} → o ≡ sets l (k * at) (replicate (k * n) 0) → word_numbers w o ≡ sets (word_numbers w l) at (replicate n 0)
  cleared {o} e =
      ap (word_numbers w) (e ∙ ap (λ (k : ℕ). sets l (k * at) (replicate (k * n) 0)) ek)
      ∙ (numbers-sets paired w l at (replicate (words_each w * n) 0) n (length-replicate (words_each w * n) 0) h ∙ ap (sets (word_numbers w l) at) (numbers-zero w n))

-- which list of whole places is not used up
after : (w : Width) (l : List ℕ) (i : ℕ) → Whole w l → Whole w (drop (words_each w * i) l)
after One l i h = omega arith
after Two l i h = omega (arith, h, ap length (numbers-drop keyed Two i l), length-drop i (key_numbers Two l), length-drop (2 * i) l)

within : (w : Width) (l : List ℕ) (i : ℕ) → Whole w l → i < length (key_numbers w l) → words_each w * i < length l
within One l i h k = omega (arith, h, k)
within Two l i h k = omega (arith, h, k)

past : (w : Width) (l : List ℕ) (i : ℕ) → Whole w l → length (key_numbers w l) ≤ i → length l ≤ words_each w * i
past One l i h k = omega (arith, h, k)
past Two l i h k = omega (arith, h, k)

module _ (w : Width) (a b : List ℕ) (i j : ℕ) (whole-a : Whole w a) (whole-b : Whole w b) where
  abbrev rest : List ℕ
  rest = rest_of (drop (words_each w * i) a) (drop (words_each w * j) b)

  abbrev numbers : List ℕ
  numbers = rest_of (drop i (key_numbers w a)) (drop j (key_numbers w b))

  rest_first : i < length (key_numbers w a) → (key_numbers w rest ≡ numbers) × Whole w rest
  rest_first h =
      let e : rest ≡ drop (words_each w * i) a = rest-left a (drop (words_each w * j) b) (words_each w * i) (within w a i whole-a h) in
      let q : numbers ≡ drop i (key_numbers w a) = rest-left (key_numbers w a) (drop j (key_numbers w b)) i h in
      (ap (key_numbers w) e ∙ (numbers-drop keyed w i a ∙ sym q), subst (Whole w) (sym e) (after w a i whole-a))

  rest_second : length (key_numbers w a) ≤ i → (key_numbers w rest ≡ numbers) × Whole w rest
  rest_second h =
      let e : rest ≡ drop (words_each w * j) b = rest-right a (drop (words_each w * j) b) (words_each w * i) (past w a i whole-a h) in
      let q : numbers ≡ drop j (key_numbers w b) = rest-right (key_numbers w a) (drop j (key_numbers w b)) i h in
      (ap (key_numbers w) e ∙ (numbers-drop keyed w j b ∙ sym q), subst (Whole w) (sym e) (after w b j whole-b))

  rest_by : Tri i (length (key_numbers w a)) → (key_numbers w rest ≡ numbers) × Whole w rest
  rest_by (less h e) = rest_first h
  rest_by (same h e) = rest_second (omega (arith, h))
  rest_by (more h e) = rest_second (omega (arith, h))

  pub rest_whole : {r : List ℕ} {k m : ℕ} → r ≡ rest_of (drop k a) (drop m b) → k ≡ words_each w * i → m ≡ words_each w * j → (key_numbers w r ≡ numbers) × Whole w r
  rest_whole {r} e ek em = rw (e, ek, em) (rest_by (tri i (length (key_numbers w a))))

module _ (l : List ℕ) (from to n : ℕ) {o o' : List ℕ} {i v : ℕ} where
  -- one more of what is moved within a list, of which o' puts v
  pub moved-on : Begun (part from n l) l to o i → from + n ≤ length l → Apart from n to n → i < n → v ≡ get_or o (from + i) 0 → o' ≡ set o (to + i) v → Begun (part from n l) l to o' (i + 1)
  moved-on b h out k ev e = subst (λ (x : List ℕ). Begun (part from n l) l to x (i + 1)) (ap (set o (to + i)) (sym ev) ∙ sym e) (begun-on l from to n o i b h out k)

  -- one more, the last one first
  pub left-on : from ≤ to → to + n ≤ length l → Left l from to n o i → 0 < i → v ≡ get_or o (from + (i - 1)) 0 → o' ≡ set o (to + (i - 1)) v → Left l from to n o' (i - 1)
  left-on up room b h ev e = subst (λ (x : List ℕ). Left l from to n x (i - 1)) (ap (set o (to + (i - 1))) (sym ev) ∙ sym e) (left_less l from to n up room o i b h)

-- all that is made of each place is put
pub made-all : (f : ℕ → ℕ) (s l : List ℕ) (to : ℕ) {o : List ℕ} {i : ℕ} → Begun (map f s) l to o i → length s ≤ i → o ≡ sets l to (map f s)
made-all f s l to {o} {i} b h = begun_all (map f s) l to o i b (omega (arith, length-map s f, h))

-- one more of it, of which o' puts v
pub made-on : (f : ℕ → ℕ) (s l : List ℕ) (to : ℕ) {o o' : List ℕ} {i u v : ℕ} → Begun (map f s) l to o i → i < length s → u ≡ get_or s i 0 → v ≡ f u → o' ≡ set o (to + i) v → Begun (map f s) l to o' (i + 1)
made-on f s l to {o} {o'} {i} {u} {v} b k eu ev e =
    subst (λ (x : List ℕ). Begun (map f s) l to x (i + 1)) (sym e)
    (begun_more (map f s) l to o i v b (omega (arith, length-map s f, k)) (ev ∙ (ap f eu ∙ sym (get_d-each f s i k))))
