-- The buckets in the spaces: what a change of one bucket's places leaves of the others. Assumes nothing.
use mathlib.Core.Path.{◌≡◌, refl, sym, ap, ap₂, ◌∙◌, subst}
use mathlib.Core.List.{List, [], ◌∷◌, ◌++◌, append-nil}
use mathlib.Core.Logic.{◌⊎◌, inl, inr, ⊎_elim}
use Prim.Native.Nat.{ℕ, zero, suc, ◌+◌, ◌-◌, ◌*◌, ◌<◌, ◌≤◌, Ordering}
use native.Mathlib.Decide.{dec_le}
use native.Mathlib.Omega.{arith}
use lib.ListN.{length, take, drop, set, get_or, length-set, drop_of_length-le}
use lib.Seq.{sets, length-sets, sets-eq, get_or-set_same, get_or-set_other, set-get_or, drop-cons}
use Rattle.limits.specs.Limits.{bucket_places, work_places}
use Rattle.merge_common.specs.Lent.{part, Apart}
use Rattle.merge_common.proofs.Lists.{get_d-sets-other, length_part}
use Rattle.merge_common.proofs.ReadBack.{part-sets, part_same}
use Rattle.polynomial.specs.Terms.{Term, term, terms, Canonical}
use Rattle.polynomial.proofs.TermLists.{length-terms}
use Rattle.residue.specs.Modular.{Modulus}
use Rattle.geobucket.specs.Buckets.{empty, held, Good, Canon}
use Rattle.geobucket.proofs.EventLaws.{good-canon}
use Rattle.space.specs.Space.{Buckets, head_at, len_at, side_at, capacity, start, all_places, zone, zone_end, list_from, row_at, bucket_at, buckets_in, Laid, Stands, moved, dropped, turned, no_buckets, held_in}
use Rattle.space.proofs.Starts.{zone-areas, next_start, next-capacity, cap-small, end-in-work, zone-past, zones-apart, zone-end}
use Rattle.space.proofs.Joined.{SameBut, same-sets, part_left, part-past}

-- ---- f of each number from i on
module _ {A : Type 0} where
  pub from-same : (f g : ℕ → A) (i k : ℕ) → ((j : ℕ) → i ≤ j → j < i + k → f j ≡ g j) → list_from f i k ≡ list_from g i k
  unfolding list_from
  from-same f g i zero h = refl
  from-same f g i (suc k) h = ap₂ (λ (a : A) (l : List A). a ∷ l) (h i (omega arith) (omega arith)) (from-same f g (suc i) k (λ j l m. h j (omega arith) (omega arith)))

  pub from_next : (f : ℕ → A) (i k : ℕ) → list_from f i (suc k) ≡ f i ∷ list_from f (suc i) k
  unfolding list_from
  from_next f i k = refl

  pub from-none : (f : ℕ → A) (i : ℕ) → list_from f i 0 ≡ []
  unfolding list_from
  from-none f i = refl

  pub from-split : (f : ℕ → A) (i j k : ℕ) → list_from f i (j + k) ≡ list_from f i j ++ list_from f (i + j) k
  unfolding list_from
  from-split f i zero k = ap₂ (λ (m n : ℕ). list_from f m n) (let e : i ≡ i + 0 = omega arith in e) (let e : 0 + k ≡ k = omega arith in e)
  from-split f i (suc j) k =
      ap (λ (n : ℕ). list_from f i n) (let e : suc j + k ≡ suc (j + k) = omega arith in e)
      ∙ ap (λ (l : List A). f i ∷ l) (from-split f (suc i) j k ∙ ap (λ (n : ℕ). list_from f (suc i) j ++ list_from f n k) (let e : suc i + j ≡ i + suc j = omega arith in e))

  pub from_last : (f : ℕ → A) (i k : ℕ) → list_from f i (suc k) ≡ list_from f i k ++ (f (i + k) ∷ [])
  from_last f i k = ap (list_from f i) (let e : suc k ≡ k + 1 = omega arith in e) ∙ (from-split f i k 1 ∙ ap (λ (l : List A). list_from f i k ++ l) (from_next f (i + k) 0 ∙ ap (λ (l : List A). f (i + k) ∷ l) (from-none f (suc (i + k)))))

  pub from-long : (f : ℕ → A) (i k : ℕ) → length (list_from f i k) ≡ k
  unfolding list_from
  from-long f i zero = refl
  from-long f i (suc k) = ap suc (from-long f (suc i) k)

  -- the list of all six, parted at i
  pub from_at : (f : ℕ → A) (i : ℕ) → i < 6 → list_from f 0 6 ≡ list_from f 0 i ++ (f i ∷ list_from f (suc i) (5 - i))
  from_at f i h =
      let e : i + suc (5 - i) ≡ 6 = omega arith in
      ap (list_from f 0) (sym e) ∙ (from-split f 0 i (suc (5 - i)) ∙ ap (λ (l : List A). list_from f 0 i ++ l) (ap (λ (n : ℕ). list_from f n (suc (5 - i))) (let z : 0 + i ≡ i = omega arith in z) ∙ from_next f i (5 - i)))

-- ---- parts of a list of which a run of places is put again
pub part-frame : (s : List ℕ) (a : ℕ) (vs : List ℕ) (h n : ℕ) → Apart h n a (length vs) → part h n (sets s a vs) ≡ part h n s
part-frame s a vs h n out = part_same s (sets s a vs) h n (length-sets s a vs) (λ i low high. get_d-sets-other s a vs i (⊎_elim (λ u. inl (omega arith)) (λ u. inr (omega arith)) out))

-- a part that is lent from h to h + n
pub part-to : (h n : ℕ) (s : List ℕ) → take (h + n - h) (drop h s) ≡ part h n s
part-to h n s = ap (λ (m : ℕ). take m (drop h s)) (let e : h + n - h ≡ n = omega arith in e)

-- the same of a bucket
pub row_of : (b : Buckets) (i : ℕ) {h n : ℕ} → h ≡ head_at b i → n ≡ len_at b i → (s : List ℕ) → take (h + n - h) (drop h s) ≡ row_at b s i
row_of b i {h} {n} eh en s = part-to h n s ∙ ap₂ (λ (x y : ℕ). part x y s) eh en

pub part-put : (s : List ℕ) (a : ℕ) (vs : List ℕ) → a + length vs ≤ length s → part a (length vs) (sets s a vs) ≡ vs
part-put s a vs h = part-sets s a vs h

-- what is as long as the list, put from its first place on, is all of it
pub put_all : (l vs : List ℕ) → length vs ≡ length l → sets l 0 vs ≡ vs
put_all l vs e = sets-eq vs l 0 (omega arith) ∙ (ap (λ (x : List ℕ). vs ++ x) (drop_of_length-le l {i = 0 + length vs} (omega arith)) ∙ append-nil vs)

-- ---- one bucket is changed

-- what holds of i, and of any other number, holds of each
but-one : (P : ℕ → Type 0) (i j : ℕ) → P i → ((j ≡ i → ⊥) → P j) → P j
but-one P i j here else = by (dec_le i j) (dec_le j i)
  where
    by : Dec (i ≤ j) → Dec (j ≤ i) → P j
    by (yes u) (yes v) = subst P (let e : i ≡ j = omega arith in e) here
    by (no u) v = else (λ e. let z : ⊥ = omega arith in z)
    by (yes u) (no v) = else (λ e. let z : ⊥ = omega arith in z)

-- the numbers of all buckets but i are in b' as they are in b
pub record ButFor (b b' : Buckets) (i : ℕ) : Type 0 where
  pub as_long : length b' ≡ length b
  pub heads : (j : ℕ) → j < 6 → (j ≡ i → ⊥) → head_at b' j ≡ head_at b j
  pub lens : (j : ℕ) → j < 6 → (j ≡ i → ⊥) → len_at b' j ≡ len_at b j
  pub sides : (j : ℕ) → j < 5 → (j ≡ i → ⊥) → side_at b' j ≡ side_at b j

-- bucket i has its head at h, n terms, and its free area at s
pub record Has (b : Buckets) (i h n s : ℕ) : Type 0 where
  pub head : head_at b i ≡ h
  pub len : len_at b i ≡ n
  pub side : side_at b i ≡ s

module _ (b b' : Buckets) (i h n s : ℕ) (laid : Laid b) (but : ButFor b b' i) (has : Has b' i h n s) where
  -- what must hold of bucket i
  pub laid-but : zone i ≤ h → h + n ≤ zone_end i → n ≤ capacity i → (i < 5 → (s ≡ zone i) ⊎ (s ≡ zone i + 2 * capacity i)) → (i < 5 → Apart h n s (2 * capacity i)) → Laid b'
  laid-but lo hi sh si out = record {
    eighteen = but.as_long ∙ laid.eighteen;
    low = λ j. but-one (λ j. j < 6 → zone j ≤ head_at b' j) i j (λ k. rw has.head lo) (λ ne k. rw (but.heads j k ne) (laid.low j k));
    high = λ j. but-one (λ j. j < 6 → head_at b' j + len_at b' j ≤ zone_end j) i j (λ k. rw (has.head, has.len) hi) (λ ne k. rw (but.heads j k ne, but.lens j k ne) (laid.high j k));
    short = λ j. but-one (λ j. j < 6 → len_at b' j ≤ capacity j) i j (λ k. rw has.len sh) (λ ne k. rw (but.lens j k ne) (laid.short j k));
    side-is = λ j. but-one (λ j. j < 5 → (side_at b' j ≡ zone j) ⊎ (side_at b' j ≡ zone j + 2 * capacity j)) i j (λ k. rw has.side (si k)) (λ ne k. rw (but.sides j k ne) (laid.side-is j k));
    side-apart = λ j. but-one (λ j. j < 5 → Apart (head_at b' j) (len_at b' j) (side_at b' j) (2 * capacity j)) i j (λ k. rw (has.head, has.len, has.side) (out k)) (λ ne k. rw (but.heads j (omega arith) ne, but.lens j (omega arith) ne, but.sides j k ne) (laid.side-apart j k));
  }

-- a free area lies in its zone
pub side-low : {b : Buckets} → Laid b → (i : ℕ) → i < 5 → zone i ≤ side_at b i
side-low l i h = ⊎_elim (λ e. omega (arith, e)) (λ e. omega (arith, e)) (l.side-is i h)

pub side-high : {b : Buckets} → Laid b → (i : ℕ) → i < 5 → side_at b i + 2 * capacity i ≤ zone_end i
side-high l i h = ⊎_elim (λ e. omega (arith, e, zone-areas i h)) (λ e. omega (arith, e, zone-areas i h)) (l.side-is i h)

module _ (b b' : Buckets) (i : ℕ) (laid : Laid b) (but : ButFor b b' i) where
  -- the row of another bucket is as it was, whatever became of the places of this one's zone
  pub row-but : (s s' : List ℕ) → length s' ≡ length s → SameBut (zone i) (zone_end i) s s' → (j : ℕ) → j < 6 → (j ≡ i → ⊥) → row_at b' s' j ≡ row_at b s j
  row-but s s' e same j k ne =
      ap₂ (λ (x y : ℕ). part x y s') (but.heads j k ne) (but.lens j k ne)
      ∙ part_same s s' (head_at b j) (len_at b j) e (λ m lo hi. same m (side m lo hi (dec_le j i)))
    where
      side : (m : ℕ) → head_at b j ≤ m → m < head_at b j + len_at b j → Dec (j ≤ i) → (m < zone i) ⊎ (zone_end i ≤ m)
      side m lo hi (yes u) = inl (omega (arith, laid.high j k, zones-apart j i (lt_of_ne (dec_le i j))))
        where
          lt_of_ne : Dec (i ≤ j) → j < i
          lt_of_ne (yes v) = absurd (ne (omega arith))
          lt_of_ne (no v) = omega arith
      side m lo hi (no u) = inr (omega (arith, laid.low j k, zones-apart i j (omega arith)))

  pub bucket-but : (sw sc sw' sc' : List ℕ) → length sw' ≡ length sw → length sc' ≡ length sc → SameBut (zone i) (zone_end i) sw sw' → SameBut (zone i) (zone_end i) sc sc' → (j : ℕ) → j < 6 → (j ≡ i → ⊥)
      → bucket_at b' sw' sc' j ≡ bucket_at b sw sc j
  bucket-but sw sc sw' sc' ew ec fw fc j k ne = ap₂ terms (row-but sw sw' ew fw j k ne) (row-but sc sc' ec fc j k ne)

-- ---- bucket i has its head and its terms elsewhere
module _ (b : Buckets) (i h n : ℕ) (laid : Laid b) (in-six : i < 6) where
  pub moved-head : head_at (moved b i h n) i ≡ h
  moved-head = get_or-set_other (set b i h) (6 + i) i n 0 (λ e. let z : ⊥ = omega arith in z) ∙ get_or-set_same b i h 0 (omega (arith, laid.eighteen))

  pub moved-len : len_at (moved b i h n) i ≡ n
  moved-len = get_or-set_same (set b i h) (6 + i) n 0 (omega (arith, length-set b i h, laid.eighteen))

  pub moved-side : (j : ℕ) → side_at (moved b i h n) j ≡ side_at b j
  moved-side j = get_or-set_other (set b i h) (6 + i) (12 + j) n 0 (λ e. let z : ⊥ = omega arith in z) ∙ get_or-set_other b i (12 + j) h 0 (λ e. let z : ⊥ = omega arith in z)

  pub moved-head-other : (j : ℕ) → j < 6 → (j ≡ i → ⊥) → head_at (moved b i h n) j ≡ head_at b j
  moved-head-other j k ne = get_or-set_other (set b i h) (6 + i) j n 0 (λ e. let z : ⊥ = omega arith in z) ∙ get_or-set_other b i j h 0 ne

  pub moved-len-other : (j : ℕ) → (j ≡ i → ⊥) → len_at (moved b i h n) j ≡ len_at b j
  moved-len-other j ne = get_or-set_other (set b i h) (6 + i) (6 + j) n 0 (λ e. ne (omega arith)) ∙ get_or-set_other b i (6 + j) h 0 (λ e. let z : ⊥ = omega arith in z)

  pub moved-but : ButFor b (moved b i h n) i
  moved-but = record { as_long = length-set (set b i h) (6 + i) n ∙ length-set b i h; heads = moved-head-other; lens = λ j k ne. moved-len-other j ne; sides = λ j k ne. moved-side j }

  pub laid-moved : zone i ≤ h → h + n ≤ zone_end i → n ≤ capacity i → (i < 5 → Apart h n (side_at b i) (2 * capacity i)) → Laid (moved b i h n)
  laid-moved lo hi sh out = laid-but b (moved b i h n) i h n (side_at b i) laid moved-but (record { head = moved-head; len = moved-len; side = moved-side i }) lo hi sh (laid.side-is i) out

  -- another bucket, whatever became of the places of this one's zone
  pub bucket-else : (sw sc sw' sc' : List ℕ) → length sw' ≡ length sw → length sc' ≡ length sc → SameBut (zone i) (zone_end i) sw sw' → SameBut (zone i) (zone_end i) sc sc' → (j : ℕ) → j < 6 → (j ≡ i → ⊥)
      → bucket_at (moved b i h n) sw' sc' j ≡ bucket_at b sw sc j
  bucket-else = bucket-but b (moved b i h n) i laid moved-but

-- ---- and its free area too
module _ (b : Buckets) (i h n s : ℕ) (laid : Laid b) (in-five : i < 5) where
  in-six : i < 6
  in-six = omega arith

  pub turned-head : head_at (turned b i h n s) i ≡ h
  turned-head = get_or-set_other (moved b i h n) (12 + i) i s 0 (λ e. let z : ⊥ = omega arith in z) ∙ moved-head b i h n laid in-six

  pub turned-len : len_at (turned b i h n s) i ≡ n
  turned-len = get_or-set_other (moved b i h n) (12 + i) (6 + i) s 0 (λ e. let z : ⊥ = omega arith in z) ∙ moved-len b i h n laid in-six

  pub turned-side : side_at (turned b i h n s) i ≡ s
  turned-side = get_or-set_same (moved b i h n) (12 + i) s 0 (omega (arith, length-set (set b i h) (6 + i) n, length-set b i h, laid.eighteen))

  pub turned-head-other : (j : ℕ) → j < 6 → (j ≡ i → ⊥) → head_at (turned b i h n s) j ≡ head_at b j
  turned-head-other j k ne = get_or-set_other (moved b i h n) (12 + i) j s 0 (λ e. let z : ⊥ = omega arith in z) ∙ moved-head-other b i h n laid in-six j k ne

  pub turned-len-other : (j : ℕ) → j < 6 → (j ≡ i → ⊥) → len_at (turned b i h n s) j ≡ len_at b j
  turned-len-other j k ne = get_or-set_other (moved b i h n) (12 + i) (6 + j) s 0 (λ e. let z : ⊥ = omega arith in z) ∙ moved-len-other b i h n laid in-six j ne

  pub turned-side-other : (j : ℕ) → (j ≡ i → ⊥) → side_at (turned b i h n s) j ≡ side_at b j
  turned-side-other j ne = get_or-set_other (moved b i h n) (12 + i) (12 + j) s 0 (λ e. ne (omega arith)) ∙ moved-side b i h n laid in-six j

  pub turned-but : ButFor b (turned b i h n s) i
  turned-but = record { as_long = length-set (moved b i h n) (12 + i) s ∙ (length-set (set b i h) (6 + i) n ∙ length-set b i h); heads = turned-head-other; lens = turned-len-other; sides = λ j k ne. turned-side-other j ne }

  pub laid-turned : zone i ≤ h → h + n ≤ zone_end i → n ≤ capacity i → (s ≡ zone i) ⊎ (s ≡ zone i + 2 * capacity i) → Apart h n s (2 * capacity i) → Laid (turned b i h n s)
  laid-turned lo hi sh si out =
      laid-but b (turned b i h n s) i h n s laid turned-but (record { head = turned-head; len = turned-len; side = turned-side }) lo hi sh (λ k. si) (λ k. out)

  pub bucket-else-turned : (sw sc sw' sc' : List ℕ) → length sw' ≡ length sw → length sc' ≡ length sc → SameBut (zone i) (zone_end i) sw sw' → SameBut (zone i) (zone_end i) sc sc' → (j : ℕ) → j < 6 → (j ≡ i → ⊥)
      → bucket_at (turned b i h n s) sw' sc' j ≡ bucket_at b sw sc j
  bucket-else-turned = bucket-but b (turned b i h n s) i laid turned-but

-- ---- the buckets in the spaces
module _ (b : Buckets) (laid : Laid b) (i : ℕ) (in-six : i < 6) where
  -- bucket i lies within the spaces
  pub row-end : head_at b i + len_at b i ≤ all_places
  row-end = omega (arith, laid.high i in-six, zone-end i in-six)

  -- in the work space
  pub row-work-end : i < 5 → head_at b i + len_at b i ≤ work_places
  row-work-end k = omega (arith, laid.high i in-six, end-in-work i k)

  pub row-work : i < 5 → (l r : List ℕ) → length l ≡ work_places → row_at b (l ++ r) i ≡ row_at b l i
  row-work k l r e = part_left l r (head_at b i) (len_at b i) (omega (arith, row-work-end k))

  -- or past it
  pub row-past : 5 ≤ i → work_places ≤ head_at b i
  row-past k = omega (arith, laid.low i in-six, zone-past i k)

  pub row-space : 5 ≤ i → (l r : List ℕ) → length l ≡ work_places → row_at b (l ++ r) i ≡ part (head_at b i - work_places) (len_at b i) r
  row-space k l r e = part-past l r e (head_at b i) (row-past k) (len_at b i)

  pub row-long : (s : List ℕ) → length s ≡ all_places → length (row_at b s i) ≡ len_at b i
  row-long s h = length_part (head_at b i) (len_at b i) s (omega (arith, row-end, h))

  pub bucket-long : (sw sc : List ℕ) → length sw ≡ all_places → length sc ≡ all_places → length (bucket_at b sw sc i) ≡ len_at b i
  bucket-long sw sc hw hc = length-terms (row_at b sw i) (row_at b sc i) (row-long sc hc ∙ sym (row-long sw hw)) ∙ row-long sw hw

-- ---- the terms held
pub held-append : (as' bs : List (List (Term ℕ))) → held (as' ++ bs) ≡ held as' + held bs
unfolding held
held-append [] bs = omega arith
held-append (a ∷ as') bs = omega (arith, held-append as' bs)

pub held_cons : (b : List (Term ℕ)) (bs : List (List (Term ℕ))) → held (b ∷ bs) ≡ length b + held bs
unfolding held
held_cons b bs = refl

-- ---- the lead of a bucket

-- a row that is not empty begins with the number at its head
pub row-lead : (s : List ℕ) (h n : ℕ) → h < length s → 0 < n → part h n s ≡ get_or s h 0 ∷ part (h + 1) (n - 1) s
row-lead s h n k pos =
    let e : n ≡ suc (n - 1) = omega arith in
    ap (λ (m : ℕ). take m (drop h s)) e ∙ (ap (take (suc (n - 1))) (drop-cons s h 0 k) ∙ ap (λ (m : ℕ). get_or s h 0 ∷ take (n - 1) (drop m s)) (let z : suc h ≡ h + 1 = omega arith in z))

module _ (b : Buckets) (i : ℕ) (laid : Laid b) (in-six : i < 6) where
  -- a row that is moved nowhere is where it was
  pub moved_same : moved b i (head_at b i) (len_at b i) ≡ b
  moved_same = ap (λ (x : List ℕ). set x (6 + i) (len_at b i)) (set-get_or b i 0) ∙ set-get_or b (6 + i) 0

  pub bucket-none : (sw sc : List ℕ) → len_at b i ≡ 0 → bucket_at b sw sc i ≡ []
  bucket-none sw sc e = ap (λ (n : ℕ). terms (part (head_at b i) n sw) (part (head_at b i) n sc)) e

  module _ (some : 0 < len_at b i) where
    pub head_in : head_at b i < all_places
    head_in = omega (arith, row-end b laid i in-six)

    -- leads of buckets 0 to 4 lie in the work space
    pub head-work : i < 5 → head_at b i < work_places
    head-work k = omega (arith, row-work-end b laid i in-six k)

    pub dropped-laid : Laid (dropped b i)
    dropped-laid =
        laid-moved b i (head_at b i + 1) (len_at b i - 1) laid in-six (omega (arith, laid.low i in-six)) (omega (arith, laid.high i in-six)) (omega (arith, laid.short i in-six))
        (λ k. ⊎_elim (λ u. inl (omega arith)) (λ u. inr (omega arith)) (laid.side-apart i k))

    module _ (sw sc : List ℕ) (hw : length sw ≡ all_places) (hc : length sc ≡ all_places) where
      pub bucket-lead : bucket_at b sw sc i ≡ term (get_or sw (head_at b i) 0) (get_or sc (head_at b i) 0) ∷ bucket_at (dropped b i) sw sc i
      bucket-lead =
          let h = head_at b i in
          let n = len_at b i in
          ap₂ terms (row-lead sw h n (omega (arith, head_in, hw)) some) (row-lead sc h n (omega (arith, head_in, hc)) some)
          ∙ ap₂ (λ (x y : ℕ). term (get_or sw h 0) (get_or sc h 0) ∷ terms (part x y sw) (part x y sc)) (sym (moved-head b i (h + 1) (n - 1) laid in-six)) (sym (moved-len b i (h + 1) (n - 1) laid in-six))

      pub dropped-other : (j : ℕ) → j < 6 → (j ≡ i → ⊥) → bucket_at (dropped b i) sw sc j ≡ bucket_at b sw sc j
      dropped-other = bucket-else b i (head_at b i + 1) (len_at b i - 1) laid in-six sw sc sw sc refl refl (λ m u. refl) (λ m u. refl)

      -- another coefficient is put at its lead
      pub put_other : (v j : ℕ) → j < 6 → (j ≡ i → ⊥) → bucket_at b sw (set sc (head_at b i) v) j ≡ bucket_at b sw sc j
      put_other v j k ne =
          let h = head_at b i in
          ap (λ (x : Buckets). bucket_at x sw (set sc h v) j) (sym moved_same)
          ∙ bucket-else b i h (len_at b i) laid in-six sw sc sw (set sc h v) refl (length-set sc h v) (λ m u. refl) (same-sets (zone i) (zone_end i) sc h (v ∷ []) (laid.low i in-six) (omega (arith, laid.high i in-six))) j k ne

      pub put-here : (v : ℕ) → bucket_at b sw (set sc (head_at b i) v) i ≡ term (get_or sw (head_at b i) 0) v ∷ bucket_at (dropped b i) sw sc i
      put-here v =
          let h = head_at b i in
          let n = len_at b i in
          let hv : length (set sc h v) ≡ all_places = length-set sc h v ∙ hc in
          ap₂ terms (row-lead sw h n (omega (arith, head_in, hw)) some) (row-lead (set sc h v) h n (omega (arith, head_in, hv)) some)
          ∙ (ap₂ (λ (x : ℕ) (y : List ℕ). term (get_or sw h 0) x ∷ terms (part (h + 1) (n - 1) sw) y) (get_or-set_same sc h v 0 (omega (arith, head_in, hc))) (part-frame sc h (v ∷ []) (h + 1) (n - 1) (inr (omega arith)))
          ∙ ap₂ (λ (x y : ℕ). term (get_or sw h 0) v ∷ terms (part x y sw) (part x y sc)) (sym (moved-head b i (h + 1) (n - 1) laid in-six)) (sym (moved-len b i (h + 1) (n - 1) laid in-six)))

-- ---- a bucket that is not empty, by its list
cons_head : {A : Type 0} {x y : A} {xs ys : List A} → x ∷ xs ≡ y ∷ ys → x ≡ y
cons_head {A} {x} e = ap (λ (l : List A). get_or l 0 x) e

cons_tail : {A : Type 0} {x y : A} {xs ys : List A} → x ∷ xs ≡ y ∷ ys → xs ≡ ys
cons_tail {A} e = ap (λ (l : List A). drop 1 l) e

module _ (b : Buckets) (i : ℕ) (laid : Laid b) (in-six : i < 6) (sw sc : List ℕ) (hw : length sw ≡ all_places) (hc : length sc ≡ all_places) (x : Term ℕ) (xs : List (Term ℕ)) (e : bucket_at b sw sc i ≡ x ∷ xs) where
  pub some_of : 0 < len_at b i
  some_of = omega (arith, bucket-long b laid i in-six sw sc hw hc, ap length e)

  pub lead-of : x ≡ term (get_or sw (head_at b i) 0) (get_or sc (head_at b i) 0)
  lead-of = cons_head (sym e ∙ bucket-lead b i laid in-six some_of sw sc hw hc)

  -- the bucket without its lead
  pub drop_here : bucket_at (dropped b i) sw sc i ≡ xs
  drop_here = sym (cons_tail (sym e ∙ bucket-lead b i laid in-six some_of sw sc hw hc))

  -- the bucket with another coefficient at its lead
  pub put-at : (v : ℕ) → bucket_at b sw (set sc (head_at b i) v) i ≡ term x.mono v ∷ xs
  put-at v = put-here b i laid in-six some_of sw sc hw hc v ∙ ap₂ (λ (m : ℕ) (l : List (Term ℕ)). term m v ∷ l) (ap (λ (t : Term ℕ). t.mono) (sym lead-of)) drop_here

-- ---- good buckets, by each of them
pub bucket-short : (b : Buckets) → Laid b → (sw sc : List ℕ) → length sw ≡ all_places → length sc ≡ all_places → (j : ℕ) → j < 6 → length (bucket_at b sw sc j) ≤ capacity j
bucket-short b laid sw sc hw hc j h = omega (arith, bucket-long b laid j h sw sc hw hc, laid.short j h)

module _ (cmp : ℕ → ℕ → Ordering) (p : ℕ) (g : ℕ → List (Term ℕ)) where
  pub canon-from : (k i : ℕ) → ((j : ℕ) → i ≤ j → j < i + k → Canonical cmp p (g j)) → Canon cmp p (list_from g i k)
  unfolding Canon list_from
  canon-from zero i h = tt
  canon-from (suc k) i h = (h i (omega arith) (omega arith), canon-from k (suc i) (λ j u w. h j (omega arith) (omega arith)))

  pub canon-at : (k i : ℕ) → Canon cmp p (list_from g i k) → (j : ℕ) → i ≤ j → j < i + k → Canonical cmp p (g j)
  unfolding Canon list_from
  canon-at zero i c j u w = absurd (let z : ⊥ = omega arith in z)
  canon-at (suc k) i c j u w = by (dec_le j i) (λ v. canon-at k (suc i) c.1 j v (omega arith))
    where
      by : Dec (j ≤ i) → (suc i ≤ j → Canonical cmp p (g j)) → Canonical cmp p (g j)
      by (yes v) r = subst (λ (x : ℕ). Canonical cmp p (g x)) (let e : i ≡ j = omega arith in e) c.0
      by (no v) r = r (omega arith)

  pub good-at : (k i cap : ℕ) → Good cmp p cap (list_from g i k) → (j : ℕ) → i ≤ j → j < i + k → Canonical cmp p (g j)
  good-at k i cap h = canon-at k i (good-canon cmp p cap (list_from g i k) h)

  pub good-from : (k i : ℕ) → Canon cmp p (list_from g i k) → ((j : ℕ) → i ≤ j → j < i + k → length (g j) ≤ capacity j) → Good cmp p (capacity i) (list_from g i k)
  unfolding Canon Good list_from
  good-from zero i c h = tt
  good-from (suc k) i c h = ((c.0, h i (omega arith) (omega arith)), subst (λ (q : ℕ). Good cmp p q (list_from g (suc i) k)) (next-capacity i) (good-from k (suc i) c.1 (λ j u w. h j (omega arith) (omega arith))))

pub held-short : (g : ℕ → List (Term ℕ)) (k i : ℕ) → ((j : ℕ) → i ≤ j → j < i + k → length (g j) ≤ capacity j) → start i + held (list_from g i k) ≤ start (i + k)
unfolding held list_from
held-short g zero i h = omega (arith, ap start (let e : i + 0 ≡ i = omega arith in e))
held-short g (suc k) i h = omega (arith, h i (omega arith) (omega arith), held-short g k (suc i) (λ j u w. h j (omega arith) (omega arith)), next_start i, ap start (let e : i + suc k ≡ suc i + k = omega arith in e))

-- ---- six empty buckets, whatever the spaces hold
each-six : (P : ℕ → Type 0) → P 0 → P 1 → P 2 → P 3 → P 4 → P 5 → (i : ℕ) → i < 6 → P i
each-six P a b c d e f zero h = a
each-six P a b c d e f (suc zero) h = b
each-six P a b c d e f (suc (suc zero)) h = c
each-six P a b c d e f (suc (suc (suc zero))) h = d
each-six P a b c d e f (suc (suc (suc (suc zero)))) h = e
each-six P a b c d e f (suc (suc (suc (suc (suc zero))))) h = f
each-six P a b c d e f (suc (suc (suc (suc (suc (suc i)))))) h = absurd (let z : ⊥ = omega arith in z)

each-five : (P : ℕ → Type 0) → P 0 → P 1 → P 2 → P 3 → P 4 → (i : ℕ) → i < 5 → P i
each-five P a b c d e i h = each-six (λ i. i < 5 → P i) (λ h. a) (λ h. b) (λ h. c) (λ h. d) (λ h. e) (λ h. absurd (let z : ⊥ = omega arith in z)) i (omega arith) h

pub laid_none : Laid no_buckets
unfolding start capacity zone zone_end
laid_none = record {
  eighteen = refl;
  low = each-six (λ i. zone i ≤ head_at no_buckets i) (omega arith) (omega arith) (omega arith) (omega arith) (omega arith) (omega arith);
  high = each-six (λ i. head_at no_buckets i + len_at no_buckets i ≤ zone_end i) (omega arith) (omega arith) (omega arith) (omega arith) (omega arith) (omega arith);
  short = each-six (λ i. len_at no_buckets i ≤ capacity i) (omega arith) (omega arith) (omega arith) (omega arith) (omega arith) (omega arith);
  side-is = each-five (λ i. (side_at no_buckets i ≡ zone i) ⊎ (side_at no_buckets i ≡ zone i + 2 * capacity i)) (inr refl) (inr refl) (inr refl) (inr refl) (inr refl);
  side-apart = each-five (λ i. Apart (head_at no_buckets i) (len_at no_buckets i) (side_at no_buckets i) (2 * capacity i)) (inl (omega arith)) (inl (omega arith)) (inl (omega arith)) (inl (omega arith)) (inl (omega arith));
}

pub lists-none : (sw sc : List ℕ) → buckets_in no_buckets sw sc ≡ empty
unfolding list_from
lists-none sw sc = refl

good_none : (cmp : ℕ → ℕ → Ordering) (p : ℕ) → Good cmp p 4 empty
unfolding Good
good_none cmp p = (blank 4, (blank (4 * 4), (blank (4 * (4 * 4)), (blank (4 * (4 * (4 * 4))), (blank (4 * (4 * (4 * (4 * 4)))), (blank (4 * (4 * (4 * (4 * (4 * 4))))), tt))))))
  where
    blank : (cap : ℕ) → Canonical cmp p [] × (length {A = Term ℕ} [] ≤ cap)
    blank cap = (record { falling = tt; reduced = tt }, let z : 0 ≤ cap = omega arith in z)

pub stands-none : (cmp : ℕ → ℕ → Ordering) (p : ℕ) (sw sc : List ℕ) → Modulus p → length sw ≡ all_places → length sc ≡ all_places → Stands cmp p no_buckets sw sc
stands-none cmp p sw sc m hw hc = record { modulus = m; words_long = hw; coefs-long = hc; laid = laid_none; good = subst (Good cmp p 4) (sym (lists-none sw sc)) (good_none cmp p) }

-- ---- the terms held, by the lengths
pub held-lens : (b : Buckets) → Laid b → (sw sc : List ℕ) → length sw ≡ all_places → length sc ≡ all_places → held (buckets_in b sw sc) ≡ held_in b
unfolding held list_from
held-lens b laid sw sc hw hc =
    let at : (i : ℕ) → i < 6 → length (bucket_at b sw sc i) ≡ len_at b i = λ i h. bucket-long b laid i h sw sc hw hc in
    omega (arith, at 0 (omega arith), at 1 (omega arith), at 2 (omega arith), at 3 (omega arith), at 4 (omega arith), at 5 (omega arith))

len-small : (b : Buckets) → Laid b → (i : ℕ) → i < 6 → len_at b i ≤ bucket_places
len-small b laid i h = omega (arith, laid.short i h, cap-small i h)

pub held_small : (b : Buckets) → Laid b → held_in b ≤ 6 * bucket_places
held_small b laid =
    let n = len-small b laid in
    omega (arith, n 0 (omega arith), n 1 (omega arith), n 2 (omega arith), n 3 (omega arith), n 4 (omega arith), n 5 (omega arith))
