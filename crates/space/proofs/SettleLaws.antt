-- The bucket space as it is settled at return, one bucket after the other, over lists alone. Words and coefficients have the same laws. Assumes nothing.
use Prim.Native.Nat.{ℕ, zero, suc, ◌+◌, ◌-◌, ◌*◌, ◌≤◌, ◌<◌}
use mathlib.Core.Path.{◌≡◌, refl, sym, ap, ap₂, ◌∙◌}
use mathlib.Core.List.{List, [], ◌∷◌, ◌++◌, map, append_assoc}
use native.Mathlib.Nat.{zero-add}
use native.Mathlib.Omega.{arith}
use lib.ListN.{length, take, drop, replicate, length-append, length-map, length-replicate}
use lib.Seq.{sets, length-sets}
use Rattle.limits.specs.Limits.{bucket_places, work_places}
use Rattle.monomial.specs.declared.order.Order.{Order}
use Rattle.wide_monomial.specs.declared.width.Width.{Width}
use Rattle.place.specs.Numbers.{from_key_by}
use Rattle.polynomial.specs.Terms.{Term, words, coefs, renamed}
use Rattle.polynomial.proofs.TermLists.{words-terms, coefs-terms}
use Rattle.polynomial.proofs.Renaming.{words-renamed, coefs-renamed}
use Rattle.merge_common.proofs.Lists.{sets-append}
use Rattle.space.specs.Space.{Buckets, head_at, len_at, Laid, capacity, start, list_from, laid_out, row_at, bucket_at, spaces, words_by, settled, AtReturn}
use Rattle.space.proofs.SpaceLaws.{put_all, row_of, row-long, row-work-end, row-work}
use Rattle.space.proofs.Starts.{next_start, next-capacity, ends-within}
use Rattle.space.proofs.Joined.{joined-long}

-- read through nothing, they are as they were
pub as_read : (l : List ℕ) → l ≡ map (λ (c : ℕ). c) l
as_read [] = refl
as_read (a ∷ l) = ap (λ (x : List ℕ). a ∷ x) (as_read l)

pub as-it-is : {o : List ℕ} (s : List ℕ) (at : ℕ) (v : List ℕ) → o ≡ sets s at (map (λ (c : ℕ). c) v) → o ≡ sets s at v
as-it-is s at v e = e ∙ ap (sets s at) (sym (as_read v))

-- ---- the bucket space with the first i buckets settled

-- all places were w and s₀, and the bucket space is s; the first i buckets are settled in the places before `at`, and cap is the next one's capacity
pub record Settling (f : ℕ → ℕ) (b : Buckets) (w s₀ s : List ℕ) (i at cap : ℕ) : Type 0 where
  pub starts : at ≡ start i
  pub holds : cap ≡ capacity i
  pub long : length s ≡ bucket_places
  pub done : List ℕ
  pub done-long : length done ≡ at
  pub whole : done ++ laid_out cap (list_from (λ j. map f (row_at b (w ++ s₀) j)) i (6 - i)) ≡ settled f b (w ++ s₀)
  pub is : s ≡ sets s₀ 0 done

pub settling-none : (f : ℕ → ℕ) (b : Buckets) (w s : List ℕ) → length s ≡ bucket_places → Settling f b w s s 0 0 4
unfolding start capacity
settling-none f b w s e = record { starts = refl; holds = refl; long = e; done = []; done-long = refl; whole = refl; is = refl }

-- n numbers fit into the bucket space from `at` on, with cap places
pub record Fits (at cap n : ℕ) : Type 0 where
  pub room : n ≤ cap
  pub ends : at + cap ≤ bucket_places

-- the rows from i on begin with row i
rows_left : (cap : ℕ) (f : ℕ → List ℕ) (i n : ℕ) → i < 6 → length (f i) ≡ n
    → laid_out cap (list_from f i (6 - i)) ≡ (f i ++ replicate (cap - n) 0) ++ laid_out (cap * 4) (list_from f (i + 1) (6 - (i + 1)))
unfolding laid_out list_from
rows_left cap f i n h e =
    let left : 6 - i ≡ suc (6 - (i + 1)) = omega arith in
    let next : suc i ≡ i + 1 = omega arith in
    let four : 4 * cap ≡ cap * 4 = omega arith in
    ap (λ (k : ℕ). laid_out cap (list_from f i k)) left
    ∙ (ap₂ (λ (k m : ℕ). f i ++ (replicate (cap - k) 0 ++ laid_out (4 * cap) (list_from f m (6 - (i + 1))))) e next
    ∙ (ap (λ (m : ℕ). f i ++ (replicate (cap - n) 0 ++ laid_out m (list_from f (i + 1) (6 - (i + 1))))) four
    ∙ sym (append_assoc (f i) (replicate (cap - n) 0) (laid_out (cap * 4) (list_from f (i + 1) (6 - (i + 1)))))))

module _ {f : ℕ → ℕ} {b : Buckets} {w s₀ s : List ℕ} {i at cap : ℕ} (g : Settling f b w s₀ s i at cap) (l : Laid b) (lw : length w ≡ work_places) (e : length s₀ ≡ bucket_places) where
  -- bucket i fits where it is settled
  pub fits : i < 6 → {n : ℕ} → n ≡ len_at b i → Fits at cap n
  fits h en =
      let sh = l.short i h in
      let x = ends-within i h in
      let a = g.starts in
      let k = g.holds in
      record { room = omega arith; ends = omega arith }

  -- a turn: the bucket's numbers are put where it starts, and 0 past them
  turn : i < 6 → {n : ℕ} → n ≡ len_at b i → {s₁ s₂ : List ℕ} → s₁ ≡ sets s at (map f (row_at b (w ++ s₀) i)) → s₂ ≡ sets s₁ (at + n) (replicate (cap - n) 0)
      → Settling f b w s₀ s₂ (i + 1) (at + cap) (cap * 4)
  turn h {n} en {s₁} {s₂} e₁ e₂ =
      let r = fits h en in
      let row : List ℕ = map f (row_at b (w ++ s₀) i) in
      let zeros : List ℕ = replicate (cap - n) 0 in
      let long : length row ≡ n = length-map (row_at b (w ++ s₀) i) f ∙ (row-long b l i h (w ++ s₀) (joined-long w s₀ lw e) ∙ sym en) in
      let zeros-long : length zeros ≡ cap - n = length-replicate (cap - n) 0 in
      let next : suc i ≡ i + 1 = omega arith in
      let more : List ℕ = row ++ zeros in
      record {
        starts = omega (arith, ap start next, next_start i, g.starts, g.holds);
        holds = omega (arith, ap capacity next, next-capacity i, g.holds);
        long = ap length e₂ ∙ (length-sets s₁ (at + n) zeros ∙ (ap length e₁ ∙ (length-sets s at row ∙ g.long)));
        done = g.done ++ more;
        done-long = omega (arith, length-append g.done more, length-append row zeros, g.done-long, r.room);
        whole = append_assoc g.done more (laid_out (cap * 4) (list_from (λ j. map f (row_at b (w ++ s₀) j)) (i + 1) (6 - (i + 1)))) ∙ (ap (λ (x : List ℕ). g.done ++ x) (sym (rows_left cap (λ j. map f (row_at b (w ++ s₀) j)) i n h long)) ∙ g.whole);
        is =
            e₂
            ∙ (ap (λ (x : List ℕ). sets x (at + n) zeros) e₁
            ∙ (ap (λ (k : ℕ). sets (sets s at row) (at + k) zeros) (sym long)
            ∙ (sym (sets-append s at row zeros)
            ∙ (ap₂ (λ (x : List ℕ) (k : ℕ). sets x k more) g.is (sym g.done-long ∙ sym (zero-add (length g.done)))
            ∙ sym (sets-append s₀ 0 g.done more)))));
      }

  -- a bucket of the work space
  pub within : i < 5 → {h n : ℕ} → h ≡ head_at b i → n ≡ len_at b i → h + n ≤ work_places
  within k eh en = omega (arith, row-work-end b l i (omega arith) k)

  -- v is how the code reads a row: each number through f
  pub settling-more : i < 5 → {h n : ℕ} → h ≡ head_at b i → n ≡ len_at b i → {v : List ℕ → List ℕ} → ((r : List ℕ) → v r ≡ map f r) → {s₁ s₂ : List ℕ} → s₁ ≡ sets s at (v (take (h + n - h) (drop h w))) → s₂ ≡ sets s₁ (at + n) (replicate (cap - n) 0)
      → Settling f b w s₀ s₂ (i + 1) (at + cap) (cap * 4)
  settling-more k eh en ev d₁ d₂ = turn (omega arith) en (d₁ ∙ ap (sets s at) (ev _ ∙ ap (map f) (row_of b i eh en w ∙ sym (row-work b l i (omega arith) k w s₀ lw)))) d₂

-- ---- the spaces at return
all-zero : (l : List ℕ) (n : ℕ) → length l ≡ n → sets l 0 (replicate n 0) ≡ replicate n 0
all-zero l n e = put_all l (replicate n 0) (length-replicate n 0 ∙ sym e)

map-from : (f : List (Term ℕ) → List ℕ) (u : List (Term ℕ) → List (Term ℕ)) (g : ℕ → List (Term ℕ)) (r : ℕ → List ℕ) (i k : ℕ) → ((j : ℕ) → j < i + k → f (u (g j)) ≡ r j) → list_from r i k ≡ map f (map u (list_from g i k))
unfolding list_from
map-from f u g r i zero h = refl
map-from f u g r i (suc k) h = ap₂ (λ (x : List ℕ) (y : List (List ℕ)). x ∷ y) (sym (h i (omega arith))) (map-from f u g r (suc i) k (λ j l. h j (omega arith)))

module _ (w : Width) (o : Order) (b : Buckets) (sw sc ww wc : List ℕ) (l : Laid b) (ew : length sw ≡ bucket_places) (ec : length sc ≡ bucket_places) (lw : length ww ≡ work_places) (lc : length wc ≡ work_places) where
  same-long : (i : ℕ) → i < 6 → length (row_at b (wc ++ sc) i) ≡ length (row_at b (ww ++ sw) i)
  same-long i h = row-long b l i h (wc ++ sc) (joined-long wc sc lc ec) ∙ sym (row-long b l i h (ww ++ sw) (joined-long ww sw lw ew))

  pub at_return : (n : ℕ) → n ≡ work_places → (zw : List ℕ) → length zw ≡ work_places → {sw' sc' ww' wc' : List ℕ} → sw' ≡ settled (from_key_by w o) b (ww ++ sw) → sc' ≡ settled (λ c. c) b (wc ++ sc) → ww' ≡ sets zw 0 (replicate n 0) → wc' ≡ replicate n 0
      → AtReturn (words_by w o (spaces b ww wc sw sc)) sw' sc' ww' wc'
  at_return n en zw lz e₁ e₂ e₃ e₄ =
      let f : ℕ → ℕ = from_key_by w o in
      let ks : List ℕ = ww ++ sw in
      let cs : List ℕ = wc ++ sc in
      record {
        words_are =
            e₁ ∙ ap (laid_out 4) (map-from words (renamed f) (bucket_at b ks cs) (λ j. map f (row_at b ks j)) 0 6 (λ j h. words-renamed f (bucket_at b ks cs j) ∙ ap (map f) (words-terms (row_at b ks j) (row_at b cs j) (same-long j h))));
        coefs-are =
            e₂ ∙ ap (laid_out 4) (map-from coefs (renamed f) (bucket_at b ks cs) (λ j. map (λ (c : ℕ). c) (row_at b cs j)) 0 6 (λ j h. coefs-renamed f (bucket_at b ks cs j) ∙ (coefs-terms (row_at b ks j) (row_at b cs j) (same-long j h) ∙ as_read (row_at b cs j))));
        work-words = e₃ ∙ (all-zero zw n (lz ∙ sym en) ∙ ap (λ (k : ℕ). replicate k 0) en);
        work-coefs = e₄ ∙ ap (λ (k : ℕ). replicate k 0) en;
      }
