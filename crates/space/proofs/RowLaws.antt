-- The bucket space at return in two parts, its last bucket settled before the others: what a slice of words holds is then never read as keys. Assumes nothing.
use Prim.Native.Nat.{ℕ, ◌+◌, ◌-◌, ◌<◌, ◌≤◌}
use mathlib.Core.Path.{◌≡◌, refl, sym, ap, ap₂, ◌∙◌}
use mathlib.Core.List.{List, [], ◌++◌, map, append-nil, append_assoc}
use native.Mathlib.Omega.{arith}
use lib.ListN.{length, take, drop, replicate, length-append, length-map, length-replicate, drop_of_length-le}
use lib.Seq.{sets, length-sets, sets-eq, take_at, drop_at, length-take-le}
use Rattle.limits.specs.Limits.{bucket_places, work_places, most_terms}
use Rattle.merge_common.specs.Lent.{part}
use Rattle.merge_common.proofs.Lists.{sets-append, length_part}
use Rattle.space.specs.Space.{Buckets, head_at, len_at, Laid, capacity, start, list_from, laid_out, row_at, padded, settled}
use Rattle.space.proofs.SpaceLaws.{from-same, row-work, row-space, row-work-end, row-end}
use Rattle.space.proofs.Starts.{five, cap-last, zone-five}
use Rattle.space.proofs.SettleLaws.{Settling}
use Rattle.space.specs.Rows.{last_start, first_rows, last_row}

-- ---- six rows are the first five and the last
laid-six : (r : ℕ → List ℕ) → laid_out 4 (list_from r 0 6) ≡ laid_out 4 (list_from r 0 5) ++ padded 4096 (r 5)
unfolding laid_out list_from
laid-six r = simp (append_assoc, append-nil)

laid-five-long : (r : ℕ → List ℕ) → length (r 0) ≤ 4 → length (r 1) ≤ 16 → length (r 2) ≤ 64 → length (r 3) ≤ 256 → length (r 4) ≤ 1024 → length (laid_out 4 (list_from r 0 5)) ≡ 1364
unfolding laid_out list_from
laid-five-long r a b c d e = simp (length-append, length-replicate) (omega arith)

short_row : (b : Buckets) → Laid b → (f : ℕ → ℕ) (w : List ℕ) → length w ≡ work_places → (i : ℕ) → i < 5 → length (map f (row_at b w i)) ≤ capacity i
short_row b l f w lw i h = omega (arith, length-map (row_at b w i) f, length_part (head_at b i) (len_at b i) w (omega (arith, row-work-end b l i (omega arith) h)), l.short i (omega arith))

module _ (f : ℕ → ℕ) (b : Buckets) (l : Laid b) (w : List ℕ) (lw : length w ≡ work_places) where
  pub first-long : length (first_rows f b w) ≡ last_start
  unfolding capacity
  first-long =
      laid-five-long (λ i. map f (row_at b w i)) (short_row b l f w lw 0 (omega arith)) (short_row b l f w lw 1 (omega arith)) (short_row b l f w lw 2 (omega arith)) (short_row b l f w lw 3 (omega arith)) (short_row b l f w lw 4 (omega arith))

  settled-parts : (k : List ℕ) → settled f b (w ++ k) ≡ first_rows f b w ++ last_row f b k
  settled-parts k =
      laid-six (λ i. map f (row_at b (w ++ k) i))
      ∙ ap₂ (λ (x y : List ℕ). x ++ padded most_terms y)
      (ap (laid_out 4) (from-same (λ i. map f (row_at b (w ++ k) i)) (λ i. map f (row_at b w i)) 0 5 (λ j lo hi. ap (map f) (row-work b l j (omega arith) (omega arith) w k lw))))
      (ap (map f) (row-space b l 5 (omega arith) (omega arith) w k lw))

  -- the last bucket, and then the others
  pub settled-both : (y k : List ℕ) → length y ≡ bucket_places → length (last_row f b k) ≡ most_terms → sets (sets y last_start (last_row f b k)) 0 (first_rows f b w) ≡ settled f b (w ++ k)
  settled-both y k ly lk =
      let p : List ℕ = first_rows f b w in
      let q : List ℕ = last_row f b k in
      let o : List ℕ = sets y last_start q in
      let none : drop (last_start + length q) y ≡ [] = drop_of_length-le y {i = last_start + length q} (omega arith) in
      let past : drop (0 + length p) o ≡ q =
      ap₂ (λ (n : ℕ) (x : List ℕ). drop n x) (let e : 0 + length p ≡ last_start = omega (arith, first-long) in e) (sets-eq q y last_start (omega arith) ∙ append_assoc (take last_start y) q (drop (last_start + length q) y))
      ∙ (drop_at (take last_start y) (q ++ drop (last_start + length q) y) last_start (length-take-le last_start y (omega arith)) ∙ (ap (λ (x : List ℕ). q ++ x) none ∙ append-nil q)) in
      sets-eq p o 0 (omega (arith, first-long, length-sets y last_start q)) ∙ (ap (λ (x : List ℕ). p ++ x) past ∙ sym (settled-parts k))

  -- after five turns the first five are put
  pub settled-first : {x s : List ℕ} {i at cap : ℕ} → Settling f b w x s i at cap → i ≡ 5 → s ≡ sets x 0 (first_rows f b w)
  settled-first {x} {s} {i} {at} {cap} g e =
      let a = g.starts in
      let c = ap start e in
      let d : length g.done ≡ last_start = omega (arith, g.done-long, five) in
      g.is
      ∙ ap (sets x 0)
      (sym (take_at g.done (laid_out cap (list_from (λ j. map f (row_at b (w ++ x) j)) i (6 - i))) last_start d)
      ∙ (ap (take last_start) (g.whole ∙ settled-parts x) ∙ take_at (first_rows f b w) (last_row f b x) last_start first-long))

-- ---- the last bucket lies in the bucket space, and fits into its place
pub record LastAt (b : Buckets) (h n : ℕ) : Type 0 where
  pub past : work_places ≤ h
  pub low : last_start ≤ h - work_places
  pub ends : h - work_places + n ≤ bucket_places
  pub short : n ≤ most_terms

pub last-place : (b : Buckets) → Laid b → {h n : ℕ} → h ≡ head_at b 5 → n ≡ len_at b 5 → LastAt b h n
last-place b l {h} {n} eh en =
    let lo = l.low 5 (omega arith) in
    let hi = row-end b l 5 (omega arith) in
    let z = zone-five in
    let s = l.short 5 (omega arith) in
    let c = cap-last in
    record { past = omega arith; low = omega arith; ends = omega arith; short = omega arith }

-- row 5 put, and 0 past it
pub last-put : (f : ℕ → ℕ) (b : Buckets) → Laid b → {h n : ℕ} → h ≡ head_at b 5 → n ≡ len_at b 5 → (k y : List ℕ) → length k ≡ bucket_places → {s s' : List ℕ} → s ≡ sets y last_start (map f (part (h - work_places) n k)) → s' ≡ sets s (last_start + n) (replicate (most_terms - n) 0) → s' ≡ sets y last_start (last_row f b k)
last-put f b l {h} {n} eh en k y lk {s} {s'} d₁ d₂ =
    let t = last-place b l eh en in
    let row : List ℕ = map f (part (h - work_places) n k) in
    let long : length row ≡ n = length-map (part (h - work_places) n k) f ∙ length_part (h - work_places) n k (omega (arith, t.ends)) in
    d₂
    ∙ (ap₂ (λ (x : List ℕ) (m : ℕ). sets x (last_start + m) (replicate (most_terms - m) 0)) d₁ (sym long)
    ∙ (sym (sets-append y last_start row (replicate (most_terms - length row) 0))
    ∙ ap₂ (λ (i m : ℕ). sets y last_start (padded most_terms (map f (part (i - work_places) m k)))) eh en))

pub last-long : (f : ℕ → ℕ) (b : Buckets) → Laid b → (k : List ℕ) → length k ≡ bucket_places → length (last_row f b k) ≡ most_terms
last-long f b l k lk =
    let t = last-place b l refl refl in
    let q : List ℕ = part (head_at b 5 - work_places) (len_at b 5) k in
    omega (arith, length-append (map f q) (replicate (most_terms - length (map f q)) 0), length-replicate {A = ℕ} (most_terms - length (map f q)) 0, length-map q f, length_part (head_at b 5 - work_places) (len_at b 5) k (omega (arith, t.ends)), t.short)

-- what the last bucket and then the others leave
pub settled-whole : (f : ℕ → ℕ) (b : Buckets) → Laid b → (w y k : List ℕ) → length w ≡ work_places → length y ≡ bucket_places → length k ≡ bucket_places → {s s' : List ℕ} → s ≡ sets y last_start (last_row f b k) → s' ≡ sets s 0 (first_rows f b w) → s' ≡ settled f b (w ++ k)
settled-whole f b l w y k lw ly lk d₁ d₂ = d₂ ∙ (ap (λ (x : List ℕ). sets x 0 (first_rows f b w)) d₁ ∙ settled-both f b l w lw y k ly (last-long f b l k lk))
