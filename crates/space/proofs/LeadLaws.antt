-- A bucket's lead, read and put in the slice that it lies in, is read and put in all places. Assumes nothing.
use Prim.Native.Nat.{ℕ, ◌-◌, ◌<◌, ◌≤◌}
use mathlib.Core.Path.{◌≡◌, sym, ap, ◌∙◌}
use mathlib.Core.List.{List, ◌++◌}
use native.Mathlib.Omega.{arith}
use lib.ListN.{length, get_or, set}
use Rattle.limits.specs.Limits.{bucket_places, work_places}
use Rattle.space.specs.Space.{Buckets, head_at, len_at, Laid}
use Rattle.space.proofs.SpaceLaws.{head_in, head-work, row-past}
use Rattle.space.proofs.Joined.{get_d-left, get_d_past, set-left, set_past}

-- what is asked to read or to put at a lead
abbrev pub Asked : Buckets → (l r : List ℕ) → ℕ → Type 0
Asked b l r i = Laid b × (i < 6) × (0 < len_at b i) × (length l ≡ work_places) × (length r ≡ bucket_places)

module _ (b : Buckets) (l r : List ℕ) (i : ℕ) (asked : Asked b l r i) {h : ℕ} (eh : h ≡ head_at b i) where
  module _ (k : i < 5) where
    pub in-work : h < work_places
    in-work = omega (arith, head-work b i asked.0 asked.1 asked.2 k)

    pub read-work : get_or l h 0 ≡ get_or (l ++ r) (head_at b i) 0
    read-work = sym (get_d-left l r h (omega (arith, in-work, asked.3))) ∙ ap (λ (x : ℕ). get_or (l ++ r) x 0) eh

    pub put-work : (v : ℕ) → set l h v ++ r ≡ set (l ++ r) (head_at b i) v
    put-work v = sym (set-left l r h v (omega (arith, in-work, asked.3))) ∙ ap (λ (x : ℕ). set (l ++ r) x v) eh

  module _ (k : 5 ≤ i) where
    pub past_work : work_places ≤ h
    past_work = omega (arith, row-past b asked.0 i asked.1 k)

    pub in-space : h - work_places < bucket_places
    in-space = omega (arith, past_work, head_in b i asked.0 asked.1 asked.2)

    pub read-space : get_or r (h - work_places) 0 ≡ get_or (l ++ r) (head_at b i) 0
    read-space = sym (get_d_past l r asked.3 h past_work) ∙ ap (λ (x : ℕ). get_or (l ++ r) x 0) eh

    pub put-space : (v : ℕ) → l ++ set r (h - work_places) v ≡ set (l ++ r) (head_at b i) v
    put-space v = sym (set_past l r asked.3 h past_work v) ∙ ap (λ (x : ℕ). set (l ++ r) x v) eh
