-- Lists of two numbers to a place, whatever puts the two together. Assumes nothing.
use mathlib.Core.Path.{◌≡◌, refl, sym, ap, ap₂, ◌∙◌}
use mathlib.Core.List.{List, [], ◌∷◌, ◌++◌, map}
use Prim.Native.Nat.{ℕ, zero, suc, ◌+◌, ◌-◌, ◌*◌, ◌^◌, ◌<◌, ◌≤◌}
use native.Mathlib.Omega.{arith}
use lib.ListN.{length, get_or, take, drop, set, length-set}
use lib.Seq.{sets}
use Rattle.place.specs.Numbers.{pairs_by}

double : (k : ℕ) → 2 * suc k ≡ suc (suc (2 * k))
double k = omega arith

double-next : (k : ℕ) → 2 * suc k + 1 ≡ suc (suc (2 * k + 1))
double-next k = omega arith

module _ (f : ℕ → ℕ → ℕ) where
  -- ---- how many places there are
  pub length_pairs : (ws : List ℕ) → (2 * length (pairs_by f ws) ≤ length ws) × (length ws ≤ 2 * length (pairs_by f ws) + 1)
  unfolding pairs_by
  length_pairs [] = (omega arith, omega arith)
  length_pairs (a ∷ []) = (omega arith, omega arith)
  length_pairs (a ∷ (b ∷ ws)) = (omega (arith, length_pairs ws), omega (arith, length_pairs ws))

  pub pairs-long : (ws : List ℕ) (n : ℕ) → length ws ≡ 2 * n → length (pairs_by f ws) ≡ n
  pairs-long ws n h = omega (arith, length_pairs ws)

  pub pairs-whole : (ws vs : List ℕ) → length ws ≡ length vs → length (pairs_by f ws) ≡ length (pairs_by f vs)
  pairs-whole ws vs e = omega (arith, length_pairs ws, length_pairs vs)

  -- ---- one place
  pub pair-at : (ws : List ℕ) (k : ℕ) → k < length (pairs_by f ws) → get_or (pairs_by f ws) k 0 ≡ f (get_or ws (2 * k) 0) (get_or ws (2 * k + 1) 0)
  unfolding pairs_by
  pair-at [] k h = absurd (let z : ⊥ = omega arith in z)
  pair-at (a ∷ []) k h = absurd (let z : ⊥ = omega arith in z)
  pair-at (a ∷ (b ∷ ws)) zero h = refl
  pair-at (a ∷ (b ∷ ws)) (suc k) h =
      pair-at ws k (let l : k < length (pairs_by f ws) = omega arith in l)
      ∙ ap₂ (λ (i j : ℕ). f (get_or (a ∷ (b ∷ ws)) i 0) (get_or (a ∷ (b ∷ ws)) j 0)) (sym (double k)) (sym (double-next k))

  -- a place is put
  pub pairs_set : (ws : List ℕ) (k a b : ℕ) → k < length (pairs_by f ws) → pairs_by f (set (set ws (2 * k) a) (2 * k + 1) b) ≡ set (pairs_by f ws) k (f a b)
  unfolding pairs_by
  pairs_set [] k a b h = absurd (let z : ⊥ = omega arith in z)
  pairs_set (x ∷ []) k a b h = absurd (let z : ⊥ = omega arith in z)
  pairs_set (x ∷ (y ∷ ws)) zero a b h = refl
  pairs_set (x ∷ (y ∷ ws)) (suc k) a b h =
      ap₂ (λ (i j : ℕ). pairs_by f (set (set (x ∷ (y ∷ ws)) i a) j b)) (double k) (double-next k)
      ∙ ap (λ (l : List ℕ). f x y ∷ l) (pairs_set ws k a b (let l : k < length (pairs_by f ws) = omega arith in l))

  -- ---- parts
  pub pairs-drop : (k : ℕ) (ws : List ℕ) → pairs_by f (drop (2 * k) ws) ≡ drop k (pairs_by f ws)
  unfolding pairs_by
  pairs-drop zero ws = refl
  pairs-drop (suc k) [] = ap (λ (n : ℕ). pairs_by f (drop n [])) (double k)
  pairs-drop (suc k) (a ∷ []) = ap (λ (n : ℕ). pairs_by f (drop n (a ∷ []))) (double k)
  pairs-drop (suc k) (a ∷ (b ∷ ws)) = ap (λ (n : ℕ). pairs_by f (drop n (a ∷ (b ∷ ws)))) (double k) ∙ pairs-drop k ws

  pub pairs-take : (k : ℕ) (ws : List ℕ) → pairs_by f (take (2 * k) ws) ≡ take k (pairs_by f ws)
  unfolding pairs_by
  pairs-take zero ws = refl
  pairs-take (suc k) [] = ap (λ (n : ℕ). pairs_by f (take n [])) (double k)
  pairs-take (suc k) (a ∷ []) = ap (λ (n : ℕ). pairs_by f (take n (a ∷ []))) (double k)
  pairs-take (suc k) (a ∷ (b ∷ ws)) = ap (λ (n : ℕ). pairs_by f (take n (a ∷ (b ∷ ws)))) (double k) ∙ ap (λ (l : List ℕ). f a b ∷ l) (pairs-take k ws)

  -- the n places from `from` on
  pub pairs-part : (from n : ℕ) (ws : List ℕ) → pairs_by f (take (2 * n) (drop (2 * from) ws)) ≡ take n (drop from (pairs_by f ws))
  pairs-part from n ws = pairs-take n (drop (2 * from) ws) ∙ ap (take n) (pairs-drop from ws)

  -- the places from `from` up to `to`, as a part of a slice is lent
  pub pairs-lent : (from to : ℕ) (ws : List ℕ) → pairs_by f (take (2 * to - 2 * from) (drop (2 * from) ws)) ≡ take (to - from) (drop from (pairs_by f ws))
  pairs-lent from to ws =
      ap (λ (n : ℕ). pairs_by f (take n (drop (2 * from) ws))) (let e : 2 * to - 2 * from ≡ 2 * (to - from) = omega arith in e)
      ∙ pairs-part from (to - from) ws

  -- ---- whole places are put, or follow each other
  pub pairs-sets : (ws : List ℕ) (k : ℕ) (vs : List ℕ) (n : ℕ) → length vs ≡ 2 * n → k + n ≤ length (pairs_by f ws) → pairs_by f (sets ws (2 * k) vs) ≡ sets (pairs_by f ws) k (pairs_by f vs)
  unfolding pairs_by
  pairs-sets ws k [] n e h = refl
  pairs-sets ws k (a ∷ []) n e h = absurd (let z : ⊥ = omega arith in z)
  pairs-sets ws k (a ∷ (b ∷ vs)) zero e h = absurd (let z : ⊥ = omega arith in z)
  pairs-sets ws k (a ∷ (b ∷ vs)) (suc n) e h =
      ap₂ (λ (i j : ℕ). pairs_by f (sets (set (set ws (2 * k) a) i b) j vs)) (let q : suc (2 * k) ≡ 2 * k + 1 = omega arith in q) (sym (double k))
      ∙ (pairs-sets (set (set ws (2 * k) a) (2 * k + 1) b) (suc k) vs n (omega arith) (room (pairs_set ws k a b (omega arith)))
      ∙ ap (λ (l : List ℕ). sets l (suc k) (pairs_by f vs)) (pairs_set ws k a b (omega arith)))
    where
      room : pairs_by f (set (set ws (2 * k) a) (2 * k + 1) b) ≡ set (pairs_by f ws) k (f a b) → suc k + n ≤ length (pairs_by f (set (set ws (2 * k) a) (2 * k + 1) b))
      room q = omega (arith, ap length q, length-set (pairs_by f ws) k (f a b), h)

  pub pairs-append : (us : List ℕ) (n : ℕ) (vs : List ℕ) → length us ≡ 2 * n → pairs_by f (us ++ vs) ≡ pairs_by f us ++ pairs_by f vs
  unfolding pairs_by
  pairs-append [] n vs e = refl
  pairs-append (a ∷ []) n vs e = absurd (let z : ⊥ = omega arith in z)
  pairs-append (a ∷ (b ∷ us)) zero vs e = absurd (let z : ⊥ = omega arith in z)
  pairs-append (a ∷ (b ∷ us)) (suc n) vs e = ap (λ (l : List ℕ). f a b ∷ l) (pairs-append us n vs (omega arith))

  -- ---- a function of each place
  pub pairs-map : (g : ℕ → ℕ) (ws : List ℕ) → map g (pairs_by f ws) ≡ pairs_by (λ a b. g (f a b)) ws
  unfolding pairs_by
  pairs-map g [] = refl
  pairs-map g (a ∷ []) = refl
  pairs-map g (a ∷ (b ∷ ws)) = ap (λ (l : List ℕ). g (f a b) ∷ l) (pairs-map g ws)

  -- what holds of two numbers of 64 bits put together holds of each place
  pub pairs-each : (P : ℕ → Type 0) → ((a b : ℕ) → a < 2 ^ 64 → b < 2 ^ 64 → P (f a b)) → (ws : List ℕ) → ((i : ℕ) → get_or ws i 0 < 2 ^ 64) → (k : ℕ) → k < length (pairs_by f ws) → P (get_or (pairs_by f ws) k 0)
  pairs-each P g ws h k l = rw (pair-at ws k l) (g (get_or ws (2 * k) 0) (get_or ws (2 * k + 1) 0) (h (2 * k)) (h (2 * k + 1)))

  -- ---- numbers of 64 bits are determined by their places
  pub pairs-one-to-one : ((a b c d : ℕ) → a < 2 ^ 64 → b < 2 ^ 64 → c < 2 ^ 64 → d < 2 ^ 64 → f a b ≡ f c d → (a ≡ c) × (b ≡ d)) → (n : ℕ) (us vs : List ℕ) → length us ≡ 2 * n → length vs ≡ 2 * n → ((i : ℕ) → get_or us i 0 < 2 ^ 64) → ((i : ℕ) → get_or vs i 0 < 2 ^ 64) → pairs_by f us ≡ pairs_by f vs → us ≡ vs
  unfolding pairs_by
  pairs-one-to-one one zero [] [] p q hu hv e = refl
  pairs-one-to-one one zero [] (c ∷ vs) p q hu hv e = absurd (let z : ⊥ = omega arith in z)
  pairs-one-to-one one zero (a ∷ us) vs p q hu hv e = absurd (let z : ⊥ = omega arith in z)
  pairs-one-to-one one (suc n) [] vs p q hu hv e = absurd (let z : ⊥ = omega arith in z)
  pairs-one-to-one one (suc n) (a ∷ []) vs p q hu hv e = absurd (let z : ⊥ = omega arith in z)
  pairs-one-to-one one (suc n) (a ∷ (b ∷ us)) [] p q hu hv e = absurd (let z : ⊥ = omega arith in z)
  pairs-one-to-one one (suc n) (a ∷ (b ∷ us)) (c ∷ []) p q hu hv e = absurd (let z : ⊥ = omega arith in z)
  pairs-one-to-one one (suc n) (a ∷ (b ∷ us)) (c ∷ (d ∷ vs)) p q hu hv e =
      let r = one a b c d (hu 0) (hu 1) (hv 0) (hv 1) (let k : f a b ≡ f c d = cc in k) in
      let t : us ≡ vs = pairs-one-to-one one n us vs (omega arith) (omega arith) (λ i. hu (suc (suc i))) (λ i. hv (suc (suc i))) (let k : pairs_by f us ≡ pairs_by f vs = cc in k) in
      ap₂ (λ (x : ℕ) (l : List ℕ). x ∷ l) r.0 (ap₂ (λ (x : ℕ) (l : List ℕ). x ∷ l) r.1 t)
