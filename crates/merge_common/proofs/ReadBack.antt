-- Parts of a list after stores. Assumes nothing.
use mathlib.Core.Path.{◌≡◌, sym, ap, ◌∙◌}
use mathlib.Core.List.{List, ◌++◌, append_assoc}
use Prim.Native.Nat.{ℕ, ◌+◌, ◌-◌, ◌<◌, ◌≤◌, min}
use native.Mathlib.Omega.{arith}
use lib.ListN.{length, take, drop, get_or, length-take, length-drop}
use lib.Seq.{sets, sets-eq, ext_get_or, drop_at, take-append_seam, length-take-le}
use Rattle.merge_common.specs.Lent.{part}
use Rattle.merge_common.proofs.Lists.{length_part, get_d_part}

-- what is put is read
pub part-sets : (l : List ℕ) (a : ℕ) (vs : List ℕ) → a + length vs ≤ length l → part a (length vs) (sets l a vs) ≡ vs
part-sets l a vs h =
    let rest : List ℕ = drop (a + length vs) l in
    ap (part a (length vs)) (sets-eq vs l a h ∙ append_assoc (take a l) vs rest)
    ∙ (ap (take (length vs)) (drop_at (take a l) (vs ++ rest) a (length-take-le a l (omega arith))) ∙ take-append_seam vs rest)

-- two parts with the same numbers
pub part-like : (l o : List ℕ) (a b n : ℕ) → a + n ≤ length l → b + n ≤ length o → ((t : ℕ) → t < n → get_or l (a + t) 0 ≡ get_or o (b + t) 0) → part a n l ≡ part b n o
part-like l o a b n ha hb q =
    let la : length (part a n l) ≡ n = length_part a n l ha in
    ext_get_or 0 (part a n l) (part b n o) (la ∙ sym (length_part b n o hb)) (λ t h. get_d_part a n l t (omega arith) ∙ (q t (omega arith) ∙ sym (get_d_part b n o t (omega arith))))

-- a part of which each place is the same
pub part_same : (s s' : List ℕ) (h n : ℕ) → length s' ≡ length s → ((i : ℕ) → h ≤ i → i < h + n → get_or s' i 0 ≡ get_or s i 0) → part h n s' ≡ part h n s
part_same s s' h n e f =
    let l : length (part h n s') ≡ length (part h n s) = length-take n (drop h s') ∙ (ap (min n) (length-drop h s' ∙ (ap (λ (m : ℕ). m - h) e ∙ sym (length-drop h s))) ∙ sym (length-take n (drop h s))) in
    ext_get_or 0 (part h n s') (part h n s) l
    (λ i k.
    let m : i < n = omega (arith, length-take n (drop h s')) in
    get_d_part h n s' i m ∙ (f (h + i) (omega arith) (omega arith) ∙ sym (get_d_part h n s i m)))
