-- Places of one word or two put to an earlier place as words: the laws are over the numbers that lie at them. Assumes nothing.
use Prim.Native.Nat.{ℕ, ◌+◌, ◌≤◌, ◌<◌}
use mathlib.Core.Path.{◌≡◌, sym, ap, ◌∙◌}
use mathlib.Core.List.{List, map}
use native.Mathlib.Omega.{arith}
use lib.ListN.{length, get_or, set, length-map, length-set}
use lib.Seq.{get_or-set_other}
use Rattle.merge_common.specs.Lent.{part}
use Rattle.merge_common.proofs.Lists.{Begun, begun_more, length_part, get_d_part, get_d-each}

-- ---- n numbers of kl put to an earlier place of wl, each read through f, which makes them ko and wo: the places written are all before the one that is read
pub record Pulled (f : ℕ → ℕ) (kl wl : List ℕ) (from to n : ℕ) (ko wo : List ℕ) (i : ℕ) : Type 0 where
  pub put : Begun (map f (part from n kl)) wl to wo i
  pub past : (k : ℕ) → to + i ≤ k → get_or ko k 0 ≡ get_or kl k 0
  pub long : length ko ≡ length kl

module _ {f : ℕ → ℕ} {kl wl : List ℕ} {from to n : ℕ} {ko wo : List ℕ} {i : ℕ} (p : Pulled f kl wl from to n ko wo i) (room : from + n ≤ length kl) where
  all-long : length (map f (part from n kl)) ≡ n
  all-long = length-map (part from n kl) f ∙ length_part from n kl room

  pub pulled-more : to ≤ from → i < n → {x : ℕ} (y : ℕ) {v : ℕ} → x ≡ get_or ko (from + i) 0 → v ≡ f x → {ko' wo' : List ℕ} → ko' ≡ set ko (to + i) y → wo' ≡ set wo (to + i) v → Pulled f kl wl from to n ko' wo' (i + 1)
  pulled-more le k {x} y {v} ex ev {ko'} {wo'} ek ew =
      let q : List ℕ = part from n kl in
      let reads : x ≡ get_or q i 0 = ex ∙ (p.past (from + i) (omega arith) ∙ sym (get_d_part from n kl i k)) in
      let here : v ≡ get_or (map f q) i 0 = ev ∙ (ap f reads ∙ sym (get_d-each f q i (omega (arith, length_part from n kl room)))) in
      record {
        put = rw ew (begun_more (map f q) wl to wo i v p.put (omega (arith, all-long)) here);
        past = λ j r. ap (λ (l : List ℕ). get_or l j 0) ek ∙ (get_or-set_other ko (to + i) j y 0 (λ z. omega arith) ∙ p.past j (omega arith));
        long = ap length ek ∙ (length-set ko (to + i) y ∙ p.long);
      }
