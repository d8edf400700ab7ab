-- The buckets in the two slices: those of the work space, and the last one in the bucket space. Assumes nothing.
use mathlib.Core.Path.{◌≡◌, ap, ap₂, ◌∙◌, subst}
use mathlib.Core.List.{List, ◌∷◌, ◌++◌}
use Prim.Native.Nat.{ℕ, suc, ◌-◌, ◌<◌, ◌≤◌, compare}
use native.Mathlib.Decide.{dec_le}
use native.Mathlib.Omega.{arith}
use lib.ListN.{length}
use Rattle.residue.specs.Modular.{Modulus}
use Rattle.polynomial.specs.Terms.{terms, Canonical}
use Rattle.geobucket.specs.Buckets.{Good}
use Rattle.space.specs.Space.{Buckets, all_places, list_from, bucket_at, buckets_in, Laid, Stands, Slices}
use Rattle.space.proofs.Starts.{cap-zero}
use Rattle.space.proofs.Joined.{joined-long}
use Rattle.space.proofs.SpaceLaws.{row-work, row-space, good-at, canon-from, good-from, bucket-short, from_next}
use Rattle.buckets.specs.Last.{last_at}

-- one of buckets 0 to 4 lies in the work space
pub in-work : (b : Buckets) → Laid b → (i : ℕ) → i < 5 → {ww wc sw sc : List ℕ} → Slices ww wc sw sc → bucket_at b (ww ++ sw) (wc ++ sc) i ≡ bucket_at b ww wc i
in-work b laid i h {ww} {wc} {sw} {sc} q = ap₂ terms (row-work b laid i (omega arith) h ww sw q.work-words) (row-work b laid i (omega arith) h wc sc q.work-coefs)

-- the last one lies in the bucket space
pub in-space : (b : Buckets) → Laid b → {ww wc sw sc : List ℕ} → Slices ww wc sw sc → bucket_at b (ww ++ sw) (wc ++ sc) 5 ≡ last_at b sw sc
in-space b laid {ww} {wc} {sw} {sc} q = ap₂ terms (row-space b laid 5 (omega arith) (omega arith) ww sw q.work-words) (row-space b laid 5 (omega arith) (omega arith) wc sc q.work-coefs)

pub all-long : {ww wc sw sc : List ℕ} → Slices ww wc sw sc → (length (ww ++ sw) ≡ all_places) × (length (wc ++ sc) ≡ all_places)
all-long {ww} {wc} {sw} {sc} s = (joined-long ww sw s.work-words s.words_long, joined-long wc sc s.work-coefs s.coefs-long)

-- buckets that are canonical and lie in the spaces are good
pub stands_of : {p : ℕ} {b : Buckets} {sw sc : List ℕ} → Modulus p → length sw ≡ all_places → length sc ≡ all_places → Laid b → ((j : ℕ) → j < 6 → Canonical compare p (bucket_at b sw sc j)) → Stands compare p b sw sc
stands_of {p} {b} {sw} {sc} m hw hc l c = record {
  modulus = m;
  words_long = hw;
  coefs-long = hc;
  laid = l;
  good = subst (λ (q : ℕ). Good compare p q (buckets_in b sw sc)) cap-zero (good-from compare p (bucket_at b sw sc) 6 0 (canon-from compare p (bucket_at b sw sc) 6 0 (λ j u w. c j (omega arith))) (λ j u w. bucket-short b l sw sc hw hc j (omega arith)));
}

pub canon-of : {p : ℕ} {b : Buckets} {sw sc : List ℕ} → Stands compare p b sw sc → (j : ℕ) → j < 6 → Canonical compare p (bucket_at b sw sc j)
canon-of {p} {b} {sw} {sc} s j h = good-at compare p (bucket_at b sw sc) 6 0 4 s.good j (omega arith) (omega arith)

-- the buckets from i on begin with bucket i
pub from-here : {A : Type 0} (g : ℕ → A) (i : ℕ) → i < 6 → list_from g i (6 - i) ≡ g i ∷ list_from g (suc i) (6 - suc i)
from-here g i h = ap (list_from g i) (let e : 6 - i ≡ suc (6 - suc i) = omega arith in e) ∙ from_next g i (6 - suc i)

-- what holds of bucket i and of all others holds of each
pub each-by : (P : ℕ → Type 0) (i : ℕ) → P i → ((j : ℕ) → j < 6 → (j ≡ i → ⊥) → P j) → (j : ℕ) → j < 6 → P j
each-by P i own other j h = by (dec_le j i) (dec_le i j)
  where
    by : Dec (j ≤ i) → Dec (i ≤ j) → P j
    by (yes u) (yes w) = subst P (let e : i ≡ j = omega arith in e) own
    by (no u) w = other j h (λ e. let z : ⊥ = omega arith in z)
    by (yes u) (no w) = other j h (λ e. let z : ⊥ = omega arith in z)
