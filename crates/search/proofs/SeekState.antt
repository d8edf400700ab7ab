-- A pass under way in the spaces: what each turn of the loop asks and leaves. Assumes nothing.
use mathlib.Core.Path.{◌≡◌, refl, sym, ap, ap₂, ◌∙◌, subst}
use mathlib.Core.Bool.{true, false}
use mathlib.Core.List.{List, ◌∷◌, ◌++◌}
use Prim.Native.Nat.{ℕ, zero, suc, ◌+◌, ◌-◌, ◌%◌, ◌<◌, ◌≤◌, Ordering}
use native.Mathlib.Nat.{mod-lt}
use native.Mathlib.Numerals.{add-one}
use native.Mathlib.Omega.{arith}
use borrow.Author.Tests.{eq-eqb, ne_eqb}
use lib.Dec.{eqb}
use lib.ListN.{length, get_or, set, length-set}
use Rattle.residue.specs.Modular.{Modulus}
use Rattle.monomial.specs.TotalOrder.{TotalOrder}
use Rattle.polynomial.specs.Terms.{Term, term, Reduced}
use Rattle.polynomial.specs.Merge.{keep}
use Rattle.polynomial.specs.Opening.{is_larger}
use Rattle.polynomial.proofs.MergeLaws.{turned_lt, turned-gt}
use Rattle.merge_common.specs.Lent.{flag}
use Rattle.merge_common.proofs.State.{more_by, less_by, same_by}
use Rattle.geobucket.specs.Search.{put_back}
use Rattle.space.specs.Space.{Buckets, all_places, head_at, len_at, list_from, bucket_at, Laid, Slices, moved, dropped}
use Rattle.space.proofs.SpaceLaws.{moved-head-other, moved_same, bucket-none, bucket-lead, dropped-laid, dropped-other, put_other, some_of, drop_here, put-at}
use Rattle.search.specs.declared.candidate.Candidate.{Candidate}
use Rattle.search.specs.Candidates.{passed_by, joined, replaced_by}
use Rattle.search.specs.Searching.{Removal, Seek, SeekDone, pass_from}
use Rattle.search.proofs.SeekLaws.{Seeking, seek-starts, goes-empty, goes-like, goes-past, goes-up, ends-lists, ends_at, ends-lead, ends-count}

pub record Seeks (cmp : ℕ → ℕ → Ordering) (p : ℕ) (G : List (List (Term ℕ))) (A : ℕ) (L : Term ℕ) (N : ℕ) (sw : List ℕ) (b : Buckets) (c : Candidate) (sc : List ℕ) (i : ℕ) : Type 0 where
  pub modulus : Modulus p
  pub words_long : length sw ≡ all_places
  pub coefs-long : length sc ≡ all_places
  pub laid : Laid b
  pub state : Seeking cmp p G A L N (bucket_at b sw sc) c.bucket i (term c.key c.coef) c.count
  pub ahead : (j : ℕ) → i ≤ j → j < 6 → Reduced p (bucket_at b sw sc j)
  pub small : c.coef < p
  pub few : c.count ≤ 100000 + i

-- slices of coefficients of which the places are put again
pub slices-kept : {ww wc sw sc wc' sc' : List ℕ} → Slices ww wc sw sc → length wc' ≡ length wc → length sc' ≡ length sc → Slices ww wc' sw sc'
slices-kept s ew ec = record { work-words = s.work-words; work-coefs = ew ∙ s.work-coefs; words_long = s.words_long; coefs-long = ec ∙ s.coefs-long }

-- ---- the start and the end of the loop
module _ {cmp : ℕ → ℕ → Ordering} {p : ℕ} {b : Buckets} {c : Candidate} {sw sc : List ℕ} (k : Seek cmp p b c sw sc) where
  abbrev pub lists : List (List (Term ℕ))
  lists = list_from (bucket_at b sw sc) 0 c.bucket ++ put_back (pass_from cmp p b c sw sc).at (pass_from cmp p b c sw sc).lead ((pass_from cmp p b c sw sc).own ∷ (pass_from cmp p b c sw sc).above)

  pub seeks-start : Seeks cmp p lists (c.bucket + (pass_from cmp p b c sw sc).at) (pass_from cmp p b c sw sc).lead (c.count + length (pass_from cmp p b c sw sc).pairs) sw b c sc (c.bucket + 1)
  seeks-start =
      let own : bucket_at b sw sc c.bucket ≡ term c.key c.coef ∷ bucket_at (dropped b c.bucket) sw sc c.bucket =
      bucket-lead b c.bucket k.laid k.within k.some sw sc k.words_long k.coefs-long ∙ ap₂ (λ (w v : ℕ). term w v ∷ bucket_at (dropped b c.bucket) sw sc c.bucket) (sym k.key-is) (sym k.coef-is) in
      record {
        modulus = k.modulus;
        words_long = k.words_long;
        coefs-long = k.coefs-long;
        laid = k.laid;
        state = rw (add-one c.bucket) (seek-starts cmp p (bucket_at b sw sc) c.bucket (term c.key c.coef) (bucket_at (dropped b c.bucket) sw sc c.bucket) c.count k.within own);
        ahead = λ j u v. (k.canonical j v).reduced;
        small = (subst (λ (l : List (Term ℕ)). Reduced p l) own (k.canonical c.bucket k.within).reduced).0.1;
        few = omega (arith, k.few);
      }

  pub seeks-end : {b' : Buckets} {d : Candidate} {sc' : List ℕ} {i : ℕ} → Seeks cmp p lists (c.bucket + (pass_from cmp p b c sw sc).at) (pass_from cmp p b c sw sc).lead (c.count + length (pass_from cmp p b c sw sc).pairs) sw b' d sc' i → 6 ≤ i → SeekDone cmp p b c sw sc sc' b' d
  seeks-end v h = record {
    laid = v.laid;
    coefs-long = v.coefs-long;
    bucket-is = ends_at v.state h;
    term_is = ends-lead v.state h;
    count-is = ends-count v.state h;
    lists-are = ends-lists v.state h;
  }

-- ---- a turn
module _ {cmp : ℕ → ℕ → Ordering} {p : ℕ} {G : List (List (Term ℕ))} {A : ℕ} {L : Term ℕ} {N : ℕ} {sw : List ℕ} {b : Buckets} {c : Candidate} {sc : List ℕ} {i : ℕ} (v : Seeks cmp p G A L N sw b c sc i) where
  pub own-six : c.bucket < 6
  own-six = omega (arith, v.state.below, v.state.most)

  pub own-some : 0 < len_at b c.bucket
  own-some = some_of b c.bucket v.laid own-six sw sc v.words_long v.coefs-long (term c.key c.coef) v.state.rest v.state.own

  module _ (h : i < 6) where
    not_own : i ≡ c.bucket → ⊥
    not_own e = let z : ⊥ = omega (arith, v.state.below) in z

    -- a turn: the buckets ahead stay
    on : (b' : Buckets) (d : Candidate) (sc' : List ℕ) → length sc' ≡ all_places → Laid b' → Seeking cmp p G A L N (bucket_at b' sw sc') d.bucket (suc i) (term d.key d.coef) d.count → ((j : ℕ) → i < j → j < 6 → bucket_at b' sw sc' j ≡ bucket_at b sw sc j) → d.coef < p → d.count ≤ c.count + 1
        → Seeks cmp p G A L N sw b' d sc' (i + 1)
    on b' d sc' hc l s stay small one = record {
      modulus = v.modulus;
      words_long = v.words_long;
      coefs-long = hc;
      laid = l;
      state = rw (add-one i) s;
      ahead = λ j u w. subst (λ (l : List (Term ℕ)). Reduced p l) (sym (stay j (omega arith) w)) (v.ahead j (omega arith) w);
      small = small;
      few = omega (arith, v.few);
    }

    pub on-empty : len_at b i ≡ 0 → Seeks cmp p G A L N sw b c sc (i + 1)
    on-empty e = on b c sc v.coefs-long v.laid (goes-empty v.state h (bucket-none b i v.laid h sw sc e)) (λ j u w. refl) v.small (omega arith)

    -- the bucket is not empty
    pub lead-some : {len : ℕ} → len ≡ len_at b i → (len ≡ 0 → ⊥) → 0 < len_at b i
    lead-some en some = omega (arith, en, some)

    module _ (pos : 0 < len_at b i) where
      pub removal-asks : Removal b i
      removal-asks = record { laid = v.laid; within = h; some = pos }

      abbrev ys : List (Term ℕ)
      ys = bucket_at (dropped b i) sw sc i

      pub lead-small : {coef : ℕ} → coef ≡ get_or sc (head_at b i) 0 → coef < p
      lead-small ec = rw (ec) (subst (λ (l : List (Term ℕ)). Reduced p l) (bucket-lead b i v.laid h pos sw sc v.words_long v.coefs-long) (v.ahead i (omega arith) h)).0.1

      module _ {key coef : ℕ} (ek : key ≡ get_or sw (head_at b i) 0) (ec : coef ≡ get_or sc (head_at b i) 0) where
        lead_is : bucket_at b sw sc i ≡ term key coef ∷ ys
        lead_is = bucket-lead b i v.laid h pos sw sc v.words_long v.coefs-long ∙ ap₂ (λ (w c : ℕ). term w c ∷ ys) (sym ek) (sym ec)

      -- the lead is smaller, and is passed by
      pub on-past : TotalOrder ℕ cmp → {key : ℕ} → key ≡ get_or sw (head_at b i) 0 → is_larger (cmp key c.key) ≡ false → (key ≡ c.key → ⊥) → {d : Candidate} → d ≡ passed_by c → Seeks cmp p G A L N sw b d sc (i + 1)
      on-past O {key} ek small ne {d} ed =
          let o : cmp c.key key ≡ Ordering.gt = turned-gt cmp O key c.key (less_by cmp O key c.key small ne) in
          rw (ed) (on b (passed_by c) sc v.coefs-long v.laid (goes-past v.state h (term key (get_or sc (head_at b i) 0)) ys (lead_is ek refl) o) (λ j u w. refl) v.small (omega arith))

      -- the lead is like the candidate: its coefficient joins, and it is removed
      pub on-like : TotalOrder ℕ cmp → {key coef : ℕ} → key ≡ get_or sw (head_at b i) 0 → coef ≡ get_or sc (head_at b i) 0 → key ≡ c.key → {d : Candidate} → d ≡ joined c coef p → {sc₁ : List ℕ} → sc₁ ≡ set sc (head_at b d.bucket) d.coef → {b₁ : Buckets} → b₁ ≡ dropped b i
          → Seeks cmp p G A L N sw b₁ d sc₁ (i + 1)
      on-like O {key} {coef} ek ec e {d} ed {sc₁} es {b₁} eb =
          let own = c.bucket in
          let sum = (c.coef + coef) % p in
          let b' = dropped b i in
          let sc' = set sc (head_at b own) sum in
          let laid' = dropped-laid b i v.laid h pos in
          let same_head : head_at b' own ≡ head_at b own = moved-head-other b i (head_at b i + 1) (len_at b i - 1) v.laid h own own-six (λ q. not_own (sym q)) in
          let own' : bucket_at b' sw sc own ≡ term c.key c.coef ∷ v.state.rest = dropped-other b i v.laid h pos sw sc v.words_long v.coefs-long own own-six (λ q. not_own (sym q)) ∙ v.state.own in
          let some' = some_of b' own laid' own-six sw sc v.words_long v.coefs-long (term c.key c.coef) v.state.rest own' in
          let put : (j : ℕ) → j < 6 → (j ≡ own → ⊥) → bucket_at b' sw sc' j ≡ bucket_at b' sw sc j = λ j u w. ap (λ (m : ℕ). bucket_at b' sw (set sc m sum) j) (sym same_head) ∙ put_other b' own laid' own-six some' sw sc v.words_long v.coefs-long sum j u w in
          let others : (j : ℕ) → j < 6 → (j ≡ own → ⊥) → (j ≡ i → ⊥) → bucket_at b' sw sc' j ≡ bucket_at b sw sc j = λ j u w z. put j u w ∙ dropped-other b i v.laid h pos sw sc v.words_long v.coefs-long j u z in
          let go : Seeks cmp p G A L N sw b' (joined c coef p) sc' (i + 1) =
          on b' (joined c coef p) sc' (length-set sc (head_at b own) sum ∙ v.coefs-long) laid'
          (goes-like v.state h (term key coef) ys (lead_is ek ec) (same_by cmp O c.key key (sym e)) (bucket_at b' sw sc')
          (ap (λ (m : ℕ). bucket_at b' sw (set sc m sum) own) (sym same_head) ∙ put-at b' own laid' own-six sw sc v.words_long v.coefs-long (term c.key c.coef) v.state.rest own' sum)
          (put i h not_own) others)
          (λ j u w. others j w (λ q. let z : ⊥ = omega (arith, v.state.below) in z) (λ q. let z : ⊥ = omega arith in z))
          (mod-lt (c.coef + coef) (omega (arith, v.modulus.two))) (omega arith) in
          let there : sc₁ ≡ sc' = es ∙ ap (λ (x : Candidate). set sc (head_at b x.bucket) x.coef) ed in
          rw (eb, there, ed) go

      -- the lead is larger, and replaces the candidate
      module _ (z : ℕ) (ez : z ≡ flag (eqb c.coef 0)) where
        abbrev b'' : Buckets
        b'' = moved b c.bucket (head_at b c.bucket + z) (len_at b c.bucket - z)

        -- what is left of the candidate's bucket
        pub record Left : Type 0 where
          pub left_laid : Laid b''
          pub left-own : bucket_at b'' sw sc c.bucket ≡ keep c.key c.coef v.state.rest
          pub left_other : (j : ℕ) → j < 6 → (j ≡ c.bucket → ⊥) → bucket_at b'' sw sc j ≡ bucket_at b sw sc j

        left : Left
        unfolding keep
        left = by c.coef refl
          where
            by : (n : ℕ) → c.coef ≡ n → Left
            by zero e =
                let z1 : z ≡ 1 = ez ∙ ap flag (eq-eqb c.coef 0 e) in
                let is : b'' ≡ dropped b c.bucket = ap (λ (m : ℕ). moved b c.bucket (head_at b c.bucket + m) (len_at b c.bucket - m)) z1 in
                record {
                  left_laid = subst Laid (sym is) (dropped-laid b c.bucket v.laid own-six own-some);
                  left-own = ap (λ (x : Buckets). bucket_at x sw sc c.bucket) is ∙ (drop_here b c.bucket v.laid own-six sw sc v.words_long v.coefs-long (term c.key c.coef) v.state.rest v.state.own ∙ ap (λ (m : ℕ). keep c.key m v.state.rest) (sym e));
                  left_other = λ j u w. ap (λ (x : Buckets). bucket_at x sw sc j) is ∙ dropped-other b c.bucket v.laid own-six own-some sw sc v.words_long v.coefs-long j u w;
                }
            by (suc n) e =
                let z0 : z ≡ 0 = ez ∙ ap flag (ne_eqb c.coef 0 (λ q. let w : ⊥ = omega arith in w)) in
                let is : b'' ≡ b =
                ap (λ (m : ℕ). moved b c.bucket (head_at b c.bucket + m) (len_at b c.bucket - m)) z0
                ∙ (ap₂ (λ (x y : ℕ). moved b c.bucket x y) (let w : head_at b c.bucket + 0 ≡ head_at b c.bucket = omega arith in w) (let w : len_at b c.bucket - 0 ≡ len_at b c.bucket = omega arith in w)
                ∙ moved_same b c.bucket v.laid own-six) in
                record {
                  left_laid = subst Laid (sym is) v.laid;
                  left-own = ap (λ (x : Buckets). bucket_at x sw sc c.bucket) is ∙ (v.state.own ∙ (ap (λ (m : ℕ). term c.key m ∷ v.state.rest) e ∙ ap (λ (m : ℕ). keep c.key m v.state.rest) (sym e)));
                  left_other = λ j u w. ap (λ (x : Buckets). bucket_at x sw sc j) is;
                }

        pub on-up : TotalOrder ℕ cmp → {key coef : ℕ} → key ≡ get_or sw (head_at b i) 0 → coef ≡ get_or sc (head_at b i) 0 → is_larger (cmp key c.key) ≡ true → {d : Candidate} → d ≡ replaced_by c i key coef → {o n : ℕ} → o ≡ head_at b c.bucket → n ≡ len_at b c.bucket → {b₁ : Buckets} → b₁ ≡ moved b c.bucket (o + z) (n - z) → Seeks cmp p G A L N sw b₁ d sc (i + 1)
        on-up O {key} {coef} ek ec large {d} ed eo en {b₁} eb =
            let o : cmp c.key key ≡ Ordering.lt = turned_lt cmp O key c.key (more_by cmp key c.key large) in
            let back : b₁ ≡ b'' = eb ∙ ap₂ (λ (x y : ℕ). moved b c.bucket (x + z) (y - z)) eo en in
            rw (back, ed) (on b'' (replaced_by c i key coef) sc v.coefs-long left.left_laid
            (goes-up v.state h (term key coef) ys (lead_is ek ec) o (bucket_at b'' sw sc) left.left-own left.left_other)
            (λ j u w. left.left_other j w (λ q. let n : ⊥ = omega (arith, v.state.below) in n)) (lead-small ec) (omega arith))
