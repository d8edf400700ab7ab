-- The leads looked at: where none is like the largest one before it, the search goes the same way. Assumes nothing.
use mathlib.Core.Path.{◌≡◌, refl, sym, ap, ap₂, ◌∙◌, subst}
use mathlib.Core.Bool.{Bool}
use mathlib.Core.List.{List}
use mathlib.Core.Logic.{◌⊎◌, ⊎_elim, inl, inr}
use Prim.Native.Nat.{ℕ, suc, ◌+◌, ◌-◌, ◌<◌, ◌≤◌, compare, Ordering}
use native.Mathlib.Omega.{arith}
use native.Mathlib.Nat.{add-zero}
use native.Mathlib.Numerals.{add-one}
use borrow.Author.Count.{below_more}
use borrow.Author.Tests.{eq-eqb, ne_eqb}
use lib.Dec.{eqb}
use lib.ListN.{length, get_or}
use Rattle.monomial.proofs.Comparing.{Tri, less, same, more, tri}
use Rattle.monomial.proofs.OrderLaws.{numbers-order}
use Rattle.polynomial.specs.Terms.{Term, term, Reduced}
use Rattle.polynomial.specs.Opening.{is_larger}
use Rattle.merge_common.specs.Lent.{flag, chosen}
use Rattle.geobucket.specs.Search.{Pass, lead}
use Rattle.space.specs.Space.{Buckets, head_at, len_at, bucket_at, buckets_in, Stands, moved}
use Rattle.space.proofs.SpaceLaws.{canon-at, bucket-lead, moved_same}
use Rattle.search.specs.declared.candidate.Candidate.{Candidate}
use Rattle.search.specs.declared.largest.Largest.{Largest}
use Rattle.search.specs.Largest.{unseen, met, met_by, largest_of, as_candidate, Looked}
use Rattle.search.specs.Searching.{Seek, FirstHeld, FindDone, pass_from}
use Rattle.search.proofs.SeekState.{Seeks, lists, seeks-start, seeks-end, own-six, own-some, on-empty, on-past, on-up}
use Rattle.search.proofs.FindState.{finds-start, stands-canon, seek-asks, find-lead}

-- ---- what a lead makes of the largest one
module _ (t : Largest) (i key : ℕ) where
  pub met_less : compare key t.key ≡ Ordering.lt → met t i key ≡ record { bucket = t.bucket; key = t.key; held = t.held + 1; like = t.like }
  unfolding met
  met_less h = rw (h, met)

  pub met-same : compare key t.key ≡ Ordering.eq → met t i key ≡ record { bucket = t.bucket; key = t.key; held = t.held + 1; like = t.like + 1 }
  unfolding met
  met-same h = rw (h, met)

  pub met-more : compare key t.key ≡ Ordering.gt → met t i key ≡ record { bucket = i; key = key; held = t.held + 1; like = t.like }
  unfolding met
  met-more h = rw (h, met)

  -- by flags
  module _ {l : Bool} {at w : ℕ} (el : l ≡ is_larger (compare key t.key)) (ea : at ≡ chosen (flag l) i t.bucket) (ew : w ≡ chosen (flag l) key t.key) where
    by_flags : Ordering → Bool → Largest
    by_flags o x = record { bucket = chosen (flag (is_larger o)) i t.bucket; key = chosen (flag (is_larger o)) key t.key; held = t.held + 1; like = t.like + flag x }

    unlike : (at w : ℕ) → ◌≡◌ {A = Largest} (record { bucket = at; key = w; held = t.held + 1; like = t.like + 0 }) (record { bucket = at; key = w; held = t.held + 1; like = t.like })
    unlike at w = ap (λ (n : ℕ). record { bucket = at; key = w; held = t.held + 1; like = n }) (add-zero t.like)

    go : Tri key t.key → by_flags (compare key t.key) (eqb key t.key) ≡ met t i key
    unfolding by_flags
    go (less k e) = ap₂ by_flags e (ne_eqb key t.key (λ q. let z : ⊥ = omega arith in z)) ∙ (unlike t.bucket t.key ∙ sym (met_less e))
    go (same k e) = ap₂ by_flags e (eq-eqb key t.key k) ∙ sym (met-same e)
    go (more k e) = ap₂ by_flags e (ne_eqb key t.key (λ q. let z : ⊥ = omega arith in z)) ∙ (unlike i key ∙ sym (met-more e))

    pub met-is : ◌≡◌ {A = Largest} (record { bucket = at; key = w; held = t.held + 1; like = t.like + flag (eqb key t.key) }) (met t i key)
    unfolding by_flags
    met-is = rw (ea, ew, el) (go (tri key t.key))

module _ {p : ℕ} {b : Buckets} {ws cs : List ℕ} (st : Stands compare p b ws cs) where
  -- the lead of bucket j, as the first candidate
  abbrev first_of : ℕ → Candidate
  first_of j = record { bucket = j; key = get_or ws (head_at b j) 0; coef = get_or cs (head_at b j) 0; count = 0 }

  pub asks : {j : ℕ} → FirstHeld b j → j < 6 → Seek compare p b (first_of j) ws cs
  asks f h = seek-asks (finds-start st) f numbers-order h refl refl

  abbrev pass_of : ℕ → Pass ℕ
  pass_of j = pass_from compare p b (first_of j) ws cs

  -- before bucket i the largest lead is the candidate of the search, which began in bucket `first`
  pub record Under (t : Largest) (i : ℕ) : Type 0 where
    pub first : ℕ
    pub is-first : FirstHeld b first
    pub within : first < 6
    pub some : 1 ≤ t.held
    pub seeks : Seeks compare p (lists (asks is-first within)) (first + (pass_of first).at) (pass_of first).lead (0 + length (pass_of first).pairs) ws b (as_candidate t (get_or cs (head_at b t.bucket) 0)) cs i

  positive : (j : ℕ) → j < 6 → 0 < len_at b j → get_or cs (head_at b j) 0 ≡ 0 → ⊥
  positive j h pos e =
      let r = subst (λ (l : List (Term ℕ)). Reduced p l) (bucket-lead b j st.laid h pos ws cs st.words_long st.coefs-long) (canon-at compare p (bucket_at b ws cs) 6 0 (stands-canon st) j (omega arith) (omega arith)).reduced in
      let z : ⊥ = omega (arith, r.0.0) in z

  begins : (i : ℕ) → i < 6 → ((j : ℕ) → j < i → len_at b j ≡ 0) → 0 < len_at b i → Under (record { bucket = i; key = get_or ws (head_at b i) 0; held = 1; like = 0 }) (i + 1)
  begins i h none pos =
      let f : FirstHeld b i = record { most = omega arith; below = none; held = λ u. pos } in
      record { first = i; is-first = f; within = h; some = omega arith; seeks = seeks-start (asks f h) }

  module _ {t : Largest} {i : ℕ} (u : Under t i) where
    pub goes-empty : i < 6 → len_at b i ≡ 0 → Under t (i + 1)
    goes-empty h e = record { first = u.first; is-first = u.is-first; within = u.within; some = u.some; seeks = on-empty u.seeks h e }

    -- a candidate after one comparison more
    counted : (at w c : ℕ) → ◌≡◌ {A = Candidate} (record { bucket = at; key = w; coef = c; count = t.held + 1 - 1 }) (record { bucket = at; key = w; coef = c; count = t.held - 1 + 1 })
    counted at w c = ap (λ (n : ℕ). record { bucket = at; key = w; coef = c; count = n }) (let e : t.held + 1 - 1 ≡ t.held - 1 + 1 = omega (arith, u.some) in e)

    module _ (h : i < 6) (pos : 0 < len_at b i) {key : ℕ} (ek : key ≡ get_or ws (head_at b i) 0) where
      goes-past : key < t.key → compare key t.key ≡ Ordering.lt → Under (record { bucket = t.bucket; key = t.key; held = t.held + 1; like = t.like }) (i + 1)
      goes-past k e = record {
        first = u.first;
        is-first = u.is-first;
        within = u.within;
        some = omega arith;
        seeks = on-past u.seeks h pos numbers-order ek (ap is_larger e) (λ q. let z : ⊥ = omega (arith, q, k) in z) (counted t.bucket t.key _);
      }

      goes-up : compare key t.key ≡ Ordering.gt → Under (record { bucket = i; key = key; held = t.held + 1; like = t.like }) (i + 1)
      goes-up e =
          let own = t.bucket in
          let v = u.seeks in
          let stays : b ≡ moved b own (head_at b own + 0) (len_at b own - 0) =
          sym (moved_same b own st.laid (own-six v)) ∙ ap₂ (λ (x y : ℕ). moved b own x y) (let z : head_at b own ≡ head_at b own + 0 = omega arith in z) (let z : len_at b own ≡ len_at b own - 0 = omega arith in z) in
          record {
            first = u.first;
            is-first = u.is-first;
            within = u.within;
            some = omega arith;
            seeks =
                on-up v h pos 0 (sym (ap flag (ne_eqb (get_or cs (head_at b own) 0) 0 (positive own (own-six v) (own-some v))))) numbers-order ek refl
                (ap is_larger e) (counted i key _) refl refl stays;
          }

    -- after the last bucket
    ends : 6 ≤ i → FindDone compare p (buckets_in b ws cs) b ws cs (lead t.bucket (term t.key (get_or cs (head_at b t.bucket) 0))) (t.held - 1)
    ends h = find-lead (finds-start st) u.is-first numbers-order u.within refl refl (seeks-end (asks u.is-first u.within) u.seeks h) (positive t.bucket (own-six u.seeks) (own-some u.seeks))

  abbrev pub Halfway : Largest → ℕ → Type 0
  Halfway t i = ((t ≡ unseen) × ((j : ℕ) → j < i → len_at b j ≡ 0)) ⊎ Under t i

-- ---- the state of the loop: i buckets were looked at
pub record Looks (b : Buckets) (ws : List ℕ) (t : Largest) (i : ℕ) : Type 0 where
  pub most : i ≤ 6
  pub few : t.held ≤ i
  pub few-like : t.like ≤ i
  pub is : t ≡ largest_of b ws i
  pub halfway : (p : ℕ) (cs : List ℕ) (st : Stands compare p b ws cs) → t.like ≡ 0 → Halfway st t i

pub looks-none : (b : Buckets) (ws : List ℕ) → Looks b ws unseen 0
unfolding largest_of
looks-none b ws = record { most = omega arith; few = omega arith; few-like = omega arith; is = refl; halfway = λ p cs st e. inl (refl, (λ j h. absurd (let z : ⊥ = omega arith in z))) }

-- one bucket more
more_of : (b : Buckets) (ws : List ℕ) (i len : ℕ) → len_at b i ≡ len → largest_of b ws (i + 1) ≡ met_by len (largest_of b ws i) i (get_or ws (head_at b i) 0)
unfolding largest_of
more_of b ws i len e = ap (largest_of b ws) (add-one i) ∙ ap (λ (n : ℕ). met_by n (largest_of b ws i) i (get_or ws (head_at b i) 0)) e

module _ {b : Buckets} {ws : List ℕ} {t : Largest} {i : ℕ} (v : Looks b ws t i) where
  pub looks-empty : i < 6 → len_at b i ≡ 0 → Looks b ws t (i + 1)
  looks-empty h e = record {
    most = omega arith;
    few = omega (arith, v.few);
    few-like = omega (arith, v.few-like);
    is = v.is ∙ sym (more_of b ws i 0 e);
    halfway = λ p cs st z. ⊎_elim (λ n. inl (n.0, below_more _ _ n.1 e)) (λ u. inr (goes-empty st u h e)) (v.halfway p cs st z);
  }

  module _ (h : i < 6) (pos : 0 < len_at b i) {key : ℕ} (ek : key ≡ get_or ws (head_at b i) 0) where
    pub looks-met : {r : Largest} → r ≡ met t i key → Looks b ws r (i + 1)
    looks-met {r} er = go (tri key t.key)
      where
        next : met t i key ≡ largest_of b ws (i + 1)
        next =
            let n : len_at b i ≡ suc (len_at b i - 1) = omega (arith, pos) in
            ap₂ (λ (x : Largest) (k : ℕ). met x i k) v.is ek ∙ sym (more_of b ws i (suc (len_at b i - 1)) n)

        with-largest : (r' : Largest) → r ≡ r' → r'.held ≡ t.held + 1 → r'.like ≤ i + 1 → ((p : ℕ) (cs : List ℕ) (st : Stands compare p b ws cs) → r'.like ≡ 0 → Halfway st r' (i + 1)) → Looks b ws r (i + 1)
        with-largest r' e eh el f = subst (λ (x : Largest). Looks b ws x (i + 1)) (sym e) (record { most = omega arith; few = omega (arith, v.few, eh); few-like = el; is = sym e ∙ (er ∙ next); halfway = f })

        go : Tri key t.key → Looks b ws r (i + 1)
        go (less k e) =
            with-largest _ (er ∙ met_less t i key e) refl (omega (arith, v.few-like))
            (λ p cs st z. ⊎_elim (λ n. absurd (let w : ⊥ = omega (arith, k, ap (λ (x : Largest). x.key) n.0) in w)) (λ u. inr (goes-past st u h pos ek k e)) (v.halfway p cs st z))
        go (same k e) = with-largest _ (er ∙ met-same t i key e) refl (omega (arith, v.few-like)) (λ p cs st z. absurd (let w : ⊥ = omega (arith, z) in w))
        go (more k e) =
            with-largest _ (er ∙ met-more t i key e) refl (omega (arith, v.few-like))
            (λ p cs st z. inr (⊎_elim (λ n. rw (ek, n.0) (begins st i h n.1 pos)) (λ u. goes-up st u h pos ek e) (v.halfway p cs st z)))

  looks-all : 6 ≤ i → Looked b ws t
  looks-all h p cs st z some = ⊎_elim (λ n. absurd (let w : ⊥ = omega (arith, some, ap (λ (x : Largest). x.held) n.0) in w)) (λ u. ends st u h) (v.halfway p cs st z)

  pub looks-end : 6 ≤ i → (t ≡ largest_of b ws 6) × Looked b ws t
  looks-end h = (v.is ∙ ap (largest_of b ws) (let e : i ≡ 6 = omega (arith, v.most) in e), looks-all h)
