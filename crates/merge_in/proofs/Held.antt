-- The numbers of the terms that a merge has stored, in one of its slices. Assumes nothing.
use mathlib.Core.Path.{◌≡◌, refl, sym, ap, ap₂, ◌∙◌, subst}
use mathlib.Core.List.{List, [], ◌∷◌, ◌++◌, map, map-append, append-nil}
use mathlib.Core.Logic.{◌⊎◌, inl, inr, ⊎_elim}
use Prim.Native.Nat.{ℕ, zero, suc, ◌+◌, ◌-◌, ◌<◌, ◌≤◌}
use native.Mathlib.Omega.{arith}
use lib.ListN.{length, take, drop, set, get_or, length-map, length-append, length-set, length-drop}
use lib.Seq.{sets, length-sets, get_or-set_other, drop-set-add, take-set-le, take-suc-set, take-add, drop-drop}
use Rattle.polynomial.specs.Terms.{Term, term}
use Rattle.polynomial.specs.Merge.{keep}
use Rattle.merge_common.specs.Lent.{part}
use Rattle.merge_common.proofs.Lists.{length_part, get_d-sets-other}
use Rattle.merge_common.proofs.ReadBack.{part-sets, part-like}

-- they lie from `low` on, and the places in front of it and those from j on are as they were
pub record Held (f : Term ℕ → ℕ) (done : List (Term ℕ)) (low j : ℕ) (l o : List ℕ) : Type 0 where
  pub are : part low (length done) o ≡ map f done
  pub stay : (t : ℕ) → (t < low) ⊎ (j ≤ t) → get_or o t 0 ≡ get_or l t 0
  pub long : length o ≡ length l

pub held_none : (f : Term ℕ → ℕ) (low j : ℕ) (l : List ℕ) → Held f [] low j l l
held_none f low j l = record { are = refl; stay = λ t u. refl; long = refl }

-- the whole merge lies from `head` on, and the places in front of `low` and those from e on are as they were
pub record Lies (f : Term ℕ → ℕ) (M : List (Term ℕ)) (head low e : ℕ) (l o : List ℕ) : Type 0 where
  pub are : part head (length M) o ≡ map f M
  pub stay : (t : ℕ) → (t < low) ⊎ (e ≤ t) → get_or o t 0 ≡ get_or l t 0

two-parts : (f : Term ℕ → ℕ) (done left : List (Term ℕ)) (o : List ℕ) (head k : ℕ) → head + length done ≡ k → part head (length done) o ≡ map f done → part k (length left) o ≡ map f left → part head (length (done ++ left)) o ≡ map f (done ++ left)
two-parts f done left o head k e a b =
    ap (λ (n : ℕ). part head n o) (length-append done left)
    ∙ (take-add (length done) (length left) (drop head o)
    ∙ (ap₂ (λ (x y : List ℕ). x ++ y) a (ap (take (length left)) (drop-drop (length done) head o ∙ ap (λ (n : ℕ). drop n o) e) ∙ b) ∙ sym (map-append f done left)))

module _ {f : Term ℕ → ℕ} {done : List (Term ℕ)} {low j : ℕ} {l o : List ℕ} (s : Held f done low j l o) {k : ℕ} (at : low + length done ≡ k) where
  -- ---- a store past them
  module _ (j' v : ℕ) (room : k < j) (up : j ≤ j') where
    stay-set : (t : ℕ) → (t < low) ⊎ (j' ≤ t) → get_or (set o k v) t 0 ≡ get_or l t 0
    stay-set t u = get_or-set_other o k t v 0 (λ q. ⊎_elim (λ x. let z : ⊥ = omega arith in z) (λ x. let z : ⊥ = omega arith in z) u) ∙ s.stay t (⊎_elim (λ x. inl x) (λ x. inr (omega arith)) u)

    dropped : drop low (set o k v) ≡ set (drop low o) (length done) v
    dropped = ap (λ (n : ℕ). drop low (set o n v)) (sym at) ∙ drop-set-add low o (length done) v

    -- it is the number of a term, unless its coefficient is 0
    pub held_more : (w c : ℕ) → v ≡ f (term w c) → k < length l → Held f (done ++ keep w c []) low j' l (set o k v)
    unfolding keep
    held_more w zero e h = record {
      are = ap (λ (d : List (Term ℕ)). part low (length d) (set o k v)) (append-nil done) ∙ (ap (take (length done)) dropped ∙ (take-set-le (length done) (drop low o) (length done) v (omega arith) ∙ (s.are ∙ ap (map f) (sym (append-nil done)))));
      stay = stay-set;
      long = length-set o k v ∙ s.long;
    }
    held_more w (suc c) e h =
        let n : length (done ++ term w (suc c) ∷ []) ≡ suc (length done) = omega (arith, length-append done (term w (suc c) ∷ [])) in
        record {
          are =
              ap (λ (n : ℕ). part low n (set o k v)) n
              ∙ (ap (take (suc (length done))) dropped
              ∙ (take-suc-set (drop low o) (length done) v (omega (arith, length-drop low o, s.long))
              ∙ (ap₂ (λ (x : List ℕ) (y : ℕ). x ++ y ∷ []) s.are e ∙ sym (map-append f done (term w (suc c) ∷ [])))));
          stay = stay-set;
          long = length-set o k v ∙ s.long;
        }

  -- ---- what is left of the merge follows, up to e
  module _ (e : ℕ) (up : j ≤ e) where
    stay-sets : (o' : List ℕ) (a : ℕ) (vs : List ℕ) → o' ≡ sets o a vs → low ≤ a → a + length vs ≤ e → (t : ℕ) → (t < low) ⊎ (e ≤ t) → get_or o' t 0 ≡ get_or l t 0
    stay-sets o' a vs eo lo hi t u = ap (λ (x : List ℕ). get_or x t 0) eo ∙ (get_d-sets-other o a vs t (⊎_elim (λ v. inl (omega arith)) (λ v. inr (omega arith)) u) ∙ s.stay t (⊎_elim (λ v. inl v) (λ v. inr (omega arith)) u))

    -- it is put
    pub held-put : (left M : List (Term ℕ)) → done ++ left ≡ M → {o' : List ℕ} (rs : List ℕ) → o' ≡ sets o k rs → rs ≡ map f left → k + length left ≤ e → e ≤ length l → Lies f M low low e l o'
    held-put left M whole {o'} rs eo er room end =
        let n : length rs ≡ length left = ap length er ∙ length-map left f in
        let lo : length o' ≡ length o = ap length eo ∙ length-sets o k rs in
        record {
          are =
              subst (λ (m : List (Term ℕ)). part low (length m) o' ≡ map f m) whole
              (two-parts f done left o' low k at
              (part-like o' o low low (length done) (omega (arith, s.long)) (omega (arith, s.long)) (λ t h. ap (λ (x : List ℕ). get_or x (low + t) 0) eo ∙ get_d-sets-other o k rs (low + t) (inl (omega arith))) ∙ s.are)
              (ap₂ (λ (m : ℕ) (x : List ℕ). part k m x) (sym n) eo ∙ (part-sets o k rs (omega (arith, s.long)) ∙ er)));
          stay = stay-sets o' k rs eo (omega arith) (omega arith);
        }

    -- it stands from j on, and they are moved up to it
    pub held_up : (left M : List (Term ℕ)) → done ++ left ≡ M → {o' : List ℕ} (head : ℕ) → head ≡ low + (j - k) → o' ≡ sets o head (part low (k - low) o) → part j (length left) l ≡ map f left → k ≤ j → j + length left ≤ e → e ≤ length l → Lies f M head low e l o'
    held_up left M whole {o'} head eh eo el kj room end =
        let vs : List ℕ = part low (k - low) o in
        let m : k - low ≡ length done = omega arith in
        let n : length vs ≡ k - low = length_part low (k - low) o (omega (arith, s.long)) in
        let lo : length o' ≡ length o = ap length eo ∙ length-sets o head vs in
        record {
          are =
              subst (λ (m : List (Term ℕ)). part head (length m) o' ≡ map f m) whole
              (two-parts f done left o' head j (omega arith)
              (ap₂ (λ (m : ℕ) (x : List ℕ). part head m x) (sym (n ∙ m)) eo ∙ (part-sets o head vs (omega (arith, s.long)) ∙ (ap (λ (m : ℕ). part low m o) m ∙ s.are)))
              (part-like o' l j j (length left) (omega (arith, s.long)) (omega arith) (λ t h. ap (λ (x : List ℕ). get_or x (j + t) 0) eo ∙ (get_d-sets-other o head vs (j + t) (inr (omega arith)) ∙ s.stay (j + t) (inr (omega arith)))) ∙ el));
          stay = stay-sets o' head vs eo (omega arith) (omega arith);
        }
