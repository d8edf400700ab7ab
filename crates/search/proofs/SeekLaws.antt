-- A pass under way, over lists: the candidate, the buckets below it, those passed by, and those ahead. Assumes nothing.
use mathlib.Core.Path.{◌≡◌, refl, sym, ap, ap₂, ◌∙◌, subst}
use mathlib.Core.List.{List, [], ◌∷◌, ◌++◌, append-nil, append_assoc}
use Prim.Native.Nat.{ℕ, zero, suc, ◌+◌, ◌-◌, ◌%◌, ◌<◌, ◌≤◌, Ordering}
use native.Mathlib.Nat.{zero-add}
use native.Mathlib.Omega.{arith}
use lib.ListN.{length, length-append}
use lib.Seq.{append_snoc}
use Rattle.polynomial.specs.Terms.{Term, term}
use Rattle.polynomial.specs.Merge.{keep}
use Rattle.geobucket.specs.Search.{Pass, passed, passing, replaced, seek, put_back}
use Rattle.geobucket.proofs.SearchLaws.{seek-less, seek-same, seek-more}
use Rattle.space.specs.Space.{list_from}
use Rattle.space.proofs.SpaceLaws.{from-same, from_next, from-none, from_last, from-split, from_at}

-- ---- where a pass's lead ends up, with the buckets `mid` between the candidate's own and those ahead

-- the candidate's bucket is b, and the first bucket ahead is i
abbrev where_at : (b i at : ℕ) → ℕ
where_at b i zero = b
where_at b i (suc k) = i + k

abbrev splice_at : ℕ → List (List (Term ℕ)) → Term ℕ → List (Term ℕ) → List (List (Term ℕ)) → List (List (Term ℕ))
splice_at zero mid t own above = (t ∷ own) ∷ (mid ++ above)
splice_at (suc k) mid t own above = own ∷ (mid ++ put_back k t above)

abbrev spliced : List (List (Term ℕ)) → Pass ℕ → List (List (Term ℕ))
spliced mid s = splice_at s.at mid s.lead s.own s.above

splice-passing : (mid : List (List (Term ℕ))) (c : List (Term ℕ)) (at : ℕ) (t : Term ℕ) (own : List (Term ℕ)) (above : List (List (Term ℕ))) → splice_at (passed at) mid t own (c ∷ above) ≡ splice_at at (mid ++ (c ∷ [])) t own above
unfolding put_back
splice-passing mid c zero t own above = ap (λ (l : List (List (Term ℕ))). (t ∷ own) ∷ l) (sym (append_snoc mid c above))
splice-passing mid c (suc k) t own above = ap (λ (l : List (List (Term ℕ))). own ∷ l) (sym (append_snoc mid c (put_back k t above)))

where-passing : (b i at : ℕ) → where_at b i (passed at) ≡ where_at b (suc i) at
where-passing b i zero = refl
where-passing b i (suc k) = omega arith

where-replaced : (i at : ℕ) → i + at ≡ where_at i (suc i) at
where-replaced i zero = omega arith
where-replaced i (suc k) = omega arith

pub splice-start : (at : ℕ) (t : Term ℕ) (own : List (Term ℕ)) (above : List (List (Term ℕ))) → splice_at at [] t own above ≡ put_back at t (own ∷ above)
unfolding put_back
splice-start zero t own above = refl
splice-start (suc k) t own above = refl

-- ---- the state: G, A, L and N are the buckets, the lead's bucket, the lead and the comparisons that the whole pass ends with; the candidate x is in bucket b of the buckets g, and bucket i is next
pub record Seeking (cmp : ℕ → ℕ → Ordering) (p : ℕ) (G : List (List (Term ℕ))) (A : ℕ) (L : Term ℕ) (N : ℕ) (g : ℕ → List (Term ℕ)) (b i : ℕ) (x : Term ℕ) (n : ℕ) : Type 0 where
  pub rest : List (Term ℕ)
  pub own : g b ≡ x ∷ rest
  pub below : b < i
  pub most : i ≤ 6
  pub lists : list_from g 0 b ++ spliced (list_from g (suc b) (i - suc b)) (seek cmp p x rest (list_from g i (6 - i))) ≡ G
  pub at-is : where_at b i (seek cmp p x rest (list_from g i (6 - i))).at ≡ A
  pub lead_is : (seek cmp p x rest (list_from g i (6 - i))).lead ≡ L
  pub count : n + length (seek cmp p x rest (list_from g i (6 - i))).pairs ≡ N

-- a pass begins with the candidate x
pub seek-starts : (cmp : ℕ → ℕ → Ordering) (p : ℕ) (g : ℕ → List (Term ℕ)) (b : ℕ) (x : Term ℕ) (rest : List (Term ℕ)) (n : ℕ) → b < 6 → g b ≡ x ∷ rest
    → let s = seek cmp p x rest (list_from g (suc b) (5 - b)) in Seeking cmp p (list_from g 0 b ++ put_back s.at s.lead (s.own ∷ s.above)) (b + s.at) s.lead (n + length s.pairs) g b (suc b) x n
seek-starts cmp p g b x rest n h e =
    let s = seek cmp p x rest (list_from g (suc b) (5 - b)) in
    let six : 6 - suc b ≡ 5 - b = omega arith in
    let no-mid : list_from g (suc b) (suc b - suc b) ≡ [] = ap (list_from g (suc b)) (let z : suc b - suc b ≡ 0 = omega arith in z) ∙ from-none g (suc b) in
    record {
      rest = rest;
      own = e;
      below = omega arith;
      most = omega arith;
      lists = ap₂ (λ (m : List (List (Term ℕ))) (k : ℕ). list_from g 0 b ++ spliced m (seek cmp p x rest (list_from g (suc b) k))) no-mid six ∙ ap (λ (l : List (List (Term ℕ))). list_from g 0 b ++ l) (splice-start s.at s.lead s.own s.above);
      at-is = ap (λ (k : ℕ). where_at b (suc b) (seek cmp p x rest (list_from g (suc b) k)).at) six ∙ sym (where-replaced b s.at);
      lead_is = ap (λ (k : ℕ). (seek cmp p x rest (list_from g (suc b) k)).lead) six;
      count = ap (λ (k : ℕ). n + length (seek cmp p x rest (list_from g (suc b) k)).pairs) six;
    }

module _ {cmp : ℕ → ℕ → Ordering} {p : ℕ} {G : List (List (Term ℕ))} {A : ℕ} {L : Term ℕ} {N : ℕ} {g : ℕ → List (Term ℕ)} {b i : ℕ} {x : Term ℕ} {n : ℕ} (s : Seeking cmp p G A L N g b i x n) where
  module _ (h : i < 6) where
    ahead : list_from g i (6 - i) ≡ g i ∷ list_from g (suc i) (6 - suc i)
    ahead = ap (list_from g i) (let e : 6 - i ≡ suc (6 - suc i) = omega arith in e) ∙ from_next g i (6 - suc i)

    -- bucket i is passed by and left as c, and the candidate is now y
    pub goes_by : (g' : ℕ → List (Term ℕ)) (y : Term ℕ) (c : List (Term ℕ)) (qs : List (ℕ × ℕ)) → seek cmp p x s.rest (g i ∷ list_from g (suc i) (6 - suc i)) ≡ passing c qs (seek cmp p y s.rest (list_from g (suc i) (6 - suc i)))
        → g' b ≡ y ∷ s.rest → g' i ≡ c → ((j : ℕ) → j < 6 → (j ≡ b → ⊥) → (j ≡ i → ⊥) → g' j ≡ g j) → Seeking cmp p G A L N g' b (suc i) y (n + length qs)
    goes_by g' y c qs e own' here others =
        let bel = s.below in
        let t = seek cmp p y s.rest (list_from g (suc i) (6 - suc i)) in
        let before : seek cmp p x s.rest (list_from g i (6 - i)) ≡ passing c qs t = ap (seek cmp p x s.rest) ahead ∙ e in
        let low : list_from g' 0 b ≡ list_from g 0 b = from-same g' g 0 b (λ j u v. others j (omega arith) (λ q. let z : ⊥ = omega arith in z) (λ q. let z : ⊥ = omega arith in z)) in
        let mid : list_from g' (suc b) (suc i - suc b) ≡ list_from g (suc b) (i - suc b) ++ (c ∷ []) =
        ap (list_from g' (suc b)) (let z : suc i - suc b ≡ suc (i - suc b) = omega arith in z)
        ∙ (from_last g' (suc b) (i - suc b)
        ∙ ap₂ (λ (l : List (List (Term ℕ))) (y : List (Term ℕ)). l ++ (y ∷ [])) (from-same g' g (suc b) (i - suc b) (λ j u v. others j (omega arith) (λ q. let z : ⊥ = omega arith in z) (λ q. let z : ⊥ = omega arith in z))) (ap g' (let z : suc b + (i - suc b) ≡ i = omega arith in z) ∙ here)) in
        let on : list_from g' (suc i) (6 - suc i) ≡ list_from g (suc i) (6 - suc i) = from-same g' g (suc i) (6 - suc i) (λ j u v. others j (omega arith) (λ q. let z : ⊥ = omega arith in z) (λ q. let z : ⊥ = omega arith in z)) in
        let after : seek cmp p y s.rest (list_from g' (suc i) (6 - suc i)) ≡ t = ap (seek cmp p y s.rest) on in
        record {
          rest = s.rest;
          own = own';
          below = omega arith;
          most = omega arith;
          lists =
              ap₂ (λ (l m : List (List (Term ℕ))). l ++ spliced m (seek cmp p y s.rest (list_from g' (suc i) (6 - suc i)))) low mid
              ∙ (ap (λ (u : Pass ℕ). list_from g 0 b ++ spliced (list_from g (suc b) (i - suc b) ++ (c ∷ [])) u) after
              ∙ (ap (λ (l : List (List (Term ℕ))). list_from g 0 b ++ l) (sym (splice-passing (list_from g (suc b) (i - suc b)) c t.at t.lead t.own t.above))
              ∙ (ap (λ (u : Pass ℕ). list_from g 0 b ++ spliced (list_from g (suc b) (i - suc b)) u) (sym before) ∙ s.lists)));
          at-is = ap (λ (u : Pass ℕ). where_at b (suc i) u.at) after ∙ (sym (where-passing b i t.at) ∙ (ap (λ (u : Pass ℕ). where_at b i u.at) (sym before) ∙ s.at-is));
          lead_is = ap (λ (u : Pass ℕ). u.lead) after ∙ (ap (λ (u : Pass ℕ). u.lead) (sym before) ∙ s.lead_is);
          count =
              let c1 : length (seek cmp p x s.rest (list_from g i (6 - i))).pairs ≡ length qs + length t.pairs = ap (λ (u : Pass ℕ). length u.pairs) before ∙ length-append qs t.pairs in
              let c2 : length (seek cmp p y s.rest (list_from g' (suc i) (6 - suc i))).pairs ≡ length t.pairs = ap (λ (u : Pass ℕ). length u.pairs) after in
              omega (arith, s.count, c1, c2);
        }

    -- an empty bucket; a like lead; a smaller lead
    pub goes-empty : g i ≡ [] → Seeking cmp p G A L N g b (suc i) x n
    unfolding seek
    goes-empty e = subst (Seeking cmp p G A L N g b (suc i) x) (let z : n + 0 ≡ n = omega arith in z) (goes_by g x [] [] (ap (λ (y : List (Term ℕ)). seek cmp p x s.rest (y ∷ list_from g (suc i) (6 - suc i))) e) s.own e (λ j u v w. refl))

    module _ (y : Term ℕ) (ys : List (Term ℕ)) (e : g i ≡ y ∷ ys) where
      pub goes-like : cmp x.mono y.mono ≡ Ordering.eq → (g' : ℕ → List (Term ℕ)) → g' b ≡ term x.mono ((x.coef + y.coef) % p) ∷ s.rest → g' i ≡ ys → ((j : ℕ) → j < 6 → (j ≡ b → ⊥) → (j ≡ i → ⊥) → g' j ≡ g j)
          → Seeking cmp p G A L N g' b (suc i) (term x.mono ((x.coef + y.coef) % p)) (n + 1)
      goes-like o g' own' here others = goes_by g' (term x.mono ((x.coef + y.coef) % p)) ys ((x.mono, y.mono) ∷ []) (ap (λ (l : List (Term ℕ)). seek cmp p x s.rest (l ∷ list_from g (suc i) (6 - suc i))) e ∙ seek-same cmp p x s.rest y ys (list_from g (suc i) (6 - suc i)) o) own' here others

      pub goes-past : cmp x.mono y.mono ≡ Ordering.gt → Seeking cmp p G A L N g b (suc i) x (n + 1)
      goes-past o = goes_by g x (y ∷ ys) ((x.mono, y.mono) ∷ []) (ap (λ (l : List (Term ℕ)). seek cmp p x s.rest (l ∷ list_from g (suc i) (6 - suc i))) e ∙ seek-more cmp p x s.rest y ys (list_from g (suc i) (6 - suc i)) o) s.own e (λ j u v w. refl)

      -- a larger lead replaces the candidate, whose bucket is left without it where its coefficient is 0
      pub goes-up : cmp x.mono y.mono ≡ Ordering.lt → (g' : ℕ → List (Term ℕ)) → g' b ≡ keep x.mono x.coef s.rest → ((j : ℕ) → j < 6 → (j ≡ b → ⊥) → g' j ≡ g j) → Seeking cmp p G A L N g' i (suc i) y (n + 1)
      goes-up o g' own' others =
          let bel = s.below in
          let k = keep x.mono x.coef s.rest in
          let t = seek cmp p y ys (list_from g (suc i) (6 - suc i)) in
          let before : seek cmp p x s.rest (list_from g i (6 - i)) ≡ replaced k (x.mono, y.mono) t = ap (seek cmp p x s.rest) (ahead ∙ ap (λ (l : List (Term ℕ)). l ∷ list_from g (suc i) (6 - suc i)) e) ∙ seek-less cmp p x s.rest y ys (list_from g (suc i) (6 - suc i)) o in
          let on : list_from g' (suc i) (6 - suc i) ≡ list_from g (suc i) (6 - suc i) = from-same g' g (suc i) (6 - suc i) (λ j u v. others j (omega arith) (λ q. let z : ⊥ = omega arith in z)) in
          let after : seek cmp p y ys (list_from g' (suc i) (6 - suc i)) ≡ t = ap (seek cmp p y ys) on in
          let no-mid : list_from g' (suc i) (suc i - suc i) ≡ [] = ap (list_from g' (suc i)) (let z : suc i - suc i ≡ 0 = omega arith in z) ∙ from-none g' (suc i) in
          let low : list_from g' 0 i ≡ list_from g 0 b ++ (k ∷ list_from g (suc b) (i - suc b)) =
          ap (list_from g' 0) (let z : i ≡ b + suc (i - suc b) = omega arith in z)
          ∙ (from-split g' 0 b (suc (i - suc b))
          ∙ ap₂ (λ (l m : List (List (Term ℕ))). l ++ m) (from-same g' g 0 b (λ j u v. others j (omega arith) (λ q. let z : ⊥ = omega arith in z)))
          (ap (λ (m : ℕ). list_from g' m (suc (i - suc b))) (zero-add b) ∙ (from_next g' b (i - suc b) ∙ ap₂ (λ (l : List (Term ℕ)) (m : List (List (Term ℕ))). l ∷ m) own' (from-same g' g (suc b) (i - suc b) (λ j u v. others j (omega arith) (λ q. let z : ⊥ = omega arith in z)))))) in
          record {
            rest = ys;
            own = others i h (λ q. let z : ⊥ = omega arith in z) ∙ e;
            below = omega arith;
            most = omega arith;
            lists =
                ap₂ (λ (l m : List (List (Term ℕ))). l ++ spliced m (seek cmp p y ys (list_from g' (suc i) (6 - suc i)))) low no-mid
                ∙ (ap (λ (u : Pass ℕ). (list_from g 0 b ++ (k ∷ list_from g (suc b) (i - suc b))) ++ spliced [] u) after
                ∙ (append_assoc (list_from g 0 b) (k ∷ list_from g (suc b) (i - suc b)) (spliced [] t)
                ∙ (ap (λ (l : List (List (Term ℕ))). list_from g 0 b ++ (k ∷ (list_from g (suc b) (i - suc b) ++ l))) (splice-start t.at t.lead t.own t.above)
                ∙ (ap (λ (u : Pass ℕ). list_from g 0 b ++ spliced (list_from g (suc b) (i - suc b)) u) (sym before) ∙ s.lists))));
            at-is = ap (λ (u : Pass ℕ). where_at i (suc i) u.at) after ∙ (sym (where-replaced i t.at) ∙ (ap (λ (u : Pass ℕ). where_at b i u.at) (sym before) ∙ s.at-is));
            lead_is = ap (λ (u : Pass ℕ). u.lead) after ∙ (ap (λ (u : Pass ℕ). u.lead) (sym before) ∙ s.lead_is);
            count =
                let c1 : length (seek cmp p x s.rest (list_from g i (6 - i))).pairs ≡ suc (length t.pairs) = ap (λ (u : Pass ℕ). length u.pairs) before in
                let c2 : length (seek cmp p y ys (list_from g' (suc i) (6 - suc i))).pairs ≡ length t.pairs = ap (λ (u : Pass ℕ). length u.pairs) after in
                omega (arith, s.count, c1, c2);
          }

  -- no bucket is ahead
  module _ (h : 6 ≤ i) where
    last : seek cmp p x s.rest (list_from g i (6 - i)) ≡ record { lead = x; at = 0; own = s.rest; above = []; pairs = [] }
    unfolding seek
    last = ap (seek cmp p x s.rest) (ap (list_from g i) (let z : 6 - i ≡ 0 = omega arith in z) ∙ from-none g i)

    pub ends-lists : list_from g 0 6 ≡ G
    ends-lists =
        let bel = s.below in
        let top = s.most in
        from_at g b (omega arith)
        ∙ (ap₂ (λ (l : List (Term ℕ)) (m : List (List (Term ℕ))). list_from g 0 b ++ (l ∷ m)) s.own (ap (list_from g (suc b)) (let z : 5 - b ≡ i - suc b = omega arith in z) ∙ sym (append-nil (list_from g (suc b) (i - suc b))))
        ∙ (ap (λ (u : Pass ℕ). list_from g 0 b ++ spliced (list_from g (suc b) (i - suc b)) u) (sym last) ∙ s.lists))

    pub ends_at : b ≡ A
    ends_at = ap (λ (u : Pass ℕ). where_at b i u.at) (sym last) ∙ s.at-is

    pub ends-lead : x ≡ L
    ends-lead = ap (λ (u : Pass ℕ). u.lead) (sym last) ∙ s.lead_is

    pub ends-count : n ≡ N
    ends-count = omega (arith, s.count, ap (λ (u : Pass ℕ). length u.pairs) last)
