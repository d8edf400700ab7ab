-- From one state of a merge to a later one, and on to a third. Assumes nothing.
use mathlib.Core.Path.{◌≡◌, refl, sym, ap, ap₂, ◌∙◌, subst}
use mathlib.Core.List.{List, ◌++◌, append-nil, append_assoc}
use mathlib.Core.Logic.{◌⊎◌, inl, inr, ⊎_elim}
use Prim.Native.Nat.{ℕ, ◌<◌, ◌≤◌, compare}
use native.Mathlib.Omega.{arith}
use lib.ListN.{length}
use Rattle.polynomial.specs.Terms.{Term, All, Falling, Reduced}
use Rattle.polynomial.specs.Merge.{merge}
use Rattle.polynomial.proofs.TwoEnded.{all_right}
use Rattle.merge_areas.specs.declared.turns.Ends.{Ends}
use Rattle.merge_areas.specs.Ways.{between, left_of, right_of, Ready, Reducing, Leads, Goes}
use Rattle.merge_areas.proofs.Windows.{split, between_none, between-like}
use Rattle.merge_areas.proofs.Cuts.{all_left, falling-left, falling-right}

-- what holds of a list and goes over to both its parts holds of the terms at inner places
inner : (P : List (Term ℕ) → Type 0) → ((ts us : List (Term ℕ)) → P (ts ++ us) → P ts) → ((ts us : List (Term ℕ)) → P (ts ++ us) → P us)
    → (ws cs : List ℕ) → length cs ≡ length ws → (a a' e' e : ℕ) → a ≤ a' → a' ≤ e' → e' ≤ e → e ≤ length ws → P (between ws cs a e) → P (between ws cs a' e')
inner P first second ws cs long a a' e' e h k l m q =
    first (between ws cs a' e') (between ws cs e' e)
    (subst P (split ws cs long a' e' e k l m)
    (second (between ws cs a a') (between ws cs a' e)
    (subst P (split ws cs long a a' e h (omega arith) m) q)))

pub falling-inner : (ws cs : List ℕ) → length cs ≡ length ws → (a a' e' e : ℕ) → a ≤ a' → a' ≤ e' → e' ≤ e → e ≤ length ws → Falling compare (between ws cs a e) → Falling compare (between ws cs a' e')
falling-inner = inner (λ l. Falling compare l) (falling-left compare) (falling-right compare)

all-inner : (P : Term ℕ → Type 0) (ws cs : List ℕ) → length cs ≡ length ws → (a a' e' e : ℕ) → a ≤ a' → a' ≤ e' → e' ≤ e → e ≤ length ws → All P (between ws cs a e) → All P (between ws cs a' e')
all-inner P = inner (λ l. All P l) (all_left P) (all_right P)

-- the terms at places that were not written
module _ {p : ℕ} {ww wc ww' wc' : List ℕ} {s r : Ends} (long : length wc ≡ length ww) (l : Leads p ww wc s ww' wc' r) where
  pub outside : (a b : ℕ) → b ≤ length ww → (b ≤ s.d) ⊎ (s.e ≤ a) → between ww' wc' a b ≡ between ww wc a b
  outside a b h u =
      between-like ww wc ww' wc' a b long l.words_long l.coefs-long h
      (λ t g k. l.words-else t (⊎_elim (λ v. inl (omega arith)) (λ v. inr (omega arith)) u))
      (λ t g k. l.coefs-else t (⊎_elim (λ v. inl (omega arith)) (λ v. inr (omega arith)) u))

module _ {p : ℕ} {ww wc ww' wc' : List ℕ} {s r : Ends} (y : Ready ww wc s) (l : Leads p ww wc s ww' wc' r) where
  left-stays : left_of ww' wc' r ≡ left_of ww wc r
  left-stays = outside y.long l r.i r.ie (omega (arith, y, l)) (⊎_elim (λ v. inl (omega (arith, l))) (λ v. inr (omega (arith, l))) y.left-apart)

  right-stays : right_of ww' wc' r ≡ right_of ww wc r
  right-stays = outside y.long l r.j r.je (omega (arith, y, l)) (⊎_elim (λ v. inl (omega (arith, l))) (λ v. inr (omega (arith, l))) y.right-apart)

  pub ready-after : Ready ww' wc' r
  ready-after = record {
    left-falls = subst (λ (x : List (Term ℕ)). Falling compare x) (sym left-stays) (falling-inner ww wc y.long s.i r.i r.ie s.ie l.left-from l.left_in l.left-to y.left_end y.left-falls);
    right-falls = subst (λ (x : List (Term ℕ)). Falling compare x) (sym right-stays) (falling-inner ww wc y.long s.j r.j r.je s.je l.right-from l.right-in l.right-to y.right_end y.right-falls);
    left_in = l.left_in;
    right-in = l.right-in;
    left_end = omega (arith, y, l);
    right_end = omega (arith, y, l);
    long = l.coefs-long ∙ (y.long ∙ sym l.words_long);
    room = l.room;
    place = omega (arith, y, l);
    left-apart = ⊎_elim (λ v. inl (omega (arith, l))) (λ v. inr (omega (arith, l))) y.left-apart;
    right-apart = ⊎_elim (λ v. inl (omega (arith, l))) (λ v. inr (omega (arith, l))) y.right-apart;
    turns-room = omega (arith, y, l);
  }

  pub reducing-after : Reducing p ww wc s → Reducing p ww' wc' r
  reducing-after q =
      let P : Term ℕ → Type 0 = λ t. (0 < t.coef) × (t.coef < p) in
      record {
        modulus = q.modulus;
        left-reduced = subst (λ (x : List (Term ℕ)). Reduced p x) (sym left-stays) (all-inner P ww wc y.long s.i r.i r.ie s.ie l.left-from l.left_in l.left-to y.left_end q.left-reduced);
        right-reduced = subst (λ (x : List (Term ℕ)). Reduced p x) (sym right-stays) (all-inner P ww wc y.long s.j r.j r.je s.je l.right-from l.right-in l.right-to y.right_end q.right-reduced);
      }

-- nothing was done yet
pub leads-start : {p : ℕ} {ww wc : List ℕ} {s : Ends} → Ready ww wc s → Leads p ww wc s ww wc s
leads-start {p} {ww} {wc} {s} y = record {
  whole =
      let m : List (Term ℕ) = merge compare p (left_of ww wc s) (right_of ww wc s) in
      sym (ap₂ (λ (u v : List (Term ℕ)). u ++ (m ++ v)) (between_none ww wc s.d s.d (omega arith)) (between_none ww wc s.e s.e (omega arith)) ∙ append-nil m);
  left-from = omega arith;
  left-to = omega arith;
  left_in = y.left_in;
  right-from = omega arith;
  right-to = omega arith;
  right-in = y.right-in;
  front = omega arith;
  back = omega arith;
  room = y.room;
  turns-room = omega arith;
  words-else = λ t u. refl;
  coefs-else = λ t u. refl;
  words_long = refl;
  coefs-long = refl;
}

pub goes-start : {p : ℕ} {ww wc : List ℕ} {s : Ends} → Ready ww wc s → Goes p ww wc s ww wc s
goes-start y = record { leads = leads-start y; counted = refl }

regroup : (f g m b c : List (Term ℕ)) → f ++ ((g ++ (m ++ b)) ++ c) ≡ (f ++ g) ++ (m ++ (b ++ c))
regroup f g m b c = simp append_assoc

-- one after the other
module _ {p : ℕ} {ww wc w1 c1 w2 c2 : List ℕ} {s q r : Ends} (y : Ready ww wc s) (l : Leads p ww wc s w1 c1 q) (m : Leads p w1 c1 q w2 c2 r) where
  pub leads-on : Leads p ww wc s w2 c2 r
  leads-on =
      let z = ready-after y l in
      let v = ready-after z m in
      let f : between w2 c2 s.d r.d ≡ between w1 c1 s.d q.d ++ between w2 c2 q.d r.d =
      split w2 c2 v.long s.d q.d r.d l.front m.front (omega (arith, v))
      ∙ ap (λ (x : List (Term ℕ)). x ++ between w2 c2 q.d r.d) (outside z.long m s.d q.d (omega (arith, z)) (inl (omega arith))) in
      let b : between w2 c2 r.e s.e ≡ between w2 c2 r.e q.e ++ between w1 c1 q.e s.e =
      split w2 c2 v.long r.e q.e s.e m.back l.back (omega (arith, y, l.words_long, m.words_long))
      ∙ ap (λ (x : List (Term ℕ)). between w2 c2 r.e q.e ++ x) (outside z.long m q.e s.e (omega (arith, y, l.words_long)) (inr (omega arith))) in
      let k : List (Term ℕ) = merge compare p (left_of w2 c2 r) (right_of w2 c2 r) in
      record {
        whole =
            l.whole
            ∙ (ap (λ (x : List (Term ℕ)). between w1 c1 s.d q.d ++ (x ++ between w1 c1 q.e s.e)) m.whole
            ∙ (regroup (between w1 c1 s.d q.d) (between w2 c2 q.d r.d) k (between w2 c2 r.e q.e) (between w1 c1 q.e s.e)
            ∙ sym (ap₂ (λ (u x : List (Term ℕ)). u ++ (k ++ x)) f b)));
        left-from = omega (arith, l, m);
        left-to = omega (arith, l, m);
        left_in = m.left_in;
        right-from = omega (arith, l, m);
        right-to = omega (arith, l, m);
        right-in = m.right-in;
        front = omega (arith, l, m);
        back = omega (arith, l, m);
        room = m.room;
        turns-room = omega (arith, l, m);
        words-else = λ t u. m.words-else t (⊎_elim (λ v. inl (omega (arith, l))) (λ v. inr (omega (arith, l))) u) ∙ l.words-else t u;
        coefs-else = λ t u. m.coefs-else t (⊎_elim (λ v. inl (omega (arith, l))) (λ v. inr (omega (arith, l))) u) ∙ l.coefs-else t u;
        words_long = m.words_long ∙ l.words_long;
        coefs-long = m.coefs-long ∙ l.coefs-long;
      }

pub goes_on : {p : ℕ} {ww wc w1 c1 w2 c2 : List ℕ} {s q r : Ends} → Ready ww wc s → Goes p ww wc s w1 c1 q → Goes p w1 c1 q w2 c2 r → Goes p ww wc s w2 c2 r
goes_on y l m = record { leads = leads-on y l.leads m.leads; counted = omega (arith, l.counted, m.counted) }
