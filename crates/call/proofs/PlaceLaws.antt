-- The terms that lie in an output and in the bucket space at return are those that were put there. Assumes nothing.
use mathlib.Core.Path.{◌≡◌, refl, ap, ap₂, ◌∙◌}
use mathlib.Core.List.{List, [], ◌∷◌, ◌++◌, map}
use Prim.Native.Nat.{ℕ, zero, suc, ◌+◌, ◌-◌, ◌*◌, ◌<◌, Ordering}
use native.Mathlib.Omega.{arith}
use lib.ListN.{length, take, drop, replicate, length-append}
use Rattle.polynomial.specs.Terms.{Term, terms, total, Reduced}
use Rattle.polynomial.specs.Terms as T
use Rattle.geobucket.specs.Buckets.{held, total_in, Canon}
use Rattle.geobucket.proofs.EventLaws.{total-append}
use Rattle.space.specs.Space.{laid_out}
use Rattle.call.specs.Places.{unless_zero, non_zero, written_in, held_at}

-- ---- terms that are not zero
pub non_zero-append : (xs ys : List (Term ℕ)) → non_zero (xs ++ ys) ≡ non_zero xs ++ non_zero ys
non_zero-append [] ys = refl
non_zero-append (x ∷ xs) ys = ap (unless_zero x.coef x) (non_zero-append xs ys) ∙ by x.coef
  where
    by : (c : ℕ) → unless_zero c x (non_zero xs ++ non_zero ys) ≡ unless_zero c x (non_zero xs) ++ non_zero ys
    by zero = refl
    by (suc c) = refl

pub non_zero-reduced : (p : ℕ) (xs : List (Term ℕ)) → Reduced p xs → non_zero xs ≡ xs
non_zero-reduced p [] r = refl
non_zero-reduced p (x ∷ xs) r = ap (unless_zero x.coef x) (non_zero-reduced p xs r.1) ∙ by x.coef r.0.0
  where
    by : (c : ℕ) → 0 < c → unless_zero c x xs ≡ x ∷ xs
    by zero h = absurd (let z : ⊥ = omega arith in z)
    by (suc c) h = refl

-- ---- the buckets side by side
abbrev pub flat : List (List (Term ℕ)) → List (Term ℕ)
flat [] = []
flat (b ∷ bs) = b ++ flat bs

pub flat-total : (cmp : ℕ → ℕ → Ordering) (m : ℕ) (bs : List (List (Term ℕ))) → total cmp m (flat bs) ≡ total_in cmp m bs
unfolding total_in total
flat-total cmp m [] = refl
flat-total cmp m (b ∷ bs) = total-append cmp m b (flat bs) ∙ ap (λ (k : ℕ). total cmp m b + k) (flat-total cmp m bs)

pub flat-held : (bs : List (List (Term ℕ))) → length (flat bs) ≡ held bs
unfolding held
flat-held [] = refl
flat-held (b ∷ bs) = length-append b (flat bs) ∙ ap (λ (k : ℕ). length b + k) (flat-held bs)

-- ---- the bucket space
terms-front : (b : List (Term ℕ)) (ws cs : List ℕ) → terms (T.words b ++ ws) (T.coefs b ++ cs) ≡ b ++ terms ws cs
terms-front [] ws cs = refl
terms-front (t ∷ b) ws cs = ap (λ (l : List (Term ℕ)). t ∷ l) (terms-front b ws cs)

zeros-pass : (k : ℕ) (ws cs : List ℕ) → non_zero (terms (replicate k 0 ++ ws) (replicate k 0 ++ cs)) ≡ non_zero (terms ws cs)
zeros-pass zero ws cs = refl
zeros-pass (suc k) ws cs = zeros-pass k ws cs

same-long : (b : List (Term ℕ)) → length (T.coefs b) ≡ length (T.words b)
same-long [] = refl
same-long (t ∷ b) = ap suc (same-long b)

pub held_back : (cmp : ℕ → ℕ → Ordering) (p cap : ℕ) (bs : List (List (Term ℕ))) → Canon cmp p bs → held_at (laid_out cap (map T.words bs)) (laid_out cap (map T.coefs bs)) ≡ flat bs
unfolding laid_out Canon
held_back cmp p cap [] c = refl
held_back cmp p cap (b ∷ bs) c =
    let gap = cap - length (T.words b) in
    let ws = laid_out (4 * cap) (map T.words bs) in
    let cs = laid_out (4 * cap) (map T.coefs bs) in
    ap (λ (n : ℕ). non_zero (terms (T.words b ++ (replicate gap 0 ++ ws)) (T.coefs b ++ (replicate (cap - n) 0 ++ cs)))) (same-long b)
    ∙ (ap non_zero (terms-front b (replicate gap 0 ++ ws) (replicate gap 0 ++ cs))
    ∙ (non_zero-append b (terms (replicate gap 0 ++ ws) (replicate gap 0 ++ cs)) ∙ ap₂ (λ (x y : List (Term ℕ)). x ++ y) (non_zero-reduced p b c.0.reduced) (zeros-pass gap ws cs ∙ held_back cmp p (4 * cap) bs c.1)))

-- ---- the output
take_words : (b : List (Term ℕ)) (r : List ℕ) → take (length b) (T.words b ++ r) ≡ T.words b
take_words [] r = refl
take_words (t ∷ b) r = ap (λ (l : List ℕ). t.mono ∷ l) (take_words b r)

take-coefs : (b : List (Term ℕ)) (r : List ℕ) → take (length b) (T.coefs b ++ r) ≡ T.coefs b
take-coefs [] r = refl
take-coefs (t ∷ b) r = ap (λ (l : List ℕ). t.coef ∷ l) (take-coefs b r)

terms-whole : (b : List (Term ℕ)) → terms (T.words b) (T.coefs b) ≡ b
terms-whole [] = refl
terms-whole (t ∷ b) = ap (λ (l : List (Term ℕ)). t ∷ l) (terms-whole b)

pub terms-back : (out : List (Term ℕ)) (rw rc : List ℕ) → terms (take (length out) (T.words out ++ rw)) (take (length out) (T.coefs out ++ rc)) ≡ out
terms-back out rw rc = ap₂ terms (take_words out rw) (take-coefs out rc) ∙ terms-whole out

pub written_back : (out : List (Term ℕ)) (rw rc : List ℕ) → written_in (length out) (T.words out ++ rw) (T.coefs out ++ rc) ≡ non_zero out
written_back out rw rc = ap non_zero (terms-back out rw rc)

pub words-past : (b : List (Term ℕ)) (r : List ℕ) → drop (length b) (T.words b ++ r) ≡ r
words-past [] r = refl
words-past (t ∷ b) r = words-past b r

pub coefs-past : (b : List (Term ℕ)) (r : List ℕ) → drop (length b) (T.coefs b ++ r) ≡ r
coefs-past [] r = refl
coefs-past (t ∷ b) r = coefs-past b r
