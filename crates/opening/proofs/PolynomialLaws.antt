-- The polynomials in turn: what the loop that checks them keeps, and what polynomials that pass are. Assumes nothing.
use mathlib.Core.Path.{◌≡◌, refl, sym, ap, ap₂, ◌∙◌}
use mathlib.Core.Bool.{true}
use mathlib.Core.List.{List, [], ◌∷◌}
use Prim.Native.Nat.{ℕ, zero, suc, ◌+◌, ◌-◌, ◌<◌, ◌≤◌, min}
use native.Mathlib.Nat.{add-zero}
use native.Mathlib.Omega.{arith}
use lib.ListN.{length, get_or, drop, length-take, length-drop}
use Rattle.polynomial.specs.declared.setting.Setting.{Setting}
use Rattle.polynomial.specs.Terms.{terms}
use Rattle.polynomial.specs.Opening.{starts_good, part_of, first, polynomial_refusal}
use Rattle.polynomial.proofs.StartLaws.{none-bad}
use Rattle.opening.specs.Run.{refusal_at, refusal_from, polynomials_refusal}
use Rattle.polynomial.proofs.OpeningLaws.{first-none}
use Rattle.opening.proofs.Tests.{first_some}

-- good starts are not missing
pub some-starts : (ss : List ℕ) (len : ℕ) → starts_good ss len ≡ true → 1 ≤ length ss
some-starts ss len h = go ss h
  where
    go : (l : List ℕ) → starts_good l len ≡ true → 1 ≤ length l
    go [] e = let f = none-bad [] len refl in let z : ◌≡◌ {A = ℕ} 0 1 = cc in absurd (let y : ⊥ = omega arith in y)
    go (s ∷ l) e = omega arith

-- the parts of two slices of one length have one length
pub part_length : (ss : List ℕ) (k : ℕ) (ws cs : List ℕ) → length ws ≡ length cs → length (part_of ss k cs) ≡ length (part_of ss k ws)
part_length ss k ws cs e = long cs ∙ (ap (λ (m : ℕ). min (get_or ss (k + 1) 0 - get_or ss k 0) (m - get_or ss k 0)) (sym e) ∙ sym (long ws))
  where
    long : (l : List ℕ) → length (part_of ss k l) ≡ min (get_or ss (k + 1) 0 - get_or ss k 0) (length l - get_or ss k 0)
    long l = length-take (get_or ss (k + 1) 0 - get_or ss k 0) (drop (get_or ss k 0) l) ∙ ap (min (get_or ss (k + 1) 0 - get_or ss k 0)) (length-drop (get_or ss k 0) l)

module _ (t : Setting) (ws cs ss : List ℕ) where
  -- no polynomial below k is refused: the rest decides
  pub record Checked (k : ℕ) : Type 0 where
    pub low : k + 1 ≤ length ss
    pub rest : refusal_from t ws cs ss (length ss - (k + 1)) k ≡ polynomials_refusal t ws cs ss

  pub check-start : starts_good ss (length ws) ≡ true → Checked 0
  check-start h = record { low = some-starts ss (length ws) h; rest = refl }

  module _ (k : ℕ) (c : Checked k) where
    module _ (more : k + 1 < length ss) (a b : List ℕ) (r : ℕ) (ea : a ≡ part_of ss k ws) (eb : b ≡ part_of ss k cs) (er : r ≡ polynomial_refusal t (terms a b)) where
      at-polynomial : first r (refusal_from t ws cs ss (length ss - (k + 1 + 1)) (k + 1)) ≡ polynomials_refusal t ws cs ss
      unfolding refusal_from
      at-polynomial =
          ap (λ (q : ℕ). first q (refusal_from t ws cs ss (length ss - (k + 1 + 1)) (k + 1))) (er ∙ ap₂ (λ (x y : List ℕ). polynomial_refusal t (terms x y)) ea eb)
          ∙ (sym (ap (λ (m : ℕ). refusal_from t ws cs ss m k) (let e : length ss - (k + 1) ≡ suc (length ss - (k + 1 + 1)) = omega arith in e)) ∙ c.rest)

      pub check-stop : (r ≡ 0 → ⊥) → r ≡ polynomials_refusal t ws cs ss
      check-stop h = first_some r (refusal_from t ws cs ss (length ss - (k + 1 + 1)) (k + 1)) h ∙ at-polynomial

      pub check-next : r ≡ 0 → Checked (k + 1)
      check-next h = record {
        low = omega arith;
        rest = sym (ap (λ (q : ℕ). first q (refusal_from t ws cs ss (length ss - (k + 1 + 1)) (k + 1))) h) ∙ at-polynomial;
      }

    pub check-ends : length ss ≤ k + 1 → 0 ≡ polynomials_refusal t ws cs ss
    unfolding refusal_from
    check-ends h = sym (ap (λ (m : ℕ). refusal_from t ws cs ss m k) (let e : length ss - (k + 1) ≡ 0 = omega arith in e)) ∙ c.rest

  from-none : (more k : ℕ) → refusal_from t ws cs ss more k ≡ 0 → (j : ℕ) → j < more → refusal_at t ws cs ss (k + j) ≡ 0
  unfolding refusal_from
  from-none zero k h j l = absurd (let z : ⊥ = omega arith in z)
  from-none (suc more) k h zero l = ap (refusal_at t ws cs ss) (add-zero k) ∙ (first-none (refusal_at t ws cs ss k) (refusal_from t ws cs ss more (k + 1)) h).0
  from-none (suc more) k h (suc j) l =
      ap (refusal_at t ws cs ss) (let e : k + suc j ≡ k + 1 + j = omega arith in e)
      ∙ from-none more (k + 1) (first-none (refusal_at t ws cs ss k) (refusal_from t ws cs ss more (k + 1)) h).1 j (omega arith)

  pub polynomials-pass : polynomials_refusal t ws cs ss ≡ 0 → (k : ℕ) → k + 1 < length ss → polynomial_refusal t (terms (part_of ss k ws) (part_of ss k cs)) ≡ 0
  polynomials-pass h k l = ap (refusal_at t ws cs ss) (let e : k ≡ 0 + k = omega arith in e) ∙ from-none (length ss - 1) 0 h k (omega arith)
