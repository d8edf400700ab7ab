-- The tests before a polynomial is checked or a part of it is read, and the multiple by a prepared factor. Assumes nothing.
use mathlib.Core.Path.{◌≡◌, refl}
use mathlib.Core.Bool.{true, ◌&&◌}
use mathlib.Core.List.{List, [], ◌∷◌}
use Prim.Native.Nat.{ℕ, zero, suc, ◌+◌, ◌≤◌, ◌<◌}
use native.Mathlib.Omega.{arith}
use lib.Dec.{leb, ltb, eqb}
use lib.ListN.{length, get_or}
use borrow.Author.Tests.{ltb-true, leb-true, eqb-true}
use Rattle.limits.specs.Limits.{largest_weight}
use Rattle.residue.specs.declared.factor.Factor.{Factor}
use Rattle.residue.specs.Share.{FactorOf}
use Rattle.residue.proofs.Shoup.{prepared}
use Rattle.monomial.specs.declared.order.Order.{Order}
use Rattle.monomial.proofs.Places.{and_both}
use Rattle.polynomial.specs.declared.setting.Setting.{Setting}
use Rattle.polynomial.specs.Settings.{setting_of, Testable}
use Rattle.polynomial.specs.Opening.{Within}
use Rattle.multiple.specs.Multiplying.{Multiplicands, Multiplied}
use Rattle.probe.specs.Answers.{weights_fit}
use Rattle.probe.specs.Lending.{checkable, part_there, Factors}
use Rattle.probe.proofs.WeightLaws.{weights-fit}

module _ (n : ℕ) (vs : List ℕ) (words coefs : ℕ) where
  -- what a check asks of the setting and the lengths
  module _ (h : checkable n vs words coefs ≡ true) where
    parts : (n ≤ 6) × (weights_fit largest_weight vs ≡ true) × (coefs ≡ words)
    unfolding checkable
    parts =
        let s = and_both (leb n 6) (weights_fit largest_weight vs && eqb coefs words) h in
        let t = and_both (weights_fit largest_weight vs) (eqb coefs words) s.1 in
        (leb-true n 6 s.0, t.0, eqb-true coefs words t.1)

    pub six-weights : length vs ≡ 6
    six-weights = (weights-fit largest_weight vs (omega arith) parts.1).six-are

    pub checks : (p order : ℕ) (t : Setting) → t ≡ setting_of p order n vs → Testable t × (coefs ≡ words)
    checks p order t e =
        let s : Testable (setting_of p order n vs) = record { few = parts.0; fit = weights-fit largest_weight vs (omega arith) parts.1 } in
        (rw e s, parts.2)

module _ (starts : List ℕ) (k len : ℕ) where
  pub there-within : part_there starts k len ≡ true → Within starts k len
  unfolding part_there
  there-within h =
      let s = and_both (ltb (k + 1) (length starts)) (leb (get_or starts k 0) (get_or starts (k + 1) 0) && leb (get_or starts (k + 1) 0) len) h in
      let t = and_both (leb (get_or starts k 0) (get_or starts (k + 1) 0)) (leb (get_or starts (k + 1) 0) len) s.1 in
      record {
        there = ltb-true (k + 1) (length starts) s.0;
        rise = leb-true (get_or starts k 0) (get_or starts (k + 1) 0) t.0;
        ends = leb-true (get_or starts (k + 1) 0) len t.1;
      }

-- within a list it does not matter what stands past its end
pub get_d-within : (l : List ℕ) (i d e : ℕ) → i < length l → get_or l i d ≡ get_or l i e
get_d-within [] i d e h = absurd (let z : ⊥ = omega arith in z)
get_d-within (x ∷ l) zero d e h = refl
get_d-within (x ∷ l) (suc i) d e h = get_d-within l i d e (omega arith)

module _ (p v q : ℕ) (f : Factor) (ws cs : List ℕ) (to : ℕ) (ow oc : List ℕ) (k : FactorOf p v f) where
  pub multiplicands : Factors p v q ws cs to ow oc → Multiplicands f q ws cs to ow oc
  multiplicands h = record {
    prepared = prepared p v f h.modulus h.below k;
    poly = rw k.prime-is h.poly;
    monomial = h.monomial;
    packed = h.packed;
    words-room = h.words-room;
    coefs-room = h.coefs-room;
  }

  pub multiplied : {o o' : Order} {ow' oc' : List ℕ} → o ≡ o' → Multiplied o f.prime f.value q ws cs to ow oc ow' oc' → Multiplied o' p v q ws cs to ow oc ow' oc'
  multiplied e h = rw (e, k.prime-is, k.value-is) at h
