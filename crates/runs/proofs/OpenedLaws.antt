-- What the opening checks of a run let pass can be run. Assumes nothing.
use mathlib.Core.Path.{◌≡◌, sym, ap, ◌∙◌, subst}
use mathlib.Core.Bool.{true}
use mathlib.Core.List.{List, [], ◌∷◌}
use Prim.Native.Nat.{ℕ, zero, suc, ◌+◌, ◌-◌, ◌*◌, ◌/◌, ◌%◌, ◌<◌, ◌≤◌}
use native.Mathlib.Omega.{arith}
use borrow.Author.Tests.{eqb-true, leb-true}
use lib.Dec.{leb, eqb}
use lib.ListN.{length, get_or}
use Rattle.limits.specs.Limits.{most_operations}
use Rattle.monomial.specs.Exponents.{order_of}
use Rattle.polynomial.proofs.OpeningLaws.{passes}
use Rattle.monomial.proofs.Places.{and_both}
use Rattle.polynomial.proofs.StartLaws.{good-within}
use Rattle.polynomial.specs.declared.setting.Setting.{Setting}
use Rattle.conditions.specs.Lengths.{pairs_good}
use Rattle.conditions.specs.Operations.{operation_good, operations_good}
use Rattle.opening.specs.Run.{Opened}
use Rattle.space.specs.Space.{Buckets, no_buckets}
use Rattle.call.specs.Lending.{Lent}
use Rattle.run_outcome.proofs.Follow.{one-there}
use Rattle.engine.specs.States.{Loaded}

-- 16,777,216 pairs at most, and no half one
pairs-whole : (len : ℕ) → pairs_good len ≡ true → (len ≡ 2 * (len / 2)) × (len / 2 ≤ most_operations)
unfolding pairs_good
pairs-whole len h =
    let e = and_both (eqb (len % 2) 0) (leb (len / 2) most_operations) h in
    (omega (arith, eqb-true (len % 2) 0 e.0), omega (arith, leb-true (len / 2) most_operations e.1))

additions-there : (ops : List ℕ) (polynomials : ℕ) → operations_good ops polynomials ≡ true → (j : ℕ) → 2 * j + 1 < length ops → get_or ops (2 * j) 0 ≡ 1 → get_or ops (2 * j + 1) 0 < polynomials
unfolding operations_good
additions-there [] n h j l e = absurd (let z : ⊥ = omega arith in z)
additions-there (code ∷ []) n h j l e = absurd (let z : ⊥ = omega arith in z)
additions-there (code ∷ (k ∷ ops)) n h zero l e = one-there code k n (and_both (operation_good code k n) (operations_good ops n) h).0 e
additions-there (code ∷ (k ∷ ops)) n h (suc j) l e =
    let z : 2 * suc j ≡ suc (suc (2 * j)) = omega arith in
    let w : 2 * suc j + 1 ≡ suc (suc (2 * j + 1)) = omega arith in
    subst (λ (m : ℕ). get_or (code ∷ (k ∷ ops)) m 0 < n) (sym w) (additions-there ops n (and_both (operation_good code k n) (operations_good ops n) h).1 j (omega arith) (ap (λ (m : ℕ). get_or (code ∷ (k ∷ ops)) m 0) (sym z) ∙ e))

module _ {t : Setting} {words coefs ss ops : List ℕ} {lbw lbc lww lwc low loc : ℕ} (o : Opened t words coefs ss ops lbw lbc lww lwc low loc) where
  abbrev p : ℕ
  p = t.p

  abbrev order : ℕ
  order = t.order

  abbrev n : ℕ
  n = t.n

  pub loaded : Loaded (order_of order) p words coefs ss ops
  loaded = record {
    modulus = record { two = o.prime.above; limit = omega (arith, o.limit) };
    long = sym o.lent;
    parts = λ k h. good-within ss (length words) o.starts k h;
    canonical = λ k h. (passes (order_of order) n t.weights p _ (o.polynomials k h)).0;
    pairs = length ops / 2;
    whole = (pairs-whole (length ops) o.pairs).0;
    most = (pairs-whole (length ops) o.pairs).1;
    there = λ j h e. let k = additions-there ops (length ss - 1) o.operations j (omega (arith, h, (pairs-whole (length ops) o.pairs).0)) e in omega (arith, k);
  }

pub spaces : {t : Setting} {words coefs ss ops : List ℕ} {b : Buckets} (bw bc ww wc ow oc : List ℕ) → b ≡ no_buckets → Opened t words coefs ss ops (length bw) (length bc) (length ww) (length wc) (length ow) (length oc) → Lent b bw bc ww wc ow oc
spaces bw bc ww wc ow oc e o = record { none = e; slices = record { work-words = o.work-words; work-coefs = o.work-coefs; words_long = o.bucket-words; coefs-long = o.bucket-coefs }; same-long = sym o.output }
