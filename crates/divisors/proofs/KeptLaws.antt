-- What is kept of the divisors. Assumes nothing.
use mathlib.Core.Path.{◌≡◌, sym, ap, ◌∙◌, subst}
use mathlib.Core.List.{List}
use mathlib.Core.Logic.{◌⊎◌, inl, inr, ⊎_elim}
use Prim.Native.Nat.{ℕ, ◌-◌, ◌≤◌}
use native.Mathlib.Decide.{dec_le}
use native.Mathlib.Omega.{arith}
use lib.ListN.{length, get_or, set, length-set, replicate, get_or-replicate, get_or-eq_default}
use lib.Seq.{get_or-set_same, get_or-set_other}
use Rattle.residue.specs.Modular.{inverse_of}
use Rattle.multiple.specs.Multiplying.{highest_word}
use Rattle.divisors.specs.declared.kept.Cache.{Cache}
use Rattle.divisors.specs.Divisors.{lead_coef, tail_of, in_one, KeptAt, KeptNumbers, Keepable, PutOrNot, InverseKept, HighestKept}
use Rattle.divisors.proofs.DivisorLaws.{same_or_not}

-- ---- all of them
pub none_kept : (p : ℕ) (words coefs starts : List ℕ) → KeptNumbers p words coefs starts (record { inverses = replicate 1024 0; highest = replicate 1024 0 })
none_kept p words coefs starts = record {
  inverses = λ k l h. inl (get_or-replicate 1024 (k - 1) 0 0 (omega arith));
  tails = λ k l h. inl (get_or-replicate 1024 (k - 1) 0 0 (omega arith));
}

-- they stand where one is put that is right
put_one : (number : ℕ → ℕ) (kept : List ℕ) → KeptAt number kept → (k x : ℕ) → 1 ≤ k → x ≡ number k → KeptAt number (set kept (k - 1) x)
put_one number kept v k x low e i l h = by (same_or_not (i - 1) (k - 1)) (dec_le k (length kept))
  where
    by : (i - 1 ≡ k - 1) ⊎ (i - 1 ≡ k - 1 → ⊥) → Dec (k ≤ length kept) → (get_or (set kept (k - 1) x) (i - 1) 0 ≡ 0) ⊎ (get_or (set kept (k - 1) x) (i - 1) 0 ≡ number i)
    by (inl q) (yes r) = inr (ap (λ (j : ℕ). get_or (set kept (k - 1) x) j 0) q ∙ (get_or-set_same kept (k - 1) x 0 (omega arith) ∙ (e ∙ ap number (let z : k ≡ i = omega arith in z))))
    by (inl q) (no r) = inl (get_or-eq_default (set kept (k - 1) x) 0 (omega (arith, length-set kept (k - 1) x)))
    by (inr q) d = ⊎_elim (λ z. inl (get_or-set_other kept (k - 1) (i - 1) x 0 q ∙ z)) (λ z. inr (get_or-set_other kept (k - 1) (i - 1) x 0 q ∙ z)) (v i l h)

put_or : (number : ℕ → ℕ) {kept kept' : List ℕ} → KeptAt number kept → {k x : ℕ} → 1 ≤ k → x ≡ number k → PutOrNot k x kept kept' → KeptAt number kept'
put_or number {kept} v {k} {x} low e = ⊎_elim (λ q. subst (KeptAt number) (sym q) v) (λ q. subst (KeptAt number) (sym q.1) (put_one number kept v k x low e))

module _ {p : ℕ} {words coefs starts : List ℕ} {kept : Cache} (v : KeptNumbers p words coefs starts kept) {k : ℕ} (low : 1 ≤ k) where
  abbrev inverse : ℕ → ℕ
  inverse i = in_one p (inverse_of p (lead_coef coefs starts i))

  abbrev high : ℕ → ℕ
  high i = highest_word (tail_of starts i words)

  pub inverse-asks : Keepable k (in_one p (inverse_of p (lead_coef coefs starts k))) kept.inverses
  inverse-asks = record { low = low; here = v.inverses k low }

  pub inverse-kept : {x : ℕ} → x ≡ in_one p (inverse_of p (lead_coef coefs starts k)) → {kept' : Cache} → InverseKept k x kept kept' → KeptNumbers p words coefs starts kept'
  inverse-kept e d = record { inverses = put_or inverse v.inverses low e d.put; tails = subst (KeptAt high) (sym d.same) v.tails }

  module _ {tail : List ℕ} (t : tail ≡ tail_of starts k words) where
    pub tail-asks : Keepable k (highest_word tail) kept.highest
    tail-asks = record { low = low; here = λ few. rw t (v.tails k low few) }

    pub tail-kept : {x : ℕ} → x ≡ highest_word tail → {kept' : Cache} → HighestKept k x kept kept' → KeptNumbers p words coefs starts kept'
    tail-kept e d = record { inverses = subst (KeptAt inverse) (sym d.same) v.inverses; tails = put_or high v.tails low (e ∙ ap highest_word t) d.put }
