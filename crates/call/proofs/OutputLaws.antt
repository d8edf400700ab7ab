-- The output, grown by some places. Assumes nothing.
use mathlib.Core.Path.{◌≡◌, refl, sym, ap, ap₂, ◌∙◌}
use mathlib.Core.List.{List, [], ◌∷◌, ◌++◌}
use Prim.Native.Nat.{ℕ, ◌+◌, ◌≤◌}
use native.Mathlib.Nat.{suc_inj}
use native.Mathlib.Omega.{arith}
use lib.ListN.{length, take, drop, length-append}
use lib.Seq.{sets, sets-eq, length-sets, length-take-le, take_at, drop_at}
use Rattle.polynomial.specs.Terms.{Term, term, terms}
use Rattle.polynomial.proofs.TermLists.{length-terms}
use Rattle.merge_common.specs.Lent.{part}
use Rattle.call.specs.Lending.{Output}

pub terms-append : (us vs ws cs : List ℕ) → length vs ≡ length us → terms (us ++ ws) (vs ++ cs) ≡ terms us vs ++ terms ws cs
terms-append [] [] ws cs e = refl
terms-append [] (v ∷ vs) ws cs e = absurd (let z : ⊥ = omega arith in z)
terms-append (u ∷ us) [] ws cs e = absurd (let z : ⊥ = omega arith in z)
terms-append (u ∷ us) (v ∷ vs) ws cs e = ap (λ (l : List (Term ℕ)). term u v ∷ l) (terms-append us vs ws cs (suc_inj e))

module _ (l : List ℕ) (at : ℕ) (vs : List ℕ) (h : at + length vs ≤ length l) where
  front : length (take at l ++ vs) ≡ at + length vs
  front = length-append (take at l) vs ∙ ap (λ (n : ℕ). n + length vs) (length-take-le at l (omega arith))

  pub take-grown : take (at + length vs) (sets l at vs) ≡ take at l ++ vs
  take-grown = ap (take (at + length vs)) (sets-eq vs l at h) ∙ take_at (take at l ++ vs) (drop (at + length vs) l) (at + length vs) front

  pub drop-grown : drop (at + length vs) (sets l at vs) ≡ drop (at + length vs) l
  drop-grown = ap (drop (at + length vs)) (sets-eq vs l at h) ∙ drop_at (take at l ++ vs) (drop (at + length vs) l) (at + length vs) front

-- the places written so far
pub written-long : {at : ℕ} {ow oc : List ℕ} → Output at ow oc → length (terms (part 0 at ow) (part 0 at oc)) ≡ at
written-long {at} {ow} {oc} o =
    let lw : length (take at ow) ≡ at = length-take-le at ow o.fits in
    let lc : length (take at oc) ≡ at = length-take-le at oc (omega (arith, o.fits, o.same-long)) in
    length-terms (take at ow) (take at oc) (lc ∙ sym lw) ∙ lw

-- vs and cs are put into the next places
module _ {at : ℕ} {ow oc : List ℕ} (o : Output at ow oc) (vs cs : List ℕ) (e : length cs ≡ length vs) (h : at + length vs ≤ length ow) where
  coefs-fit : at + length cs ≤ length oc
  coefs-fit = omega (arith, h, e, o.same-long)

  pub grown : terms (part 0 (at + length vs) (sets ow at vs)) (part 0 (at + length vs) (sets oc at cs)) ≡ terms (part 0 at ow) (part 0 at oc) ++ terms vs cs
  grown =
      let lw : length (take at ow) ≡ at = length-take-le at ow o.fits in
      let lc : length (take at oc) ≡ at = length-take-le at oc (omega (arith, o.fits, o.same-long)) in
      ap₂ terms (take-grown ow at vs h) (ap (λ (n : ℕ). take (at + n) (sets oc at cs)) (sym e) ∙ take-grown oc at cs coefs-fit)
      ∙ terms-append (take at ow) (take at oc) vs cs (lc ∙ sym lw)

  pub grown-output : Output (at + length vs) (sets ow at vs) (sets oc at cs)
  grown-output = record { same-long = length-sets oc at cs ∙ (o.same-long ∙ sym (length-sets ow at vs)); fits = omega (arith, h, length-sets ow at vs) }

  pub words-past : drop (at + length vs) (sets ow at vs) ≡ drop (at + length vs) ow
  words-past = drop-grown ow at vs h

  pub coefs-past : drop (at + length vs) (sets oc at cs) ≡ drop (at + length vs) oc
  coefs-past = ap (λ (n : ℕ). drop (at + n) (sets oc at cs)) (sym e) ∙ (drop-grown oc at cs coefs-fit ∙ ap (λ (n : ℕ). drop (at + n) oc) e)
