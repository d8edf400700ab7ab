-- A polynomial whose keys are put into a place of their own, for the last bucket. Assumes nothing.
use mathlib.Core.Path.{◌≡◌, sym, ap₂, ◌∙◌}
use mathlib.Core.List.{List, [], ◌∷◌, map}
use Prim.Native.Nat.{ℕ, ◌-◌, ◌≤◌}
use native.Mathlib.Omega.{arith}
use lib.ListN.{length, take, drop, length-map}
use lib.Seq.{sets}
use Rattle.limits.specs.Limits.{most_terms}
use Rattle.monomial.specs.declared.order.Order.{Order}
use Rattle.monomial.specs.Words.{key_of}
use Rattle.polynomial.specs.Terms.{terms, Reduced}
use Rattle.merge_common.specs.Lent.{part}
use Rattle.space.specs.Space.{Buckets}
use Rattle.space.proofs.SpaceLaws.{part-put}
use Rattle.buckets.specs.Last.{MergeLast, Large}

-- the coefficients are what is reduced
reduced-keys : (f : ℕ → ℕ) (p : ℕ) (ws cs : List ℕ) → Reduced p (terms ws cs) → Reduced p (terms (map f ws) cs)
reduced-keys f p [] cs r = tt
reduced-keys f p (w ∷ ws) [] r = tt
reduced-keys f p (w ∷ ws) (c ∷ cs) r = (r.0, reduced-keys f p ws cs r.1)

module _ {o : Order} {p : ℕ} {b : Buckets} {fw fc sw sc : List ℕ} (a : Large o p b fw fc sw sc) where
  pub large-fits : (keys : List ℕ) → length keys ≡ most_terms → length fw ≤ length keys
  large-fits keys e = omega (arith, e, a.room)

  pub keys-there : (keys : List ℕ) → length keys ≡ most_terms → {keys' : List ℕ} → keys' ≡ sets keys 0 (map (key_of o) fw) → take (length fw - 0) (drop 0 keys') ≡ map (key_of o) fw
  keys-there keys e {keys'} h =
      let l : length (map (key_of o) fw) ≡ length fw = length-map fw (key_of o) in
      ap₂ (λ (n : ℕ) (s : List ℕ). part 0 n s) (let z : length fw - 0 ≡ length fw = omega arith in z ∙ sym l) h ∙ part-put keys 0 (map (key_of o) fw) (omega (arith, l, large-fits keys e))

  pub keys-last : MergeLast p b (map (key_of o) fw) fc sw sc
  keys-last = record {
    modulus = a.modulus;
    laid = a.laid;
    lent = record { long = a.long ∙ sym (length-map fw (key_of o)); reduced = reduced-keys (key_of o) p fw fc a.reduced };
    there = a.there;
    room = omega (arith, a.room, length-map fw (key_of o));
    words_long = a.words_long;
    coefs-long = a.coefs-long;
  }
