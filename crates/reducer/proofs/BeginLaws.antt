-- Polynomial 0 is added first, or refused. Assumes nothing.
use mathlib.Core.Path.{◌≡◌, refl, sym, ap, ap₂, ◌∙◌, subst}
use mathlib.Core.List.{List}
use Prim.Native.Nat.{ℕ, ◌<◌, ◌≤◌, Ordering}
use native.Mathlib.Omega.{arith}
use lib.ListN.{length}
use Rattle.limits.specs.Limits.{most_terms}
use Rattle.residue.specs.Modular.{Modulus}
use Rattle.monomial.specs.declared.order.Order.{Order}
use Rattle.monomial.specs.Words.{compare_words}
use Rattle.polynomial.specs.Terms.{terms}
use Rattle.polynomial.proofs.TermLists.{length-terms}
use Rattle.geobucket.specs.Buckets.{empty, held}
use Rattle.space.specs.Space.{Buckets, no_buckets, Slices, Spaces, spaces, words_in, Standing}
use Rattle.space.proofs.InWords.{words-none}
use Rattle.refusal.specs.declared.Refusal.TheVariants.{TooManyTerms}
use Rattle.call.specs.declared.state.State.{State}
use Rattle.call.specs.States.{begun, counted, brought, halted}
use Rattle.call.specs.Lending.{Addend}
use Rattle.call.proofs.StandLaws.{none-stands}
use Rattle.buckets.specs.Adding.{Added, WordAddition}
use Rattle.reducer.specs.Stepping.{Beginning, Begun, refused, added}

pub held_none : held {A = ℕ} empty ≡ 0
unfolding held
held_none = refl

module _ {cmp : ℕ → ℕ → Ordering} {p : ℕ} {fw fc : List ℕ} (a : Addend cmp p fw fc) where
  long : length (terms fw fc) ≡ length fw
  long = length-terms fw fc a.long

module _ {o : Order} {p : ℕ} {fw fc : List ℕ} (a : Addend (compare_words o) p fw fc) {x : Spaces} where
  pub begin-refused : most_terms < length fw → {s s' : State} → s ≡ begun → s' ≡ halted s TooManyTerms → Begun o p (terms fw fc) x s' x
  begin-refused h es e = refused (let z : most_terms < length (terms fw fc) = omega (arith, long a) in z) (e ∙ ap (λ (x : State). halted x TooManyTerms) es) refl

  pub begin-done : length fw ≤ most_terms → {x' : Spaces} {n : ℕ} → Added o p x (terms fw fc) x' n → {s t s' : State} → s ≡ begun → t ≡ counted s n → s' ≡ brought t (length fw) → Begun o p (terms fw fc) x s' x'
  begin-done h {x'} {n} d es et e =
      added (let z : length (terms fw fc) ≤ most_terms = omega (arith, long a) in z) n d
      (e ∙ ap₂ (λ (x : State) (m : ℕ). brought x m) (et ∙ ap (λ (x : State). counted x n) es) (sym (long a)))

-- empty buckets in the lent spaces
module _ {b : Buckets} {ww wc bw bc : List ℕ} (none : b ≡ no_buckets) (q : Slices ww wc bw bc) where
  pub none-held : (o : Order) → words_in o (spaces b ww wc bw bc) ≡ empty
  none-held o = ap (λ (y : Buckets). words_in o (spaces y ww wc bw bc)) none ∙ words-none o ww wc bw bc

  pub none-standing : {p : ℕ} → Modulus p → Standing p (spaces b ww wc bw bc)
  none-standing {p} m = subst (λ (y : Buckets). Standing p (spaces y ww wc bw bc)) (sym none) (none-stands m q)

pub begin-asks : {o : Order} {p : ℕ} {fw fc : List ℕ} → Addend (compare_words o) p fw fc → length fw ≤ most_terms → {b : Buckets} {ww wc bw bc : List ℕ} → Beginning p b → Slices ww wc bw bc → WordAddition o p (spaces b ww wc bw bc) fw fc
begin-asks {o} a h e q = record { stands = none-standing e.none q e.modulus; long = a.long; canonical = a.canonical; room = omega (arith, ap held (none-held e.none q o), held_none) }
