-- Numbers parted by a byte, as the code reads them. Assumes nothing.
use Rattle.std.specs.Prelude.{Some, None, Option as Answered}
use Prim.Native.Nat.{ℕ, suc, ◌+◌, ◌≤◌, ◌<◌}
use native.Mathlib.Numerals.{add-one}
use native.Mathlib.Omega.{arith}
use mathlib.Core.Path.{◌≡◌, refl, sym, ap, ◌∙◌}
use mathlib.Core.List.{List, [], ◌∷◌, ◌++◌, map, append-nil}
use mathlib.Core.Option.{Option, none, some}
use lib.ListN.{length, drop, get_or, set, length-append, length-map, drop_of_length-le}
use lib.Seq.{sets, drop-cons}
use Rattle.text.specs.Bytes.{parts}
use Rattle.text.specs.Numbers.{and_then, number_of}
use Rattle.merge_common.proofs.Lists.{sets-snoc}
use Rattle.grammar.specs.Reading.{numbers_of}
use Rattle.grammar.specs.Parts.{capped, CountedAs, ReadNumbers}
use Rattle.grammar.proofs.Prefix.{map_snoc, before, before_more, before-none}

pub record Counting (b : ℕ) (s bytes₀ bytes : List ℕ) (count : ℕ) : Type 0 where
  pub done : List ℕ
  pub number : length done ≡ count
  pub whole : before done (numbers_of (drop count (parts b s))) ≡ numbers_of (parts b s)
  pub stored : bytes ≡ sets bytes₀ 0 (map capped done)

pub counting-start : (b : ℕ) (s bytes : List ℕ) → Counting b s bytes bytes 0
counting-start b s bytes = record { done = []; number = refl; whole = before-none (numbers_of (parts b s)); stored = refl }

module _ {b : ℕ} {s bytes₀ bytes : List ℕ} {count : ℕ} (c : Counting b s bytes₀ bytes count) (part : List ℕ) (l : count < length (parts b s)) (is : part ≡ get_or (parts b s) count part) where
  next : drop count (parts b s) ≡ part ∷ drop (count + 1) (parts b s)
  next = rw (add-one count, drop-cons (parts b s) count part l) (ap (λ (p : List ℕ). p ∷ drop (suc count) (parts b s)) (sym is))

  pub counting_more : (v : ℕ) → number_of part ≡ some v → (bytes' : List ℕ) → bytes' ≡ set bytes count (capped v) → Counting b s bytes₀ bytes' (count + 1)
  unfolding numbers_of and_then
  counting_more v n bytes' x = record {
    done = c.done ++ (v ∷ []);
    number = simp length-append (omega (arith, c.number));
    whole = sym (before_more c.done v (numbers_of (drop (count + 1) (parts b s)))) ∙ (ap (λ (o : Option ℕ). before c.done (and_then o (λ u. and_then (numbers_of (drop (count + 1) (parts b s))) (λ us. some (u ∷ us))))) (sym n) ∙ (ap (λ (ps : List (List ℕ)). before c.done (numbers_of ps)) (sym next) ∙ c.whole));
    stored = x ∙ (ap (λ (l : List ℕ). set l count (capped v)) c.stored ∙ (ap (λ (k : ℕ). set (sets bytes₀ 0 (map capped c.done)) k (capped v)) (let z : count ≡ 0 + length (map capped c.done) = omega (arith, length-map c.done capped, c.number) in z) ∙ (sym (sets-snoc bytes₀ 0 (map capped c.done) (capped v)) ∙ ap (sets bytes₀ 0) (sym (map_snoc capped c.done v)))));
  }

  pub counting-bad : number_of part ≡ none → numbers_of (parts b s) ≡ none
  unfolding numbers_of and_then
  counting-bad n = sym c.whole ∙ (ap (λ (ps : List (List ℕ)). before c.done (numbers_of ps)) next ∙ ap (λ (o : Option ℕ). before c.done (and_then o (λ u. and_then (numbers_of (drop (count + 1) (parts b s))) (λ us. some (u ∷ us))))) n)

pub counted-bad : {b : ℕ} {s bytes bytes' : List ℕ} → numbers_of (parts b s) ≡ none → ReadNumbers b s bytes bytes' None
counted-bad e = record { is = rw e refl }

pub counting-end : {b : ℕ} {s bytes₀ bytes : List ℕ} {count : ℕ} → Counting b s bytes₀ bytes count → length (parts b s) ≤ count → ReadNumbers b s bytes₀ bytes (Some count)
unfolding numbers_of and_then
counting-end {b} {s} {bytes₀} {bytes} {count} c h =
    let w : some (c.done ++ []) ≡ numbers_of (parts b s) = ap (λ (ps : List (List ℕ)). before c.done (numbers_of ps)) (sym (drop_of_length-le (parts b s) h)) ∙ c.whole in
    record { is = rw (← w, append-nil) (ap Some (sym c.number), c.stored) }

-- ---- what the count tells
pub none-counted : (o : Option (List ℕ)) (bytes bytes' : List ℕ) (r : Answered ℕ) → CountedAs o bytes bytes' r → r ≡ None → o ≡ none
none-counted none bytes bytes' r d e = refl
none-counted (some es) bytes bytes' r d e = absurd (let x : r ≡ Some (length es) = d.0 in let z : ◌≡◌ {A = ℕ} 0 1 = cc in let y : ⊥ = omega arith in y)

pub record Stored (o : Option (List ℕ)) (bytes bytes' : List ℕ) (m : ℕ) : Type 0 where
  pub es : List ℕ
  pub is : o ≡ some es
  pub long : length es ≡ m
  pub stored : bytes' ≡ sets bytes 0 (map capped es)

pub all-counted : (o : Option (List ℕ)) (bytes bytes' : List ℕ) (r : Answered ℕ) (m : ℕ) → CountedAs o bytes bytes' r → r ≡ Some m → Stored o bytes bytes' m
all-counted none bytes bytes' r m d e = absurd (let x : r ≡ None = d in let z : ◌≡◌ {A = ℕ} 0 1 = cc in let y : ⊥ = omega arith in y)
all-counted (some es) bytes bytes' r m d e = let x : r ≡ Some (length es) = d.0 in record { es = es; is = refl; long = cc; stored = d.1 }

pub counted_none : {b : ℕ} {s bytes bytes' : List ℕ} {r : Answered ℕ} → ReadNumbers b s bytes bytes' r → r ≡ None → numbers_of (parts b s) ≡ none
counted_none {b} {s} {bytes} {bytes'} {r} d e = none-counted (numbers_of (parts b s)) bytes bytes' r d.is e

pub counted-all : {b : ℕ} {s bytes bytes' : List ℕ} {r : Answered ℕ} {m : ℕ} → ReadNumbers b s bytes bytes' r → r ≡ Some m → Stored (numbers_of (parts b s)) bytes bytes' m
counted-all {b} {s} {bytes} {bytes'} {r} {m} d e = all-counted (numbers_of (parts b s)) bytes bytes' r m d.is e
