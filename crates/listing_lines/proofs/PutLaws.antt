-- Texts put one after the other. Assumes nothing.
use Prim.Native.Nat.{ℕ, ◌+◌, ◌-◌, ◌≤◌, ◌<◌, ◌/◌, ◌%◌, min}
use native.Mathlib.Decide.{dec_le}
use native.Mathlib.Omega.{arith}
use mathlib.Core.Path.{◌≡◌, refl, sym, ap, ap₂, ◌∙◌}
use mathlib.Core.Bool.{Bool, true, false}
use mathlib.Core.List.{List, [], ◌∷◌, ◌++◌}
use borrow.Author.Tests.{ltb-true, ltb-false}
use lib.Dec.{ltb}
use lib.ListN.{length, take, drop, length-append}
use lib.Seq.{sets, length-sets, take_all, length-take-le}
use borrow.Rule.Slice.PartMut.{put_mid}
use Rattle.std.proofs.lemmas.List.{take-append-drop}
use Rattle.text.specs.Numbers.{decimal}
use Rattle.text.proofs.NumberLaws.{decimal_digit, decimal-more}
use Rattle.merge_common.proofs.Lists.{sets-append, sets-mid}
use Rattle.grammar.proofs.Prefix.{sets-out}
use Rattle.listing_lines.specs.Put.{Put}

pub put-nothing : (out : List ℕ) (at to : ℕ) → to ≡ min at (length out) → Put [] at out out to
put-nothing out at to e = record { is = refl; place = omega arith }

module _ {text : List ℕ} {at : ℕ} {out out' : List ℕ} {next : ℕ} (p : Put text at out out' next) where
  put-long : length out' ≡ length out
  put-long = ap length p.is ∙ length-sets out at text

  -- a second text behind the first
  pub put_both : {text' : List ℕ} {out'' : List ℕ} {last : ℕ} → Put text' next out' out'' last → Put (text ++ text') at out out'' last
  put_both {text'} {out''} {last} q = record {
    is = q.is ∙ (go (ltb (length out) (at + length text)) refl ∙ sym (sets-append out at text text'));
    place = let h : length (text ++ text') ≡ length text + length text' = length-append text text' in omega (arith, put-long, p.place, q.place);
  }
    where
      go : (b : Bool) → ltb (length out) (at + length text) ≡ b → sets out' next text' ≡ sets (sets out at text) (at + length text) text'
      go true e =
          let l : length out < at + length text = ltb-true _ _ e in
          let n : length out' ≤ next = omega (arith, put-long, p.place) in
          let m : length (sets out at text) ≤ at + length text = omega (arith, length-sets out at text) in
          sets-out out' next text' n ∙ (p.is ∙ sym (sets-out (sets out at text) (at + length text) text' m))
      go false e =
          let l : at + length text ≤ length out = ltb-false _ _ e in
          let n : next ≡ at + length text = omega (arith, p.place) in
          ap (λ (k : ℕ). sets out' k text') n ∙ ap (λ (x : List ℕ). sets x (at + length text) text') p.is

pub put_same : {text text' : List ℕ} {at : ℕ} {out out' : List ℕ} {next : ℕ} → text ≡ text' → Put text at out out' next → Put text' at out out' next
put_same e p = rw (← e) p

-- what fits of a text, put as a part
module _ (text out : List ℕ) (at : ℕ) where
  cut-text : (n : ℕ) → n ≤ length text → length out ≤ at + n → sets out at (take n text) ≡ sets out at text
  cut-text n h l =
      let e : length (take n text) ≡ n = length-take-le n text h in
      sym (ap (sets out at) (sym (take-append-drop n text)) ∙ (sets-append out at (take n text) (drop n text) ∙ sets-out (sets out at (take n text)) (at + length (take n text)) (drop n text) (omega (arith, length-sets out at (take n text)))))

  fitting : (from n : ℕ) → from ≡ min at (length out) → n ≡ min (length text) (length out - from) → sets out from (take n text) ≡ sets out at text
  fitting from n e f = by (dec_le at (length out)) (dec_le (length text) n)
    where
      by : Dec (at ≤ length out) → Dec (length text ≤ n) → sets out from (take n text) ≡ sets out at text
      by (yes h) (yes l) = ap₂ (λ (k : ℕ) (x : List ℕ). sets out k x) (let z : from ≡ at = omega arith in z) (take_all n text l)
      by (yes h) (no l) = ap (λ (k : ℕ). sets out k (take n text)) (let z : from ≡ at = omega arith in z) ∙ cut-text n (omega arith) (omega arith)
      by (no h) l = ap (λ (k : ℕ). sets out from (take k text)) (let z : n ≡ 0 = omega arith in z) ∙ sym (sets-out out at text (omega arith))

  pub put-part : (from n : ℕ) → from ≡ min at (length out) → n ≡ min (length text) (length out - from) → {ys : List ℕ} → ys ≡ take n text → Put text at out (put_mid from (from + n - from) out ys) (from + n)
  put-part from n e f y =
      let k : length (take n text) ≡ n = length-take-le n text (omega arith) in
      record { is = sets-mid out from (from + n - from) (take n text) (omega arith) y (omega arith) ∙ fitting from n e f; place = omega arith }

-- the digits of a number
pub put-digit : (v : ℕ) {at : ℕ} {out out' : List ℕ} {to : ℕ} → v < 10 → Put ((48 + v) ∷ []) at out out' to → Put (decimal v) at out out' to
put-digit v h p = put_same (sym (decimal_digit v h)) p

pub put-digits : (v : ℕ) {at : ℕ} {out out' out'' : List ℕ} {to to' : ℕ} → 10 ≤ v → Put (decimal (v / 10)) at out out' to → Put ((48 + v % 10) ∷ []) to out' out'' to' → Put (decimal v) at out out'' to'
put-digits v h p q = put_same (sym (decimal-more v h)) (put_both p q)
