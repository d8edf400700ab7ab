-- A line as the code reads it, return by return. Assumes nothing.
use Rattle.std.specs.Prelude.{Some, None, Option as Answered}
use Prim.Native.Nat.{ℕ, ◌+◌, ◌-◌, ◌*◌, ◌≤◌, ◌<◌}
use native.Mathlib.Omega.{arith}
use mathlib.Core.Path.{◌≡◌, refl, sym, ap, ◌∙◌}
use mathlib.Core.Bool.{true, false}
use mathlib.Core.List.{List, [], ◌∷◌, map}
use mathlib.Core.Option.{Option, none, some}
use lib.ListN.{length, drop, set, length-drop}
use lib.Seq.{sets}
use Rattle.monomial.specs.declared.order.Order.{Order}
use Rattle.text.specs.Bytes.{begins, same, parts}
use Rattle.text.specs.Numbers.{and_then}
use Rattle.text.proofs.ByteLaws.{begins-is, same-is}
use Rattle.script.specs.declared.line.Counts.{Counts}
use Rattle.grammar.specs.Grammar.{Entry, lead_line, add-word, lead-word, sum-word}
use Rattle.grammar.specs.Reading.{fields_of, add_of, line_of}
use Rattle.grammar.specs.Parts.{entry_word, entry_coef}
use Rattle.script.specs.Loading.{ends_from, pairs_from, counts_behind, EntriesAs, ReadEntries, LineRoom, ReadLine, ReadAdd}

-- ---- an addition
module _ (o : Order) (vs : List ℕ) (at : ℕ) (words coefs words' coefs' : List ℕ) (r : Answered ℕ) where
  entries-bad : (x : Option (List Entry)) → EntriesAs o vs x at words coefs words' coefs' r → r ≡ None → x ≡ none
  entries-bad none d e = refl
  entries-bad (some ts) d e = absurd (let x : r ≡ Some (at + length ts) = d.0 in let z : ◌≡◌ {A = ℕ} 0 1 = cc in let y : ⊥ = omega arith in y)

  entries-all : (x : Option (List Entry)) (m : ℕ) → EntriesAs o vs x at words coefs words' coefs' r → r ≡ Some m → (ts : List Entry) × (x ≡ some ts) × (m ≡ at + length ts) × (words' ≡ sets words at (map (entry_word o vs) ts)) × (coefs' ≡ sets coefs at (map entry_coef ts))
  entries-all none m d e = absurd (let x : r ≡ None = d in let z : ◌≡◌ {A = ℕ} 0 1 = cc in let y : ⊥ = omega arith in y)
  entries-all (some ts) m d e = let x : r ≡ Some (at + length ts) = d.0 in (ts, refl, cc, d.1, d.2)

pub add-bad : {o : Order} {vs : List ℕ} {n : ℕ} {s : List ℕ} {at : ℕ} {words coefs words' coefs' : List ℕ} {r : Answered ℕ} {c : Counts} {starts ops starts' ops' : List ℕ} → ReadEntries o vs n s at words coefs words' coefs' r → r ≡ None → ReadAdd o vs n s c words coefs starts ops words' coefs' starts' ops' None
unfolding add_of and_then
add-bad {o} {vs} {n} {s} {at} {words} {coefs} {words'} {coefs'} {r} d e = record { is = rw (entries-bad o vs at words coefs words' coefs' r (fields_of n (parts 32 s)) d.is e) refl }

pub add_done : {o : Order} {vs : List ℕ} {n : ℕ} {s : List ℕ} {c : Counts} {words coefs starts ops words' coefs' ops' : List ℕ} {r : Answered ℕ} {m : ℕ} → ReadEntries o vs n s c.terms words coefs words' coefs' r → r ≡ Some m → ops' ≡ sets ops (2 * c.operations) (1 ∷ c.polynomials ∷ []) → ReadAdd o vs n s c words coefs starts ops words' coefs' (set starts (c.polynomials + 1) m) ops' (Some (record { terms = m; polynomials = c.polynomials + 1; operations = c.operations + 1 }))
unfolding add_of and_then ends_from pairs_from
add_done {o} {vs} {n} {s} {c} {words} {coefs} {starts} {ops} {words'} {coefs'} {ops'} {r} {m} d e p =
    let x = entries-all o vs c.terms words coefs words' coefs' r (fields_of n (parts 32 s)) m d.is e in
    record { is = rw x.1 (ap (λ (k : ℕ). Some (record { terms = k; polynomials = c.polynomials + 1; operations = c.operations + 1 })) x.2, x.3, x.4, ap (set starts (c.polynomials + 1)) x.2, p) }

-- ---- which line it is
module _ {o : Order} {vs : List ℕ} {n : ℕ} {s : List ℕ} {c : Counts} {words coefs starts ops : List ℕ} where
  pub is-lead : {ops' : List ℕ} {b : Counts} → same lead-word s ≡ true → ops' ≡ sets ops (2 * c.operations) (2 ∷ 0 ∷ []) → b ≡ counts_behind c lead_line → ReadLine o vs n s c words coefs starts ops words coefs starts ops' (Some b)
  unfolding line_of ends_from pairs_from
  is-lead l p q = record { is = rw l (ap Some q, refl, refl, refl, p) }

  pub is_sum : {ops' : List ℕ} {b : Counts} → same lead-word s ≡ false → same sum-word s ≡ true → ops' ≡ sets ops (2 * c.operations) (3 ∷ 0 ∷ []) → b ≡ counts_behind c lead_line → ReadLine o vs n s c words coefs starts ops words coefs starts ops' (Some b)
  unfolding line_of ends_from pairs_from
  is_sum l m p q = record { is = rw (l, m) (ap Some q, refl, refl, refl, p) }

  pub is_none : same lead-word s ≡ false → same sum-word s ≡ false → begins add-word s ≡ false → ReadLine o vs n s c words coefs starts ops words coefs starts ops None
  unfolding line_of
  is_none l m a = record { is = rw (l, m, a) refl }

  pub is-add : {words' coefs' starts' ops' : List ℕ} {r : Answered Counts} → same lead-word s ≡ false → same sum-word s ≡ false → begins add-word s ≡ true → (rest : List ℕ) → rest ≡ drop 3 s → ReadAdd o vs n rest c words coefs starts ops words' coefs' starts' ops' r → ReadLine o vs n s c words coefs starts ops words' coefs' starts' ops' r
  unfolding line_of
  is-add {words'} {coefs'} {starts'} {ops'} {r} l m a rest e d =
      let z : line_of n s ≡ add_of n rest = rw (l, m, a) (ap (add_of n) (sym e)) in
      record { is = rw z d.is }

-- ---- how long such lines are
pub lead-long : (s : List ℕ) → same lead-word s ≡ true → length s ≡ 4
lead-long s e = ap length (same-is lead-word s e)

pub sum-long : (s : List ℕ) → same sum-word s ≡ true → length s ≡ 3
sum-long s e = ap length (same-is sum-word s e)

pub add-long : (s : List ℕ) → begins add-word s ≡ true → 3 ≤ length s
add-long s e = rw (begins-is add-word s e) (omega arith)

-- ---- room for what a line puts
pub pair-room : (k l ops : ℕ) → 4 * k + l + 1 ≤ 2 * ops → 3 ≤ l → 2 * k + 2 ≤ ops
pair-room k l ops h m = omega arith

pub few-pairs : (k l ops : ℕ) → 4 * k + l + 1 ≤ 2 * ops → 3 ≤ l → ops < 9223372036854775808 → 2 * k < 9223372036854775808
few-pairs k l ops h m f = omega arith

pub add-room : (s rest : List ℕ) {c : Counts} {words coefs starts ops : ℕ} → rest ≡ drop 3 s → 3 ≤ length s → LineRoom (length s) c words coefs starts ops → LineRoom (length rest + 3) c words coefs starts ops
add-room s rest e h r =
    let z : length rest ≡ length s - 3 = ap length e ∙ length-drop 3 s in
    record { terms-fit = omega (arith, r.terms-fit); same-long = r.same-long; starts_fit = omega (arith, r.starts_fit); pairs-fit = omega (arith, r.pairs-fit) }
