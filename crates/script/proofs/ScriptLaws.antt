-- A whole script as the code reads it, return by return. Assumes nothing.
use Rattle.std.specs.Prelude.{Some, None, Option as Answered}
use Prim.Native.Nat.{ℕ, ◌≤◌, ◌<◌}
use native.Mathlib.Omega.{arith}
use mathlib.Core.Path.{◌≡◌, refl, sym, ap, ◌∙◌, subst}
use mathlib.Core.List.{List, map}
use mathlib.Core.Option.{Option, none, some}
use borrow.Author.Tests.{le-leb, lt-leb}
use lib.ListN.{length, set, length-set, length-drop}
use lib.Seq.{sets}
use Rattle.limits.specs.Limits.{script_bytes}
use Rattle.monomial.specs.declared.order.Order.{Order}
use Rattle.monomial.specs.Layout.{Below, WeightsFit}
use Rattle.text.specs.Bytes.{parts}
use Rattle.text.specs.Numbers.{and_then}
use Rattle.script.specs.declared.line.Counts.{Counts}
use Rattle.grammar.specs.Grammar.{Line}
use Rattle.grammar.specs.Reading.{lines_of, with_header, script_of}
use Rattle.grammar.specs.Parts.{entry_word, HeadRead}
use Rattle.grammar.proofs.WeightsLaws.{six-small, six-fit}
use Rattle.script.specs.Loading.{entries_in, counts_of, LinesRoom, LinesAs, ReadLines, ScriptRoom, ReadScript}

module _ {s words coefs starts ops words' coefs' starts' ops' : List ℕ} where
  pub script-none : script_of s ≡ none → ReadScript s words coefs starts ops words' coefs' starts' ops' None
  script-none e = record { is = rw e refl }

  -- "At most 16,384 bytes"
  pub too_long : script_bytes < length s → ReadScript s words coefs starts ops words' coefs' starts' ops' None
  unfolding script_of
  too_long h = script-none (rw (lt-leb (length s) script_bytes h, script_of))

short : (s : List ℕ) → length s ≤ script_bytes → script_of s ≡ with_header (parts 10 s)
unfolding script_of
short s h = rw (le-leb (length s) script_bytes h, script_of)

pub no_header : {s words coefs starts ops : List ℕ} → length s ≤ script_bytes → with_header (parts 10 s) ≡ none → ReadScript s words coefs starts ops words coefs starts ops None
no_header {s} h e = script-none (short s h ∙ e)

module _ {s : List ℕ} {p : ℕ} {o : Order} {n : ℕ} {ws ls : List ℕ} (l : length s ≤ script_bytes) (d : HeadRead s p o n ws ls) where
  pub weights-fit : WeightsFit ws
  weights-fit = subst WeightsFit (sym d.weighed) (six-fit d.given)

  -- the weights are so small that no word is too large
  pub weights-small : {vs : List ℕ} → vs ≡ ws → Below 18 vs
  weights-small e = subst (Below 18) (sym (e ∙ d.weighed)) (six-small d.given)

  pub lines-room : (words coefs starts ops : List ℕ) → ScriptRoom (length words) (length coefs) (length starts) (length ops) → LinesRoom (length ls) (length words) (length coefs) (length (set starts 0 0)) (length ops)
  lines-room words coefs starts ops r =
      let b = length-set starts 0 0 in
      let k : length ls ≤ length s = omega (arith, ap length d.behind, length-drop d.from s) in
      record { terms-fit = omega (arith, k, r.words_long); same-long = r.coefs-long ∙ sym r.words_long; starts_fit = omega (arith, k, b, r.starts-long); pairs-fit = omega (arith, k, r.ops-long) }

  script-is : (x : Option (List Line)) → lines_of n (parts 10 ls) ≡ x → script_of s ≡ and_then x (λ xs. some (record { prime = p; order = o; vars = n; weights = d.given; lines = xs }))
  script-is x e = short s l ∙ (d.is ∙ ap (λ (y : Option (List Line)). and_then y (λ xs. some (record { prime = p; order = o; vars = n; weights = d.given; lines = xs }))) e)

  module _ {vs : List ℕ} (ve : vs ≡ ws) {words coefs starts ops words' coefs' starts' ops' : List ℕ} {r : Answered Counts} (t : ReadLines o vs n ls words coefs (set starts 0 0) ops words' coefs' starts' ops' r) where
    pub no_lines : r ≡ None → ReadScript s words coefs starts ops words' coefs' starts' ops' None
    unfolding and_then
    no_lines e = script-none (script-is none (go (lines_of n (parts 10 ls)) t.is))
      where
        go : (x : Option (List Line)) → LinesAs o vs x words coefs (set starts 0 0) ops words' coefs' starts' ops' r → x ≡ none
        go none q = refl
        go (some ks) q = absurd (let y : r ≡ Some (counts_of ks) = q.0 in let z : ◌≡◌ {A = ℕ} 0 1 = cc in let w : ⊥ = omega arith in w)

    pub script-read : (c : Counts) → r ≡ Some c → ReadScript s words coefs starts ops words' coefs' starts' ops' (Some (record { prime = p; order = o; vars = n; weights = ws; counts = c }))
    unfolding and_then
    script-read c e = go (lines_of n (parts 10 ls)) refl t.is
      where
        go : (x : Option (List Line)) → lines_of n (parts 10 ls) ≡ x → LinesAs o vs x words coefs (set starts 0 0) ops words' coefs' starts' ops' r → ReadScript s words coefs starts ops words' coefs' starts' ops' (Some (record { prime = p; order = o; vars = n; weights = ws; counts = c }))
        go none y q = absurd (let u : r ≡ None = q in let z : ◌≡◌ {A = ℕ} 0 1 = cc in let w : ⊥ = omega arith in w)
        go (some ks) y q =
            let u : r ≡ Some (counts_of ks) = q.0 in
            let k : c ≡ counts_of ks = cc in
            record {
              is = rw (script-is (some ks) y) (
                rw (k, d.weighed) refl,
                q.1 ∙ ap (λ (us : List ℕ). sets words 0 (map (entry_word o us) (entries_in ks))) (ve ∙ d.weighed),
                q.2,
                q.3,
                q.4,
              );
            }
