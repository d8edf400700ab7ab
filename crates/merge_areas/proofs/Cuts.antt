-- A turn at the front of two falling lists, and one at their end. Assumes nothing.
use mathlib.Core.Path.{◌≡◌, sym, ap, ◌∙◌, subst}
use mathlib.Core.List.{List, [], ◌∷◌, ◌++◌}
use Prim.Native.Nat.{ℕ, ◌+◌, ◌%◌, ◌<◌, compare, Ordering}
use native.Mathlib.Omega.{arith}
use lib.ListN.{length, length-append}
use Rattle.monomial.proofs.OrderLaws.{numbers-order}
use Rattle.polynomial.specs.Terms.{Term, term, All, here, Under, Falling}
use Rattle.polynomial.specs.Merge.{keep, merge}
use Rattle.polynomial.proofs.MergeLaws.{merge_less, merge-same, merge-more, turned-gt, under_more}
use Rattle.merge_common.proofs.State.{keep_some}
use Rattle.polynomial.proofs.TwoEnded.{keep_append, alike, alike-parts, alike-last-more, alike-last-less, alike-last-same, merge-last-more, merge-last-less, merge-last-same}

-- ---- parts of falling lists
pub all_left : {A : Type 0} (P : Term A → Type 0) (ts us : List (Term A)) → All P (ts ++ us) → All P ts
all_left P [] us a = tt
all_left P (t ∷ ts) us a = (a.0, all_left P ts us a.1)

pub falling-left : {A : Type 0} (cmp : A → A → Ordering) (ts us : List (Term A)) → Falling cmp (ts ++ us) → Falling cmp ts
falling-left cmp [] us f = tt
falling-left cmp (t ∷ ts) us f = (all_left (λ u. cmp t.mono u.mono ≡ Ordering.gt) ts us f.0, falling-left cmp ts us f.1)

pub falling-right : {A : Type 0} (cmp : A → A → Ordering) (ts us : List (Term A)) → Falling cmp (ts ++ us) → Falling cmp us
falling-right cmp [] us f = f
falling-right cmp (t ∷ ts) us f = falling-right cmp ts us f.1

-- the term of word w and coefficient v, if any, is the first of the merge of xs and ys, and xs' and ys' are left; or the last
pub record First (p : ℕ) (xs ys : List (Term ℕ)) (w v : ℕ) (xs' ys' : List (Term ℕ)) : Type 0 where
  pub whole : merge compare p xs ys ≡ keep w v [] ++ merge compare p xs' ys'
  pub count : 1 + (length xs' + length ys') + alike compare xs ys ≡ length xs + length ys + alike compare xs' ys'

pub record Last (p : ℕ) (xs ys : List (Term ℕ)) (w v : ℕ) (xs' ys' : List (Term ℕ)) : Type 0 where
  pub whole : merge compare p xs ys ≡ merge compare p xs' ys' ++ keep w v []
  pub count : 1 + (length xs' + length ys') + alike compare xs ys ≡ length xs + length ys + alike compare xs' ys'

module _ (p x c y d : ℕ) (pc : 0 < c) (pd : 0 < d) (xs ys : List (Term ℕ)) where
  module _ (f : Falling compare (term x c ∷ xs)) (g : Falling compare (term y d ∷ ys)) where
    pub first-less : compare x y ≡ Ordering.lt → First p (term x c ∷ xs) (term y d ∷ ys) y d (term x c ∷ xs) ys
    first-less h =
        let k = turned-gt compare numbers-order x y h in
        let q = alike-parts compare numbers-order [] (term x c ∷ xs) (term y d ∷ []) ys tt ((k, under_more compare numbers-order y x k xs f.0), tt) in
        record {
          whole = merge_less compare p (term x c) xs (term y d) ys h ∙ ap (λ (l : List (Term ℕ)). l ++ merge compare p (term x c ∷ xs) ys) (sym (keep_some y d [] pd));
          count = omega (arith, q);
        }

    pub first_more : compare x y ≡ Ordering.gt → First p (term x c ∷ xs) (term y d ∷ ys) x c xs (term y d ∷ ys)
    first_more h =
        let q = alike-parts compare numbers-order (term x c ∷ []) xs [] (term y d ∷ ys) ((h, under_more compare numbers-order x y h ys g.0), tt) tt in
        record {
          whole = merge-more compare p (term x c) xs (term y d) ys h ∙ ap (λ (l : List (Term ℕ)). l ++ merge compare p xs (term y d ∷ ys)) (sym (keep_some x c [] pc));
          count = omega (arith, q);
        }

    pub first-same : compare x y ≡ Ordering.eq → First p (term x c ∷ xs) (term y d ∷ ys) x ((c + d) % p) xs ys
    first-same h =
        let e = numbers-order.same x y h in
        let q = alike-parts compare numbers-order (term x c ∷ []) xs (term y d ∷ []) ys (subst (λ (m : ℕ). Under compare m ys) (sym e) g.0, tt) (subst (λ (m : ℕ). Under compare m xs) e f.0, tt) in
        let o : here (compare x y) 1 ≡ 1 = ap (λ (o : Ordering). here o 1) h in
        record {
          whole = merge-same compare p (term x c) xs (term y d) ys h ∙ keep_append x ((c + d) % p) [] (merge compare p xs ys);
          count = omega (arith, q, o);
        }

  module _ (f : Falling compare (xs ++ term x c ∷ [])) (g : Falling compare (ys ++ term y d ∷ [])) where
    sizes : (length (xs ++ term x c ∷ []) ≡ length xs + 1) × (length (ys ++ term y d ∷ []) ≡ length ys + 1)
    sizes = (omega (arith, length-append xs (term x c ∷ [])), omega (arith, length-append ys (term y d ∷ [])))

    pub last_less : compare x y ≡ Ordering.lt → Last p (xs ++ term x c ∷ []) (ys ++ term y d ∷ []) x c xs (ys ++ term y d ∷ [])
    last_less h = record {
      whole = merge-last-less compare numbers-order p xs (term x c) ys (term y d) g h ∙ ap (λ (l : List (Term ℕ)). merge compare p xs (ys ++ term y d ∷ []) ++ l) (sym (keep_some x c [] pc));
      count = omega (arith, sizes, alike-last-less compare numbers-order xs (term x c) ys (term y d) g h);
    }

    pub last_more : compare x y ≡ Ordering.gt → Last p (xs ++ term x c ∷ []) (ys ++ term y d ∷ []) y d (xs ++ term x c ∷ []) ys
    last_more h = record {
      whole = merge-last-more compare numbers-order p xs (term x c) ys (term y d) f h ∙ ap (λ (l : List (Term ℕ)). merge compare p (xs ++ term x c ∷ []) ys ++ l) (sym (keep_some y d [] pd));
      count = omega (arith, sizes, alike-last-more compare numbers-order xs (term x c) ys (term y d) f h);
    }

    pub last-same : compare x y ≡ Ordering.eq → Last p (xs ++ term x c ∷ []) (ys ++ term y d ∷ []) x ((c + d) % p) xs ys
    last-same h = record {
      whole = merge-last-same compare numbers-order p xs (term x c) ys (term y d) f g h;
      count = omega (arith, sizes, alike-last-same compare numbers-order xs (term x c) ys (term y d) f g h);
    }
