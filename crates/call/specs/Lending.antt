-- What is lent to a call: polynomials, spaces and output. Assumes nothing.
use Prim.Native.Nat.{ℕ, ◌-◌, ◌≤◌, Ordering}
use Rattle.std.specs.Prelude.{◌≡◌, List, length}
use Rattle.polynomial.specs.Terms.{Term, terms, Canonical}
use Rattle.polynomial.specs.Opening.{part_of}
use Rattle.space.specs.Space.{Buckets, list_from, no_buckets, Slices}

-- "Polynomial k is handed on as that part of the slices"
abbrev pub polynomial : (words coefs starts : List ℕ) → ℕ → List (Term ℕ)
polynomial words coefs starts k = terms (part_of starts k words) (part_of starts k coefs)

-- "Polynomial 0 is added first; the others are divisors."
abbrev pub divisors_of : (words coefs starts : List ℕ) → List (List (Term ℕ))
divisors_of words coefs starts = list_from (polynomial words coefs starts) 1 (length starts - 2)

-- a polynomial to add
pub record Addend (cmp : ℕ → ℕ → Ordering) (p : ℕ) (fw fc : List ℕ) : Type 0 where
  pub long : length fc ≡ length fw
  pub canonical : Canonical cmp p (terms fw fc)

-- an output with so many places written
pub record Output (places : ℕ) (ow oc : List ℕ) : Type 0 where
  pub same-long : length oc ≡ length ow
  pub fits : places ≤ length ow

-- empty buckets, and spaces of the right sizes, with anything in them
pub record Lent (b : Buckets) (bw bc ww wc ow oc : List ℕ) : Type 0 where
  pub none : b ≡ no_buckets
  pub slices : Slices ww wc bw bc
  pub same-long : length oc ≡ length ow
