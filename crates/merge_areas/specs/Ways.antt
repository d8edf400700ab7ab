-- The merge of two areas under way, from both ends. Assumes nothing.
use Prim.Native.Nat.{ℕ, suc, ◌+◌, ◌-◌, ◌<◌, ◌≤◌, compare}
use Rattle.std.specs.Prelude.{◌≡◌, List, ◌++◌, ◌⊎◌, length, get_or}
use Rattle.residue.specs.Modular.{Modulus}
use Rattle.polynomial.specs.Terms.{Term, terms, Falling, Reduced}
use Rattle.polynomial.specs.Merge.{merge, merge_count}
use Rattle.polynomial.proofs.TwoEnded.{alike}
use Rattle.merge_common.specs.Lent.{part}
use Rattle.merge_areas.specs.declared.turns.Ends.{Ends}

-- the terms at places a up to e
unfoldable pub between : (ws cs : List ℕ) (a e : ℕ) → List (Term ℕ)
between ws cs a e = terms (part a (e - a) ws) (part a (e - a) cs)

-- what is left of the two lists, and how much
abbrev pub left_of : (ww wc : List ℕ) → Ends → List (Term ℕ)
left_of ww wc s = between ww wc s.i s.ie

abbrev pub right_of : (ww wc : List ℕ) → Ends → List (Term ℕ)
right_of ww wc s = between ww wc s.j s.je

abbrev pub size : Ends → ℕ
size s = (s.ie - s.i) + (s.je - s.j)

-- two falling lists are left, with room for their terms apart from both
pub record Ready (ww wc : List ℕ) (s : Ends) : Type 0 where
  pub left-falls : Falling compare (left_of ww wc s)
  pub right-falls : Falling compare (right_of ww wc s)
  pub left_in : s.i ≤ s.ie
  pub right-in : s.j ≤ s.je
  pub left_end : s.ie ≤ length ww
  pub right_end : s.je ≤ length ww
  pub long : length wc ≡ length ww
  pub room : s.d + size s ≤ s.e
  pub place : s.e ≤ length ww
  pub left-apart : (s.ie ≤ s.d) ⊎ (s.e ≤ s.i)
  pub right-apart : (s.je ≤ s.d) ⊎ (s.e ≤ s.j)
  pub turns-room : s.turns + size s ≤ length ww

-- with coefficients from 1 to p - 1
pub record Reducing (p : ℕ) (ww wc : List ℕ) (s : Ends) : Type 0 where
  pub modulus : Modulus p
  pub left-reduced : Reduced p (left_of ww wc s)
  pub right-reduced : Reduced p (right_of ww wc s)

-- From s to r, terms of the merge were stored in front and at the back: the merge of what was left is what was stored in front, the merge of what is left, and what was stored at the back.
pub record Leads (p : ℕ) (ww wc : List ℕ) (s : Ends) (ww' wc' : List ℕ) (r : Ends) : Type 0 where
  pub whole : merge compare p (left_of ww wc s) (right_of ww wc s) ≡ between ww' wc' s.d r.d ++ (merge compare p (left_of ww' wc' r) (right_of ww' wc' r) ++ between ww' wc' r.e s.e)
  pub left-from : s.i ≤ r.i
  pub left-to : r.ie ≤ s.ie
  pub left_in : r.i ≤ r.ie
  pub right-from : s.j ≤ r.j
  pub right-to : r.je ≤ s.je
  pub right-in : r.j ≤ r.je
  pub front : s.d ≤ r.d
  pub back : r.e ≤ s.e
  pub room : r.d + size r ≤ r.e
  pub turns-room : r.turns + size r ≤ s.turns + size s
  pub words-else : (t : ℕ) → (t < s.d) ⊎ (s.e ≤ t) → get_or ww' t 0 ≡ get_or ww t 0
  pub coefs-else : (t : ℕ) → (t < s.d) ⊎ (s.e ≤ t) → get_or wc' t 0 ≡ get_or wc t 0
  pub words_long : length ww' ≡ length ww
  pub coefs-long : length wc' ≡ length wc

-- each turn used one term, or two like ones
abbrev pub Counted : (ww wc : List ℕ) (s : Ends) (ww' wc' : List ℕ) (r : Ends) → Type 0
Counted ww wc s ww' wc' r = r.turns + size r + alike compare (left_of ww wc s) (right_of ww wc s) ≡ s.turns + size s + alike compare (left_of ww' wc' r) (right_of ww' wc' r)

-- turns were made
pub record Goes (p : ℕ) (ww wc : List ℕ) (s : Ends) (ww' wc' : List ℕ) (r : Ends) : Type 0 where
  pub leads : Leads p ww wc s ww' wc' r
  pub counted : Counted ww wc s ww' wc' r

-- one turn was made
pub record Turned (p : ℕ) (ww wc : List ℕ) (s : Ends) (ww' wc' : List ℕ) (r : Ends) : Type 0 where
  pub goes : Goes p ww wc s ww' wc' r
  pub less : size r < size s
  pub left_one : s.ie - s.i ≤ suc (r.ie - r.i)
  pub right-one : s.je - s.j ≤ suc (r.je - r.j)

-- the rest of a list below the other one's last was stored at the back, which makes no comparison
pub record Rested (ww wc : List ℕ) (s : Ends) (ww' wc' : List ℕ) (r : Ends) : Type 0 where
  pub leads : (p : ℕ) → Leads p ww wc s ww' wc' r
  pub turns-stay : r.turns ≡ s.turns
  pub count : merge_count compare (left_of ww wc s) (right_of ww wc s) + alike compare (left_of ww' wc' r) (right_of ww' wc' r) ≡ size r

-- what was left of one list was stored in front
pub record MovedLeft (ww wc : List ℕ) (s : Ends) (ww' wc' : List ℕ) (r : Ends) : Type 0 where
  pub goes : (p : ℕ) → Goes p ww wc s ww' wc' r
  pub left-used : r.i ≡ r.ie
  pub right-used : r.j ≡ r.je

-- of the keys at places `from` up to `end`, those from k on are below `last`, and the one before k is not
pub record Above (ws : List ℕ) (from end last k : ℕ) : Type 0 where
  pub low : from ≤ k
  pub high : k ≤ end
  pub below : (t : ℕ) → k ≤ t → t < end → get_or ws t 0 < last
  pub stop : (k ≡ from) ⊎ (last ≤ get_or ws (k - 1) 0)

-- from the first list, where it has terms, or else from the second
abbrev pub Source : (i ie j from : ℕ) → Type 0
Source i ie j from = (i < ie → from ≡ i) × (ie ≤ i → from ≡ j)
