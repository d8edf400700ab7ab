-- What the merge in place asks. Assumes nothing.
use Rattle.std.specs.Prelude.{ℕ, ◌-◌, ◌≤◌, List, length}
use Rattle.residue.specs.Modular.{Modulus}
use Rattle.merge_common.specs.Lent.{Poly, part}

-- a lent polynomial f, and one at places h up to e of a space, with as many places in front of it as f has terms
pub record Into (p : ℕ) (fw fc sw sc : List ℕ) (h e : ℕ) : Type 0 where
  pub modulus : Modulus p
  pub lent : Poly p fw fc
  pub there : Poly p (part h (e - h) sw) (part h (e - h) sc)
  pub room : length fw ≤ h
  pub ends : h ≤ e
  pub words-end : e ≤ length sw
  pub coefs-end : e ≤ length sc
