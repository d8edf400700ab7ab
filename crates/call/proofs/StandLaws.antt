-- Empty buckets stand in the lent spaces. Assumes nothing.
use mathlib.Core.List.{List, ◌++◌}
use Prim.Native.Nat.{ℕ, compare}
use native.Mathlib.Omega.{arith}
use lib.ListN.{length-append}
use Rattle.residue.specs.Modular.{Modulus}
use Rattle.space.specs.Space.{no_buckets, Slices, spaces, Standing}
use Rattle.space.proofs.SpaceLaws.{stands-none}

pub none-stands : {p : ℕ} {ww wc bw bc : List ℕ} → Modulus p → Slices ww wc bw bc → Standing p (spaces no_buckets ww wc bw bc)
none-stands {p} {ww} {wc} {bw} {bc} m q = stands-none compare p (ww ++ bw) (wc ++ bc) m (omega (arith, length-append ww bw, q.work-words, q.words_long)) (omega (arith, length-append wc bc, q.work-coefs, q.coefs-long))
