-- What settling asks. Assumes nothing.
use Rattle.std.specs.Prelude.{ℕ, ◌≡◌}
use Rattle.limits.specs.Limits.{bucket_places, work_places}
use Rattle.space.specs.Space.{Buckets, Laid}

-- buckets and spaces that can be settled
pub record Settlement (b : Buckets) (sw sc ww wc : ℕ) : Type 0 where
  pub laid : Laid b
  pub words : sw ≡ bucket_places
  pub coefs : sc ≡ bucket_places
  pub work-words : ww ≡ work_places
  pub work-coefs : wc ≡ work_places
