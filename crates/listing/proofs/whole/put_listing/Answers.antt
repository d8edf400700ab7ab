-- `listing::whole::put_listing` meets its contract.
use native.Mathlib.Omega.{arith}
use mathlib.Core.Path.{refl, ap}
use Prim.Native.Nat.{ℕ}
use Rattle.limits.specs.Limits.{script_numbers, script_starts, script_terms}
use Rattle.listing_lines.specs.Listing.{refused_text}
use Rattle.listing_lines.proofs.PutLaws.{put_same}
use Rattle.listing.proofs.SizeLaws.{bad-listing, good-read, good-listing, prefix-in, prefix-long, prefix-most}
use Rattle.listing.proofs.whole.put_listing.Goals as goal

pub overflow_add-starts : goal.overflow_add-starts
overflow_add-starts c = let g = good-read c.read_script-found.ensures refl refl refl refl c.in-Some.l c.in-Some.is in omega (arith, g.starts-in)

pub overflow_mul-ops : goal.overflow_mul-ops
overflow_mul-ops c = let g = good-read c.read_script-found.ensures refl refl refl refl c.in-Some.l c.in-Some.is in omega (arith, g.pairs-in)

pub slice_bounds-words-end : goal.slice_bounds-words-end
slice_bounds-words-end c = let g = good-read c.read_script-found.ensures refl refl refl refl c.in-Some.l c.in-Some.is in prefix-in _ script_terms c.read_script-found.new.words g.terms-in g.words_long

pub slice_bounds-ps-end : goal.slice_bounds-ps-end
slice_bounds-ps-end c = let g = good-read c.read_script-found.ensures refl refl refl refl c.in-Some.l c.in-Some.is in prefix-long _ script_terms c.read_script-found.new.words g.terms-in g.words_long

pub slice_bounds-coefs-end : goal.slice_bounds-coefs-end
slice_bounds-coefs-end c = let g = good-read c.read_script-found.ensures refl refl refl refl c.in-Some.l c.in-Some.is in prefix-in _ script_terms c.read_script-found.new.coefs g.terms-in g.coefs-long

pub slice_bounds-ps-end-2 : goal.slice_bounds-ps-end-2
slice_bounds-ps-end-2 c = let g = good-read c.read_script-found.ensures refl refl refl refl c.in-Some.l c.in-Some.is in prefix-long _ script_terms c.read_script-found.new.coefs g.terms-in g.coefs-long

pub slice_bounds-starts-end : goal.slice_bounds-starts-end
slice_bounds-starts-end c = let g = good-read c.read_script-found.ensures refl refl refl refl c.in-Some.l c.in-Some.is in prefix-in _ script_starts c.read_script-found.new.starts g.starts-in g.starts-long

pub slice_bounds-ps-end-3 : goal.slice_bounds-ps-end-3
slice_bounds-ps-end-3 c = let g = good-read c.read_script-found.ensures refl refl refl refl c.in-Some.l c.in-Some.is in prefix-long _ script_starts c.read_script-found.new.starts g.starts-in g.starts-long

pub slice_bounds-ops-end : goal.slice_bounds-ops-end
slice_bounds-ops-end c = let g = good-read c.read_script-found.ensures refl refl refl refl c.in-Some.l c.in-Some.is in prefix-in _ script_numbers c.read_script-found.new.ops g.pairs-in g.ops-long

pub slice_bounds-list_run-end : goal.slice_bounds-list_run-end
slice_bounds-list_run-end c = let g = good-read c.read_script-found.ensures refl refl refl refl c.in-Some.l c.in-Some.is in prefix-long _ script_numbers c.read_script-found.new.ops g.pairs-in g.ops-long

pub list_run-requires : goal.list_run-requires
list_run-requires c = let g = good-read c.read_script-found.ensures refl refl refl refl c.in-Some.l c.in-Some.is in (prefix-most _ script_terms c.read_script-found.new.words g.terms-in g.words_long, prefix-most _ script_numbers c.read_script-found.new.ops g.pairs-in g.ops-long)

pub returns : goal.returns
returns c = good-listing (good-read c.read_script-found.ensures refl refl refl refl c.in-Some.l c.in-Some.is) c.list_run.ensures

pub returns-in_default : goal.returns-in_default
returns-in_default c = bad-listing c.read_script-found.ensures c.in_default.is (put_same (ap (λ (k : ℕ). refused_text k 0) c.number.ensures) c.put_refused.ensures)
