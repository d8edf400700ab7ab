-- `monomial::exponents::exponent` meets its contract: what stands at the field's bits is the field.
use mathlib.Core.Path.{ap, ◌∙◌}
use Prim.Native.Nat.{ℕ, ◌/◌, ◌%◌, ◌^◌}
use Rattle.monomial.proofs.FieldLaws.{field_at}
use Rattle.monomial.proofs.exponents.exponent.Goals as goal

pub returns : goal.returns
returns c = let a = c.args in ap (λ (m : ℕ). a.w / 2 ^ m % 256) c.low_bit.ensures.0 ∙ field_at a.order a.w a.i c.requires
