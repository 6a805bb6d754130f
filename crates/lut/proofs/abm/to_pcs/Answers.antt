-- `lut::abm::to_pcs` meets its contract: the constant is the signature.
-- Assumes nothing.
use Prim.Native.Nat.{ℕ}
use mathlib.Core.Path.{ap}
use lib.Dec.{eqb}
use Rattle.fields.specs.Tag.{signature_of}
use borrow.Author.Rules.{rules}
use Rattle.lut.proofs.abm.to_pcs.Goals as goal

pub u32_at-requires : goal.u32_at-requires
unfolding signature_of
u32_at-requires c = search rules

pub returns : goal.returns
unfolding signature_of
returns c = ap (λ (n : ℕ). eqb n 0x6d414220) c.u32_at.ensures
