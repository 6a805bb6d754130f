-- `lut_mft::is_wide` meets its contract: the constant is the signature.
-- Assumes nothing.
use Prim.Native.Nat.{ℕ}
use mathlib.Core.Path.{ap}
use lib.Dec.{eqb}
use Rattle.fields.specs.Tag.{signature_of}
use Rattle.lut_mft_meaning.specs.Layout.{is_wide}
use borrow.Author.Rules.{rules}
use Rattle.lut_mft.proofs.is_wide.Goals as goal

pub u32_at-requires : goal.u32_at-requires
unfolding signature_of is_wide
u32_at-requires c = search rules

pub returns : goal.returns
unfolding signature_of is_wide
returns c = ap (λ (n : ℕ). eqb n 0x6d667432) c.u32_at.ensures
