-- `export_lut::mft_type` meets its contract: each arm has its signature.
-- Assumes nothing.
use borrow.Author.Tests.{eq-eqb, ne_eqb}
use Rattle.fields.specs.Tag.{signature_of}
use Rattle.export_lut.proofs.mft_type.Goals as goal

pub returns-then-size-eq1 : goal.returns-then-size-eq1
unfolding signature_of
returns-then-size-eq1 c = simp (eq-eqb _ _ c.if-size-eq1.true)

pub returns-else-size-eq1 : goal.returns-else-size-eq1
unfolding signature_of
returns-else-size-eq1 c = simp (ne_eqb _ _ c.if-size-eq1.false)
