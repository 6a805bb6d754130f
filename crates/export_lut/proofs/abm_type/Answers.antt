-- `export_lut::abm_type` meets its contract: each arm has its signature.
-- Assumes nothing.
use Rattle.fields.specs.Tag.{signature_of}
use Rattle.export_lut.proofs.abm_type.Goals as goal

pub returns-then-towards : goal.returns-then-towards
unfolding signature_of
returns-then-towards c = simp c.if-towards.true

pub returns-else-towards : goal.returns-else-towards
unfolding signature_of
returns-else-towards c = simp c.if-towards.false
