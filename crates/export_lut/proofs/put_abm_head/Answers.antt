-- `export_lut::put_abm_head` meets its contract.
-- Assumes nothing.
use Rattle.export_lut.proofs.put_abm_head.Goals as goal

pub returns : goal.returns
returns c = rw c.abm_type.ensures at c.put_numbers.ensures
