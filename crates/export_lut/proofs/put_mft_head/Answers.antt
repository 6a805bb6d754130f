-- `export_lut::put_mft_head` meets its contract.
-- Assumes nothing.
use Rattle.export_lut.proofs.put_mft_head.Goals as goal

pub returns : goal.returns
returns c = rw c.mft_type.ensures at c.put_numbers.ensures
