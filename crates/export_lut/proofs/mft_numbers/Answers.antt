-- `export_lut::mft_numbers` meets its contract: each number is that of its word.
-- Assumes nothing.
use Rattle.export_lut.proofs.mft_numbers.Goals as goal

pub returns : goal.returns
returns c = cc
