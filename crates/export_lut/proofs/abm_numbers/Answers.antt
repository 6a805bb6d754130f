-- `export_lut::abm_numbers` meets its contract: each number is that of its word.
-- Assumes nothing.
use Rattle.export_lut.proofs.abm_numbers.Goals as goal

pub returns : goal.returns
returns c = cc
