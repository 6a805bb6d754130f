-- `lut_mft::table_length` meets its contract: no product wraps.
-- Assumes nothing.
use Rattle.lut_mft.proofs.Laws.{channels_fit, table_fits, table_sized}
use borrow.Author.Rules.{rules}
use Rattle.lut_mft.proofs.table_length.Goals as goal

pub overflow_mul-result : goal.overflow_mul-result
overflow_mul-result c = search (rules, channels_fit)

pub overflow_mul-result-2 : goal.overflow_mul-result-2
overflow_mul-result-2 c = search (rules, table_fits)

pub returns : goal.returns
returns c = search (rules, table_sized)
