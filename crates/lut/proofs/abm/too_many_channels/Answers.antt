-- `lut::abm::too_many_channels` meets its contract: each way out is a test.
-- Assumes nothing.
use Rattle.lut.proofs.Laws.{few_inputs, many_inputs}
use borrow.Author.Rules.{rules}
use Rattle.lut.proofs.abm.too_many_channels.Goals as goal

pub returns-then-u8_at-gt4 : goal.returns-then-u8_at-gt4
returns-then-u8_at-gt4 c = search (rules, many_inputs)

pub returns-else-u8_at-gt4 : goal.returns-else-u8_at-gt4
returns-else-u8_at-gt4 c = search (rules, few_inputs)
