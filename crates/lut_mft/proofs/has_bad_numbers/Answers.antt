-- `lut_mft::has_bad_numbers` meets its contract: each way out is a law of `bad_numbers`.
-- Assumes nothing.
use Rattle.lut_mft.proofs.Laws.{number-laws}
use borrow.Author.Rules.{rules}
use Rattle.lut_mft.proofs.has_bad_numbers.Goals as goal

pub returns-then-has_bad_channels : goal.returns-then-has_bad_channels
returns-then-has_bad_channels c = search (rules, number-laws)

pub returns-else-has_bad_channels : goal.returns-else-has_bad_channels
returns-else-has_bad_channels c = search (rules, number-laws)
