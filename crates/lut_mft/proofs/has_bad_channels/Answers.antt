-- `lut_mft::has_bad_channels` meets its contract: each way out is a law of `bad_channels`.
-- Assumes nothing.
use Rattle.lut_mft.proofs.Laws.{channel-laws}
use borrow.Author.Rules.{rules}
use Rattle.lut_mft.proofs.has_bad_channels.Goals as goal

pub returns-then-is_outside-2 : goal.returns-then-is_outside-2
returns-then-is_outside-2 c = search (rules, channel-laws)

pub returns-then-inputs-ne3 : goal.returns-then-inputs-ne3
returns-then-inputs-ne3 c = search (rules, channel-laws)

pub returns-else-inputs-ne3 : goal.returns-else-inputs-ne3
returns-else-inputs-ne3 c = search (rules, channel-laws)
