-- `lut::abm::device_channels` meets its contract: the direction says which channels these are.
-- Assumes nothing.
use Rattle.lut.proofs.PartLaws.{channel-laws}
use borrow.Author.Rules.{rules}
use Rattle.lut.proofs.abm.device_channels.Goals as goal

pub returns-then-to_pcs : goal.returns-then-to_pcs
returns-then-to_pcs c = search (rules, channel-laws)

pub returns-else-to_pcs : goal.returns-else-to_pcs
returns-else-to_pcs c = search (rules, channel-laws)
