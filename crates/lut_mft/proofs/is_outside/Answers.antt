-- `lut_mft::is_outside` meets its contract: the one test or the other.
-- Assumes nothing.
use Rattle.lut_mft.proofs.Laws.{outside-laws}
use borrow.Author.Rules.{rules}
use Rattle.lut_mft.proofs.is_outside.Goals as goal

pub returns-else-x-low : goal.returns-else-x-low
returns-else-x-low c = search (rules, outside-laws)

pub returns-then-x-low : goal.returns-then-x-low
returns-then-x-low c = search (rules, outside-laws)
