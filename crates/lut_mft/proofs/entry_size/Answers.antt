-- `lut_mft::entry_size` meets its contract: the type decides.
-- Assumes nothing.
use Rattle.lut_mft.proofs.Laws.{type-laws}
use borrow.Author.Rules.{rules}
use Rattle.lut_mft.proofs.entry_size.Goals as goal

pub returns-then-is_wide : goal.returns-then-is_wide
returns-then-is_wide c = search (rules, type-laws)

pub returns-else-is_wide : goal.returns-else-is_wide
returns-else-is_wide c = search (rules, type-laws)
