-- `lut_mft::has_bad_entries` meets its contract: either table's entries.
-- Assumes nothing.
use Rattle.lut_mft.proofs.Laws.{entries-laws}
use borrow.Author.Rules.{rules}
use Rattle.lut_mft.proofs.has_bad_entries.Goals as goal

pub returns-then-is_outside : goal.returns-then-is_outside
returns-then-is_outside c = search (rules, entries-laws)

pub returns-else-is_outside : goal.returns-else-is_outside
returns-else-is_outside c = search (rules, entries-laws)
