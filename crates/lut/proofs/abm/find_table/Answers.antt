-- `lut::abm::find_table` meets its contract: no table, or the one that is read.
-- Assumes nothing.
use Rattle.lut.proofs.Laws.{table_none, table_there}
use borrow.Author.Rules.{rules}
use Rattle.lut.proofs.abm.find_table.Goals as goal

pub returns-then-at-eq0 : goal.returns-then-at-eq0
returns-then-at-eq0 c = search (rules, table_none, table_there)

pub returns : goal.returns
returns c = search (rules, table_there)
