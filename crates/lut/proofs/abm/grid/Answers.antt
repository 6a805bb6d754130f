-- `lut::abm::grid` meets its contract: sixteen bytes, or zeros.
-- Assumes nothing.
use Rattle.lut.proofs.PartLaws.{array_laws, grid_fits}
use borrow.Author.Rules.{rules}
use Rattle.lut.proofs.abm.grid.Goals as goal

pub fill_bytes-requires : goal.fill_bytes-requires
fill_bytes-requires c = search (rules, grid_fits)

pub returns-then-at-ne0 : goal.returns-then-at-ne0
returns-then-at-ne0 c = search (rules, array_laws)

pub returns-else-at-ne0 : goal.returns-else-at-ne0
returns-else-at-ne0 c = search (rules, array_laws)
