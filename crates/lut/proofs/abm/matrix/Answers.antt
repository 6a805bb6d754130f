-- `lut::abm::matrix` meets its contract: nine numbers, or the identity.
-- Assumes nothing.
use Rattle.lut.proofs.PartLaws.{array_laws}
use borrow.Author.Rules.{rules}
use Rattle.lut.proofs.abm.matrix.Goals as goal

pub returns-then-at-eq0 : goal.returns-then-at-eq0
returns-then-at-eq0 c = search (rules, array_laws)

pub returns : goal.returns
returns c = search (rules, array_laws)
