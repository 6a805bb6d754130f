-- `lut::abm::value` meets its contract: each field is read where it stands.
-- Assumes nothing.
use Rattle.lut.proofs.Laws.{valued}
use borrow.Author.Rules.{rules}
use Rattle.lut.proofs.abm.value.Goals as goal

pub returns : goal.returns
returns c = search (rules, valued)
