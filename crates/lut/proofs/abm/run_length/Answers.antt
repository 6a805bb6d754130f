-- `lut::abm::run_length` meets its contract: a run that is there has a curve for each channel.
-- Assumes nothing.
use Rattle.lut.proofs.PartLaws.{few-laws}
use borrow.Author.Rules.{rules}
use Rattle.lut.proofs.abm.run_length.Goals as goal

pub returns-then-offset-eq0 : goal.returns-then-offset-eq0
returns-then-offset-eq0 c = search (rules, few-laws)

pub returns-else-offset-eq0 : goal.returns-else-offset-eq0
returns-else-offset-eq0 c = search (rules, few-laws)
