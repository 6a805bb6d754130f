-- `lut::abm::has_b_alone` meets its contract: each way out is a test.
-- Assumes nothing.
use Rattle.lut.proofs.PartLaws.{alone_not, alone_test}
use borrow.Author.Rules.{rules}
use Rattle.lut.proofs.abm.has_b_alone.Goals as goal

pub returns-then-runs-eq0 : goal.returns-then-runs-eq0
returns-then-runs-eq0 c = search (rules, alone_test)

pub returns-else-runs-eq0 : goal.returns-else-runs-eq0
returns-else-runs-eq0 c = search (rules, alone_not)
