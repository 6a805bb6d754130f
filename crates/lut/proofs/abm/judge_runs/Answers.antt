-- `lut::abm::judge_runs` meets its contract: runs of no curves are good.
-- Assumes nothing.
use Rattle.lut.proofs.PartLaws.{alone_judged}
use borrow.Author.Rules.{rules}
use Rattle.lut.proofs.abm.judge_runs.Goals as goal

pub returns-then-has_b_alone : goal.returns-then-has_b_alone
returns-then-has_b_alone c = search (rules, alone_judged)
