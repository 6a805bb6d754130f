-- `evaluate::corners::sample` meets its contract: one byte stands for both.
-- Assumes nothing.
use borrow.Author.Rules.{rules}
use Rattle.evaluate.proofs.Channels.{sampled}
use Rattle.evaluate.proofs.corners.sample.Goals as goal

pub returns : goal.returns
returns c = search (rules, sampled)
