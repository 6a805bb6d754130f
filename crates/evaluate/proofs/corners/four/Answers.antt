-- `evaluate::corners::four` meets its contract: two cubes, blended.
-- Assumes nothing.
use borrow.Author.Rules.{rules}
use Rattle.evaluate.proofs.Channels.{foured}
use Rattle.evaluate.proofs.corners.four.Goals as goal

pub returns : goal.returns
returns c = search (rules, foured)
