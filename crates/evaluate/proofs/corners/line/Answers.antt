-- `evaluate::corners::line` meets its contract: two entries, blended.
-- Assumes nothing.
use borrow.Author.Rules.{rules}
use Rattle.evaluate.proofs.Channels.{lined}
use Rattle.evaluate.proofs.corners.line.Goals as goal

pub returns : goal.returns
returns c = search (rules, lined)
