-- `evaluate::corners::cube` meets its contract: two planes, blended.
-- Assumes nothing.
use borrow.Author.Rules.{rules}
use Rattle.evaluate.proofs.Channels.{cubed}
use Rattle.evaluate.proofs.corners.cube.Goals as goal

pub returns : goal.returns
returns c = search (rules, cubed)
