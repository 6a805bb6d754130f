-- `evaluate::corners::plane` meets its contract: two lines, blended.
-- Assumes nothing.
use borrow.Author.Rules.{rules}
use Rattle.evaluate.proofs.Channels.{planed}
use Rattle.evaluate.proofs.corners.plane.Goals as goal

pub returns : goal.returns
returns c = search (rules, planed)
