-- `evaluate::pick` meets its contract: a coordinate, or 0.
-- Assumes nothing.
use borrow.Author.Rules.{rules}
use Rattle.evaluate.proofs.Pixels.{pick-laws}
use Rattle.evaluate.proofs.pick.Goals as goal

pub returns-then-n-k : goal.returns-then-n-k
returns-then-n-k c = search (rules, pick-laws)

pub returns : goal.returns
returns c = search (rules, pick-laws)
