-- `evaluate::corners::three_planes` meets its contract: three planes, written one behind the other.
-- Assumes nothing.
use borrow.Author.Rules.{rules}
use Rattle.evaluate.proofs.Channels.{places-in, three_planes}
use Rattle.evaluate.proofs.corners.three_planes.Goals as goal

pub bounds-out-to-2 : goal.bounds-out-to-2
bounds-out-to-2 c = search (rules, places-in)

pub bounds-out-to-3 : goal.bounds-out-to-3
bounds-out-to-3 c = search (rules, places-in)

pub returns : goal.returns
returns c = search (rules, three_planes)
