-- `evaluate::corners::three_fours_by` meets its contract: three blends of four dimensions, written one behind the other.
-- Assumes nothing.
use borrow.Author.Rules.{rules}
use Rattle.evaluate.proofs.Channels.{places-in, three_of}
use Rattle.evaluate.proofs.corners.three_fours_by.Goals as goal

pub bounds-out-to-2 : goal.bounds-out-to-2
bounds-out-to-2 g c = search (rules, places-in)

pub bounds-out-to-3 : goal.bounds-out-to-3
bounds-out-to-3 g c = search (rules, places-in)

pub returns : goal.returns
returns g c = search (rules, three_of)
