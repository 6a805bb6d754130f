-- `evaluate::corners::some` meets its contract: four channels, three or one, all of those that are left.
-- Assumes nothing.
use borrow.Author.Rules.{rules}
use Rattle.evaluate.proofs.Channels.{left-fits, wrote}
use Rattle.evaluate.proofs.corners.some.Goals as goal

pub four_cubes-requires : goal.four_cubes-requires
four_cubes-requires c = search (rules, left-fits)

pub returns-then-left-ge4 : goal.returns-then-left-ge4
returns-then-left-ge4 c = search (rules, wrote)

pub three-requires : goal.three-requires
three-requires c = search (rules, left-fits)

pub returns-then-left-ge3 : goal.returns-then-left-ge3
returns-then-left-ge3 c = search (rules, wrote)

pub four-requires : goal.four-requires
four-requires c = search (rules, left-fits)

pub returns : goal.returns
returns c = search (rules, wrote)
