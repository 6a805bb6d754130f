-- `evaluate::Lines::paint` meets its contract: one axis.
-- Assumes nothing.
use borrow.Author.Rules.{rules}
use Rattle.evaluate.proofs.Pixels.{three_in, place1, three-asks, written1}
use Rattle.evaluate.proofs.LinesForm.paint.Goals as goal

pub along-x0-requires : goal.along-x0-requires
along-x0-requires c = search (rules, three_in)

pub place-at-requires : goal.place-at-requires
place-at-requires c = search (rules, place1)

pub three_lines-requires : goal.three_lines-requires
three_lines-requires c = search (rules, three-asks)

pub returns : goal.returns
returns c = search (rules, written1)
