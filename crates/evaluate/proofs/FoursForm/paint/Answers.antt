-- `evaluate::Fours::paint` meets its contract: four axes.
-- Assumes nothing.
use borrow.Author.Rules.{rules}
use Rattle.evaluate.proofs.Pixels.{three_in, place4, three-asks, written4}
use Rattle.evaluate.proofs.FoursForm.paint.Goals as goal

pub along-x0-requires : goal.along-x0-requires
along-x0-requires c = search (rules, three_in)

pub along-x1-requires : goal.along-x1-requires
along-x1-requires c = search (rules, three_in)

pub along-x2-requires : goal.along-x2-requires
along-x2-requires c = search (rules, three_in)

pub along-x3-requires : goal.along-x3-requires
along-x3-requires c = search (rules, three_in)

pub place-at-requires : goal.place-at-requires
place-at-requires c = search (rules, place4)

pub three_fours-requires : goal.three_fours-requires
three_fours-requires c = search (rules, three-asks)

pub returns : goal.returns
returns c = search (rules, written4)
