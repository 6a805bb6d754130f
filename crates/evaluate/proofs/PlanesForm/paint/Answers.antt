-- `evaluate::Planes::paint` meets its contract: two axes.
-- Assumes nothing.
use borrow.Author.Rules.{rules}
use Rattle.evaluate.proofs.Pixels.{three_in, place2, three-asks, written2}
use Rattle.evaluate.proofs.PlanesForm.paint.Goals as goal

pub along-x0-requires : goal.along-x0-requires
along-x0-requires c = search (rules, three_in)

pub along-x1-requires : goal.along-x1-requires
along-x1-requires c = search (rules, three_in)

pub place-at-requires : goal.place-at-requires
place-at-requires c = search (rules, place2)

pub three_planes-requires : goal.three_planes-requires
three_planes-requires c = search (rules, three-asks)

pub returns : goal.returns
returns c = search (rules, written2)
