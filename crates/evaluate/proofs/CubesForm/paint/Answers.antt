-- `evaluate::Cubes::paint` meets its contract: three axes.
-- Assumes nothing.
use borrow.Author.Rules.{rules}
use Rattle.evaluate.proofs.Pixels.{three_in, place3, three-asks, written3}
use Rattle.evaluate.proofs.CubesForm.paint.Goals as goal

pub along-x0-requires : goal.along-x0-requires
along-x0-requires c = search (rules, three_in)

pub along-x1-requires : goal.along-x1-requires
along-x1-requires c = search (rules, three_in)

pub along-x2-requires : goal.along-x2-requires
along-x2-requires c = search (rules, three_in)

pub place-at-requires : goal.place-at-requires
place-at-requires c = search (rules, place3)

pub three_cubes-requires : goal.three_cubes-requires
three_cubes-requires c = search (rules, three-asks)

pub returns : goal.returns
returns c = search (rules, written3)
