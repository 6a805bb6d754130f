-- `evaluate::Tables::paint` meets its contract: four axes, those that the table does not have empty. What lies far back is named by its place.
-- Assumes nothing.
use borrow.Author.Rules.{rules}
use Rattle.evaluate.proofs.Pixels.{axis-in, any_place, any_reach, any_written}
use Rattle.evaluate.proofs.TablesForm.paint.Goals as goal

pub along-x0-requires : goal.along-x0-requires
along-x0-requires c = search (rules, axis-in)

pub along-x1-requires : goal.along-x1-requires
along-x1-requires c = search (rules, axis-in)

pub along-x2-requires : goal.along-x2-requires
along-x2-requires c = search (rules, axis-in)

pub along-x3-requires : goal.along-x3-requires
along-x3-requires c = search (rules, axis-in)

pub place-at-requires : goal.place-at-requires
place-at-requires c = any_place _ _ _ _ _ _ _ c.requires.0 _ _ _ _ c.along-x0.ensures c.along-x1.ensures c.along-x2.ensures c.along-x3.ensures c.well_formed.0.0

pub paint-requires : goal.paint-requires
paint-requires c = any_reach _ _ _ _ _ _ _ c.requires.0 _ _ _ _ c.along-x0.ensures c.along-x1.ensures c.along-x2.ensures c.along-x3.ensures _ c.place-at.ensures

pub returns : goal.returns
returns c = any_written _ _ _ _ _ _ _ c.requires.0 _ _ _ _ c.along-x0.ensures c.along-x1.ensures c.along-x2.ensures c.along-x3.ensures _ c.place-at.ensures _ c.paint.ensures
