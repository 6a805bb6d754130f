-- The worked cases of an evaluation hold, jointly: each is computed.
-- Assumes nothing.
use mathlib.Core.Path.{refl}
use Rattle.icc.specs.Each.{Each}
use Rattle.fields.specs.Some.{some}
use Rattle.lut_clut_meaning.specs.Table.{product, point_of}
use Rattle.lut_view_meaning.specs.View.{grid_from}
use Rattle.evaluate_meaning.specs.Cases.{Holds, cases}
use Rattle.evaluate_meaning.specs.Colour.{cell_of, rest_of, blend, between, colour_of, sample_at, corner_of, colours_from}
use Rattle.evaluate_meaning.specs.Corners.{corners_of, least, greatest, OnGrid}
use Rattle.evaluate_meaning.specs.Evaluate.{odd_numbers, outside, no_table, pixel_answer, pixel_after, colours_of, row_answer, row_after}

pub claim : Each Holds cases
unfolding Each Holds pixel_answer pixel_after row_answer row_after no_table odd_numbers outside some grid_from product point_of colours_of colours_from colour_of corner_of sample_at between blend cell_of rest_of corners_of least greatest OnGrid
claim = (refl, (refl, (refl, (refl, (refl, (refl, (refl, (refl, (refl, (refl, (refl, (refl, (refl, (refl, (refl, (refl, (refl, (refl, (refl, (refl, (refl, (refl, (refl, (refl, (refl, (refl, (refl, (refl, (refl, (refl, (refl, (refl, (refl, (refl, (refl, (refl, (refl, (refl, (refl, (refl, (refl, (refl, ((refl, refl, (refl, refl, refl)), (refl, (refl, tt)))))))))))))))))))))))))))))))))))))))))))))
