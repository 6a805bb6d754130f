-- The worked cases of the colour table hold, jointly: each is computed.
-- Assumes nothing.
use mathlib.Core.Path.{refl}
use Rattle.icc.specs.Each.{Each}
use Rattle.fields.specs.Some.{some}
use Rattle.lut_clut_meaning.specs.Answer.{answer_of}
use Rattle.lut_clut_meaning.specs.Cases.{Holds, numbers_in, cases}
use Rattle.lut_clut_meaning.specs.Clut.{clut_of, grid_checked, data_of, partials}
use Rattle.lut_clut_meaning.specs.Table.{product, point_of}

pub claim : Each Holds cases
unfolding Each Holds numbers_in answer_of clut_of grid_checked data_of some partials product point_of
claim = (refl, (refl, (refl, (refl, (refl, (refl, (refl, (refl, (refl, (refl, (refl, (refl, (refl, (refl, (refl, (refl, (refl, (refl, (refl, (refl, (refl, (refl, (refl, (refl, (refl, tt)))))))))))))))))))))))))
