-- The worked cases of a table view hold, jointly: each is computed.
-- Assumes nothing.
use mathlib.Core.Path.{refl}
use Rattle.icc.specs.Each.{Each}
use Rattle.lut_clut_meaning.specs.Table.{product, in_grid, point_of}
use Rattle.lut_view_meaning.specs.Cases.{Holds, cases}
use Rattle.lut_view_meaning.specs.View.{grid_from, entry_from, entry_of}

pub claim : Each Holds cases
unfolding Each Holds entry_of entry_from grid_from in_grid product point_of
claim = (refl, (refl, (refl, (refl, (refl, (refl, (refl, (refl, (refl, (refl, (refl, (refl, (refl, (refl, (refl, tt)))))))))))))))
