-- `lut_clut::count` meets its contract: what is left of the grid, from the product so far, has the answer of the whole.
-- Assumes nothing.
use Prim.Native.Nat.{◌<◌, ◌^◌}
use mathlib.Core.Path.{◌≡◌}
use lib.ListN.{drop}
use Rattle.lut_clut.specs.Counts.{counts_of}
use Rattle.lut_clut.proofs.Laws.{counts_from}
use Rattle.lut_clut.proofs.count.Given as goal

abbrev pub invariant-loop-dimension : goal.invariant-loop-dimension
invariant-loop-dimension l = (l.points < 2 ^ 32) × (counts_from l.points (drop l.dimension-index l.grid) l.outputs ≡ counts_of l.grid l.outputs)
