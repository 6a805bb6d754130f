-- `lut_view::point_at` meets its contract: what is left of the grid, from the number so far, means the whole.
-- Assumes nothing.
use Prim.Native.Nat.{◌<◌, ◌-◌, ◌^◌}
use mathlib.Core.Path.{◌≡◌}
use lib.ListN.{drop}
use Rattle.lut_view_meaning.specs.View.{grid_from}
use Rattle.lut_view.specs.Point.{point_at}
use Rattle.lut_view.proofs.Laws.{go}
use Rattle.lut_view.proofs.point_at.Given as goal

abbrev pub invariant-loop-coordinate : goal.invariant-loop-coordinate
invariant-loop-coordinate l = (l.point < 2 ^ 32) × (go l.point (grid_from l.tag l.next l.step (l.n - l.coordinate-index)) (drop l.coordinate-index l.index) ≡ point_at (grid_from l.tag l.initial.next l.step l.n) l.index)
