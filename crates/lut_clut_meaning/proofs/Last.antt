-- Why the last grid point has no check of its own: the checks before it keep its entries in the table, with no input channels too, where the one
-- point is number 0. Refusal 18 was that check.
-- Assumes nothing.
use Prim.Native.Nat.{◌*◌, ◌<◌}
use native.Mathlib.Omega.{arith}
use mathlib.Core.Path.{◌≡◌}
use Rattle.fields.specs.Checked.{good}
use Rattle.lut_clut_meaning.specs.Clut.{grid_checked}
use Rattle.lut_clut_meaning.specs.Table.{Table, points_of, entries_of, last_of}
use Rattle.lut_clut_meaning.proofs.Grid.{factors, last_is}
use Rattle.lut_clut_meaning.proofs.Laid.{grid_passed}

-- of the four it is check 5 that is needed: there is an entry
pub last_below : (table : Table) → grid_checked table ≡ good tt → last_of table.grid * table.outputs < entries_of table
last_below table h =
    let f = factors (points_of table) table.outputs (grid_passed table h).one in
    rw (← last_is table.grid f.0) (omega (arith, f.1))
