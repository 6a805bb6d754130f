-- Demand 1 of the colour table: an accepted table's data lie inside its tag, and at each valid grid index the entry lies inside the data.
-- Assumes nothing.
use Prim.Native.Nat.{ℕ, ◌+◌, ◌*◌, ◌≤◌, ◌<◌}
use mathlib.Core.Path.{◌≡◌}
use mathlib.Core.Bool.{true}
use mathlib.Core.List.{List}
use lib.ListN.{length, get_or}
use Rattle.fields.specs.Checked.{good}
use Rattle.lut_clut_meaning.specs.Clut.{most_entries, clut_of}
use Rattle.lut_clut_meaning.specs.Table.{Table, entries_of, length_of, in_grid, entry_number}
use Rattle.lut_clut_meaning.proofs.Laid.{accepted}
use Rattle.lut_clut_meaning.proofs.Grid.{entry_below}

pub record Inside (t : List ℕ) (table : Table) : Type 0 where
  pub data_in_tag : table.start + length_of table ≤ length t
  pub wide : (i : ℕ) → i < length table.grid → 2 ≤ get_or table.grid i 0
  pub size_least : 1 ≤ table.size
  pub size_most : table.size ≤ 2
  pub few : entries_of table ≤ most_entries
  pub entry_in_data : (index : List ℕ) (channel : ℕ) → in_grid table.grid index ≡ true → channel < table.outputs → entry_number table index channel * table.size + table.size ≤ length_of table

pub inside : (t : List ℕ) (at inputs outputs : ℕ) (table : Table) → clut_of t at inputs outputs ≡ good table → Inside t table
inside t at inputs outputs table h =
    let a = accepted t at inputs outputs table h in
    record {
      data_in_tag = a.laid.whole;
      wide = a.within.wide;
      size_least = a.laid.size_least;
      size_most = a.laid.size_most;
      few = a.within.few;
      entry_in_data = entry_below table;
    }
