-- What the code knows of an `mAB ` or `mBA ` tag once it has passed a check.
use Rattle.std.specs.Prelude.{◌≡◌, false, ◌&&◌, List, ℕ, ltb}
use Rattle.fields.specs.Checked.{good}
use Rattle.lut_clut_meaning.specs.Table.{length_of}
use Rattle.lut_clut_meaning.specs.declared.ColourTable.{ColourTable}
use Rattle.lut_meaning.specs.Layout.{inputs, outputs}
use Rattle.lut_meaning.specs.Parts.{matrix_checked, table_in, colour_table_of}

-- one side has few channels, and the matrix is good
pub record Opened (t : List ℕ) : Type 0 where
  pub few_channels : ltb 4 (inputs t) && ltb 4 (outputs t) ≡ false
  pub matrix_good : matrix_checked t ≡ good tt

-- so is the colour table, and this is what is answered of it
pub record TableGood (t : List ℕ) (table : ColourTable) : Type 0 where
  pub is_good : colour_table_of t ≡ good (table_in t)
  pub start_is : table.start.0 ≡ (table_in t).start
  pub length_is : table.length ≡ length_of (table_in t)
  pub size_is : table.entry_size ≡ (table_in t).size
