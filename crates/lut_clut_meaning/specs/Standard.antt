-- A CLUT as the standard writes it (crate `icc`), what this library asks of one besides, and what it answers.
use Rattle.std.specs.Prelude.{ℕ, ◌+◌, ◌≤◌, ◌<◌, ◌≡◌, List, length, get_or}
use Rattle.icc.specs.Elements.{Stands, Clut, precision, numbers, EntriesFit, clut_element, ClutSized}
use Rattle.lut_clut_meaning.specs.Table.{Table}

-- two points or more in each dimension, an entry, and no more than ten million; numbers of their bits
pub record Taken (c : Clut) : Type 0 where
  pub fits : EntriesFit c.entries
  pub wide : (i : ℕ) → i < length c.grid → 2 ≤ get_or c.grid i 0
  pub one : 1 ≤ length (numbers c.entries)
  pub few : length (numbers c.entries) ≤ 10000000

-- what is answered of a CLUT at an offset: the entries start behind its first 20 bytes
abbrev pub table_told : ℕ → ℕ → Clut → Table
table_told offset outputs c = record { grid = c.grid; outputs = outputs; start = offset + 20; size = precision c.entries }

-- the tag has a CLUT at the offset that is answered by the table
pub record Standing (t : List ℕ) (offset inputs outputs : ℕ) (table : Table) : Type 0 where
  pub clut : Clut
  pub stands : Stands t offset (clut_element clut)
  pub sized : ClutSized inputs outputs clut
  pub taken : Taken clut
  pub told_is : table ≡ table_told offset outputs clut
