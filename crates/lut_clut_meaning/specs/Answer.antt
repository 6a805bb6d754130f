-- What the reader of a colour table answers, in numbers.
use Rattle.std.specs.Prelude.{ℕ, Result, Ok, Err}
use Rattle.fields.specs.Checked.{Checked, good, bad}
use Rattle.fields.specs.Refusals.{refusal_number}
use Rattle.lut_clut_meaning.specs.Table.{Table, points_of, length_of}
use Rattle.fields.specs.declared.Refusal.{Refusal}
use Rattle.lut_clut_meaning.specs.declared.ColourTable.{ColourTable}

-- the grid points, where the data start in the tag, their length in bytes and the bytes of an entry; the number of a refusal
pub data Answer : Type 0 where
  value : ℕ → ℕ → ℕ → ℕ → Answer
  refused : ℕ → Answer

-- the numbers that a result stands for
abbrev pub in_numbers : Result ColourTable Refusal → Answer
in_numbers (Ok table) = value table.points table.start.0 table.length table.entry_size
in_numbers (Err why) = refused (refusal_number why)

-- what is answered of a table
unfoldable pub answer_of : Checked Table → Answer
answer_of (good table) = value (points_of table) table.start (length_of table) table.size
answer_of (bad n) = refused n
