-- A view of a colour table: what each call must answer. A view keeps the tag and the numbers of its table (`TableNumbers`): where the
-- entries start, the bytes of one, the channels, and where in the tag the grid bytes stand. `numbers_of` gives the numbers of an answer,
-- `table_by` the table that numbers tell of in a tag, and `grid_from` its grid. The grid bytes stand so:
--
--   mft1, mft2   byte 10 is the grid points of every dimension, so each next grid byte is the same one
--   mAB , mBA    16 grid bytes, one a dimension, the bytes of an entry and 3 reserved, then the entries
use Rattle.std.specs.Prelude.{ℕ, zero, suc, ◌+◌, ◌*◌, ◌-◌, ◌^◌, min, cond, ◌&&◌, ◌||◌, List, [], ◌∷◌, ltb, eqb, length, get_or}
use Rattle.fields.specs.Bytes.{u16_at}
use Rattle.lut_clut_meaning.specs.Table.{Table, in_grid, point_of, entry_number}
use Rattle.lut_meaning.specs.Answer.{State, mft, abm, absent as State·absent, refused}
use Rattle.lut_view_meaning.specs.Answer.{Answer, value, absent}
use Rattle.lut_view_meaning.specs.declared.TableNumbers.{TableNumbers}

-- where the one grid byte of `mft1` and `mft2` stands, and the step from it to the next
abbrev pub mft_grid : ℕ
mft_grid = 10

abbrev pub mft_step : ℕ
mft_step = 0

-- how far before the entries those of `mAB ` and `mBA ` stand, and their step
abbrev pub clut_head : ℕ
clut_head = 20

abbrev pub clut_step : ℕ
clut_step = 1

-- n grid bytes from a place on, each a step behind the one before it
unfoldable pub grid_from : List ℕ → ℕ → ℕ → ℕ → List ℕ
grid_from t at step zero = []
grid_from t at step (suc n) = get_or t at 0 ∷ grid_from t (at + step) step n

-- the colour table that numbers tell of, in a tag t
abbrev pub table_by : List ℕ → TableNumbers → Table
table_by t n =
    record {
      grid = grid_from t n.grid_at.0 n.grid_step (min n.inputs 16);
      outputs = n.outputs;
      start = n.start.0;
      size = n.entry_size;
    }

-- the numbers of no colour table: an entry has no bytes
abbrev pub no_numbers : TableNumbers
no_numbers = record { start = record { 0 = 0 }; entry_size = 0; inputs = 0; outputs = 0; grid_at = record { 0 = 0 }; grid_step = 0 }

-- the numbers of an answer
abbrev pub numbers_of : State → TableNumbers
numbers_of (mft f) =
    record {
      start = record { 0 = f.clut_start_of };
      entry_size = f.size;
      inputs = f.inputs;
      outputs = f.outputs;
      grid_at = record { 0 = mft_grid };
      grid_step = mft_step;
    }
numbers_of (abm f) =
    record {
      start = record { 0 = f.start };
      entry_size = f.size;
      inputs = f.inputs;
      outputs = f.outputs;
      grid_at = record { 0 = f.start - clut_head };
      grid_step = clut_step;
    }
numbers_of State·absent = no_numbers
numbers_of (refused n) = no_numbers

-- the number stored at a place, in one byte, or in two with the high one first
abbrev pub stored_at : List ℕ → ℕ → ℕ → ℕ
stored_at t at size = cond (eqb size 1) (get_or t at 0) (u16_at t at)

-- an entry by its number, of those from start on: absent unless it has one byte or two and lies in the tag
unfoldable pub entry_from : List ℕ → ℕ → ℕ → ℕ → Answer
entry_from t start size number =
    cond (ltb size 1 || ltb 2 size) absent (
    cond (ltb (length t) (start + (number * size + size))) absent (
    value (stored_at t (start + number * size) size)))

-- the entry of an index in the grid and a channel below the outputs; a point's number is asked to fit 32 bits
unfoldable pub entry_of : List ℕ → Table → List ℕ → ℕ → Answer
entry_of t table index channel =
    cond (in_grid table.grid index && ltb (point_of table.grid index) (2 ^ 32) && ltb channel table.outputs)
    (entry_from t table.start table.size (entry_number table index channel)) absent
