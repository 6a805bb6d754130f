-- How ICC.1:2022 lays out lut16Type (10.10) and lut8Type (10.11). `t` is the tag's bytes.
--
--    0 to  3  'mft1' (lut8Type) or 'mft2' (lut16Type)
--    4 to  7  reserved, 0
--    8        input channels
--    9        output channels
--   10        grid points of each dimension
--   11        reserved, 0
--   12 to 47  the matrix, nine numbers
--
--   lut8Type                             lut16Type
--   48 on     the tables, 1 byte         48 to 49  entries of the input table for each channel
--             an entry                   50 to 51  entries of the output table for each channel
--                                        52 on     the tables, 2 bytes an entry
--
-- The tables are the input table, the colour table and the output table, one behind the other. In lut8Type the first and the last have
-- 256 entries for each channel.
use Rattle.std.specs.Prelude.{ℕ, ◌+◌, ◌*◌, Bool, cond, ◌||◌, List, eqb, get_or, replicate}
use Rattle.lut_clut_meaning.specs.Table.{Table, length_of}
use Rattle.fields.specs.Bytes.{u16_at, u32_at, words_at}
use Rattle.fields.specs.Tag.{signature_of}
use Rattle.fields.specs.declared.Kind.TheVariants.{Mft1, Mft2}

-- whether it is lut16Type, and whether it is either
unfoldable pub is_wide : List ℕ → Bool
is_wide t = eqb (u32_at t 0) (signature_of Mft2)

unfoldable pub is_mft : List ℕ → Bool
is_mft t = eqb (u32_at t 0) (signature_of Mft1) || is_wide t

-- the shortest tag: the bytes in front of the tables of lut8Type
abbrev pub shortest : ℕ
shortest = 48

abbrev pub inputs : List ℕ → ℕ
inputs t = get_or t 8 0

abbrev pub outputs : List ℕ → ℕ
outputs t = get_or t 9 0

abbrev pub grid_points : List ℕ → ℕ
grid_points t = get_or t 10 0

abbrev pub matrix_of : List ℕ → List ℕ
matrix_of t = words_at t 12 9

-- the bytes of an entry, and where the tables start
unfoldable pub entry_size_of : List ℕ → ℕ
entry_size_of t = cond (is_wide t) 2 1

unfoldable pub tables_start : List ℕ → ℕ
tables_start t = cond (is_wide t) 52 shortest

-- the entries for each channel of the input table and of the output table
unfoldable pub entries_at : List ℕ → ℕ → ℕ
entries_at t at = cond (is_wide t) (u16_at t at) 256

abbrev pub input_entries_of : List ℕ → ℕ
input_entries_of t = entries_at t 48

abbrev pub output_entries_of : List ℕ → ℕ
output_entries_of t = entries_at t 50

-- the three tables; the grid of the colour table has as many points in each dimension
abbrev pub input_length_of : List ℕ → ℕ
input_length_of t = input_entries_of t * inputs t * entry_size_of t

unfoldable pub colour_table : List ℕ → Table
colour_table t =
    record { grid = replicate (inputs t) (grid_points t); outputs = outputs t; start = tables_start t + input_length_of t; size = entry_size_of t }

abbrev pub output_start_of : List ℕ → ℕ
output_start_of t = (colour_table t).start + length_of (colour_table t)

abbrev pub output_length_of : List ℕ → ℕ
output_length_of t = output_entries_of t * outputs t * entry_size_of t

abbrev pub tables_end : List ℕ → ℕ
tables_end t = output_start_of t + output_length_of t
