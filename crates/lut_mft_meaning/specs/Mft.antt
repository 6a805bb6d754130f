-- `mft1` and `mft2`: what each call must answer.
use Rattle.std.specs.Prelude.{ℕ, Bool, cond, not, ◌||◌, List, ltb, eqb, length}
use Rattle.lut_clut_meaning.specs.Table.{points_of}
use Rattle.lut_mft_meaning.specs.Answer.{State, value, refused, fields_of}
use Rattle.lut_mft_meaning.specs.Layout.{is_mft, shortest, inputs, outputs, grid_points, input_entries_of, output_entries_of, tables_start, colour_table, tables_end}

unfoldable pub outside : ℕ → ℕ → ℕ → Bool
outside low x high = ltb x low || ltb high x

-- 2 to 4,096 entries in either table, for each channel
abbrev pub most_table_entries : ℕ
most_table_entries = 4096

unfoldable pub bad_entries : List ℕ → Bool
bad_entries t = outside 2 (input_entries_of t) most_table_entries || outside 2 (output_entries_of t) most_table_entries

-- 1 to 4 channels on each side, and 3 on one of them
unfoldable pub bad_channels : List ℕ → Bool
bad_channels t = outside 1 (inputs t) 4 || outside 1 (outputs t) 4 || not (eqb (inputs t) 3 || eqb (outputs t) 3)

-- and two points in each dimension
unfoldable pub bad_numbers : List ℕ → Bool
bad_numbers t = bad_entries t || bad_channels t || ltb (grid_points t) 2

-- the tables follow each other, so all three lie in the tag if the last does
unfoldable pub tables_of : List ℕ → State
tables_of t = cond (ltb (length t) (tables_end t)) (refused 2) (value (fields_of t))

-- the numbers, then the grid points against the limit: output channels do not count
unfoldable pub numbers_of : ℕ → List ℕ → State
numbers_of limit t =
    cond (bad_numbers t) (refused 15) (
    cond (ltb limit (points_of (colour_table t))) (refused 16) (
    tables_of t))

-- the bytes t of a tag
unfoldable pub mft_of : ℕ → List ℕ → State
mft_of limit t =
    cond (ltb (length t) shortest) (refused 2) (
    cond (not (is_mft t)) (refused 3) (
    cond (ltb (length t) (tables_start t)) (refused 2) (
    numbers_of limit t)))
