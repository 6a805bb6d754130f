-- The colour table of `mAB ` and `mBA `: what each call must answer. ICC.1:2022 lays it out in lutAToBType (10.12) and lutBToAType
-- (10.13); from its first byte, `at` of the tag t, it has
--
--    0 to 15  the grid points of each dimension, a byte each
--   16        the bytes of an entry, 1 or 2
--   17 to 19  reserved, 0
--   20 on     the entries
use Rattle.std.specs.Prelude.{ℕ, ◌+◌, ◌*◌, ◌^◌, min, Bool, cond, ◌||◌, List, [], ◌∷◌, ◌++◌, ltb, leb, eqb, length, get_or, take, drop}
use Rattle.fields.specs.Checked.{Checked, good, bad, and_then}
use Rattle.fields.specs.Some.{some}
use Rattle.lut_clut_meaning.specs.Table.{Table, entries_of, length_of}

-- the grid in use: of the sixteen bytes, one for each input channel
abbrev pub grid_at_of : List ℕ → ℕ → ℕ → List ℕ
grid_at_of t at inputs = take (min inputs 16) (drop at t)

-- the table there, on a grid
abbrev pub table_at : List ℕ → ℕ → List ℕ → ℕ → Table
table_at t at grid outputs = record { grid = grid; outputs = outputs; start = at + 20; size = get_or t (at + 16) 0 }

-- the partial products: p, p times the first, and so on
unfoldable pub partials : ℕ → List ℕ → List ℕ
partials p [] = p ∷ []
partials p (x ∷ xs) = p ∷ partials (p * x) xs

-- past 32 bits
abbrev pub is_over : ℕ → Bool
is_over p = leb (2 ^ 32) p

-- a partial product over the grid, in order, then the output channels, passes 32 bits
abbrev pub overflows : List ℕ → ℕ → Bool
overflows grid outputs = some is_over (partials 1 (grid ++ (outputs ∷ [])))

-- a dimension below 2
abbrev pub is_flat : ℕ → Bool
is_flat g = ltb g 2

-- the entries that a table may have
abbrev pub most_entries : ℕ
most_entries = 10000000

-- checks 4 to 7: the product of the grid and the output channels, then the dimensions
unfoldable pub grid_checked : Table → Checked Unit
grid_checked table =
    cond (overflows table.grid table.outputs) (bad 4) (
    cond (eqb (entries_of table) 0) (bad 5) (
    cond (ltb most_entries (entries_of table)) (bad 6) (
    cond (some is_flat table.grid) (bad 7) (
    good tt))))

-- the bytes of an entry and the data, then the table
unfoldable pub data_of : List ℕ → Table → Checked Table
data_of t table =
    cond (ltb table.size 1 || ltb 2 table.size) (bad 8) (
    cond (ltb (length t) (table.start + length_of table)) (bad 2) (
    good table))

-- the colour table at `at` of a tag with so many input and output channels
unfoldable pub clut_of : List ℕ → ℕ → ℕ → ℕ → Checked Table
clut_of t at inputs outputs =
    let table = table_at t at (grid_at_of t at inputs) outputs in
    cond (ltb (length t) table.start) (bad 2) (
    and_then (grid_checked table) (
    data_of t table))
