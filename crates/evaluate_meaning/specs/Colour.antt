-- The colour of a table at coordinates of 0 to 65535, in integers. In a dimension of g points the position of a coordinate x is x * (g - 1),
-- in 65535ths of the way from point to point.
use Rattle.std.specs.Prelude.{ℕ, zero, suc, ◌+◌, ◌-◌, ◌*◌, ◌/◌, ◌%◌, cond, List, [], ◌∷◌, eqb}
use Rattle.lut_clut_meaning.specs.Table.{Table, entry_number}
use Rattle.lut_view_meaning.specs.View.{stored_at}

-- the point at the position or below it, and the rest of the way
unfoldable pub cell_of : ℕ → ℕ → ℕ
cell_of g x = x * (g - 1) / 65535

unfoldable pub rest_of : ℕ → ℕ → ℕ
rest_of g x = x * (g - 1) % 65535

-- two neighbours and a rest, rounded to the nearest
unfoldable pub blend : ℕ → ℕ → ℕ → ℕ
blend low high rest = (low * (65535 - rest) + high * rest + 32767) / 65535

-- with rest 0 only the lower one is used
unfoldable pub between : ℕ → ℕ → ℕ → ℕ
between low high rest = cond (eqb rest 0) low (blend low high rest)

-- a table, told by what stands at each index of a grid. Of n dimensions it is the blend of two tables of n - 1, the first coordinate outermost
unfoldable pub colour_of : (List ℕ → ℕ) → List ℕ → List ℕ → ℕ
colour_of table [] xs = table []
colour_of table (g ∷ gs) [] = 0
colour_of table (g ∷ gs) (x ∷ xs) =
    between (colour_of (λ i. table (cell_of g x ∷ i)) gs xs)
    (colour_of (λ i. table ((cell_of g x + 1) ∷ i)) gs xs) (rest_of g x)

-- the entry at a place of the tag, one of one byte widened by 257
unfoldable pub sample_at : List ℕ → ℕ → ℕ → ℕ
sample_at t at size = cond (eqb size 1) (stored_at t at size * 257) (stored_at t at size)

-- what stands at an index of a colour table, for a channel: the entry by its number
unfoldable pub corner_of : List ℕ → Table → ℕ → List ℕ → ℕ
corner_of t table channel index = sample_at t (table.start + entry_number table index channel * table.size) table.size

-- the results of n channels from one on
unfoldable pub colours_from : List ℕ → Table → List ℕ → ℕ → ℕ → List ℕ
colours_from t table xs channel zero = []
colours_from t table xs channel (suc n) = colour_of (corner_of t table channel) table.grid xs ∷ colours_from t table xs (channel + 1) n

-- the colour of a pixel: a result for each output channel
abbrev pub colour : List ℕ → Table → List ℕ → List ℕ
colour t table xs = colours_from t table xs 0 table.outputs
