-- A colour table: a grid with an entry for each output channel at each of its points, apart from where the grid's numbers are read.
use Rattle.std.specs.Prelude.{ℕ, pred, ◌+◌, ◌*◌, Bool, true, false, ◌&&◌, List, [], ◌∷◌, map, ltb}

-- the points of each dimension, the output channels, where the data start in the tag, and the bytes of an entry
pub record Table : Type 0 where
  pub grid : List ℕ
  pub outputs : ℕ
  pub start : ℕ
  pub size : ℕ

-- the product of a list, 1 for none
unfoldable pub product : List ℕ → ℕ
product [] = 1
product (x ∷ xs) = x * product xs

-- how many points and entries a table has, and how many bytes its data are
abbrev pub points_of : Table → ℕ
points_of table = product table.grid

abbrev pub entries_of : Table → ℕ
entries_of table = points_of table * table.outputs

abbrev pub length_of : Table → ℕ
length_of table = entries_of table * table.size

-- an index has one coordinate for each dimension, each below its points
unfoldable pub in_grid : List ℕ → List ℕ → Bool
in_grid [] [] = true
in_grid [] (x ∷ xs) = false
in_grid (g ∷ gs) [] = false
in_grid (g ∷ gs) (x ∷ xs) = ltb x g && in_grid gs xs

-- the number of a grid point, from 0: the first coordinate varies slowest
unfoldable pub point_of : List ℕ → List ℕ → ℕ
point_of [] xs = 0
point_of (g ∷ gs) [] = 0
point_of (g ∷ gs) (x ∷ xs) = x * product gs + point_of gs xs

-- the last grid point's number
abbrev pub last_of : List ℕ → ℕ
last_of grid = point_of grid (map pred grid)

-- the number of the entry of an index and a channel, from 0
abbrev pub entry_number : Table → List ℕ → ℕ → ℕ
entry_number table index channel = point_of table.grid index * table.outputs + channel
