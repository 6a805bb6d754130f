-- What the parts of the evaluator promise and ask for: the points of some dimensions, and the colour behind a grid point.
use Rattle.std.specs.Prelude.{ℕ, ◌+◌, ◌*◌, ◌^◌, ◌≤◌, ◌<◌, ◌≡◌, false, cond, List, length}
use Rattle.fields.specs.Some.{some}
use Rattle.lut_clut_meaning.specs.Clut.{is_flat}
use Rattle.lut_clut_meaning.specs.Table.{product, point_of}
use Rattle.lut_view_meaning.specs.View.{grid_from}
use Rattle.lut_view_meaning.specs.declared.TableNumbers.{TableNumbers}
use Rattle.evaluate_meaning.specs.Colour.{cell_of, rest_of, colour_of, sample_at}

-- the points of dimensions, and 0 where one is below 2
unfoldable pub points_in : List ℕ → ℕ
points_in gs = cond (some is_flat gs) 0 (product gs)

pub record Points (gs : List ℕ) (n r : ℕ) : Type 0 where
  pub is : r ≡ points_in gs
  pub small : r ≤ 256 ^ n

-- a coordinate x lies in a dimension of g points at this point and so much behind it
pub record Placed (g x lower rest : ℕ) : Type 0 where
  pub at_point : lower ≡ cell_of g x
  pub behind_it : rest ≡ rest_of g x
  pub below : lower < g
  pub next_below : (rest ≡ 0 → ⊥) → lower + 1 < g

-- the entry of a number, one of one byte widened
abbrev pub sample_of : List ℕ → TableNumbers → ℕ → ℕ
sample_of t n number = sample_at t (n.start.0 + number * n.entry_size) n.entry_size

-- entries have one byte or two, and that of a number lies in the tag
pub record InTable (t : List ℕ) (n : TableNumbers) (number : ℕ) : Type 0 where
  pub least : 1 ≤ n.entry_size
  pub most : n.entry_size ≤ 2
  pub inside : n.start.0 + (number * n.entry_size + n.entry_size) ≤ length t

-- the dimensions from a grid byte on, one for each coordinate
abbrev pub grid_for : List ℕ → TableNumbers → ℕ → List ℕ → List ℕ
grid_for t n at xs = grid_from t at n.grid_step (length xs)

-- the table of the dimensions gs behind point p of those before them, and its colour
unfoldable pub behind : List ℕ → TableNumbers → List ℕ → ℕ → ℕ → List ℕ → ℕ
behind t n gs p channel index = sample_of t n ((p * product gs + point_of gs index) * n.outputs + channel)

unfoldable pub value_of : List ℕ → TableNumbers → List ℕ → List ℕ → ℕ → ℕ → ℕ
value_of t n gs xs p channel = colour_of (behind t n gs p channel) gs xs

-- all entries behind point p lie in the tag
pub record Room (t : List ℕ) (n : TableNumbers) (at : ℕ) (xs : List ℕ) (p channel : ℕ) : Type 0 where
  pub least : 1 ≤ n.entry_size
  pub most : n.entry_size ≤ 2
  pub solid : some is_flat (grid_for t n at xs) ≡ false
  pub inside : n.start.0 + (p + 1) * product (grid_for t n at xs) * n.outputs * n.entry_size ≤ length t
  pub low : channel < n.outputs
