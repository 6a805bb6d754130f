-- What the code finds on the way to an entry: the point that an index names.
use Rattle.std.specs.Prelude.{ℕ, ◌^◌, cond, ◌&&◌, List, ltb, Option, Some, None}
use Rattle.lut_clut_meaning.specs.Table.{in_grid, point_of}

-- the point that an index names
unfoldable pub point_at : List ℕ → List ℕ → Option ℕ
point_at grid index =
    cond (in_grid grid index && ltb (point_of grid index) (2 ^ 32)) (Some (point_of grid index)) None
