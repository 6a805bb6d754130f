-- The bytes of a table on the way.
use Rattle.std.specs.Prelude.{ℕ, ◌^◌, ◌<◌, ◌≡◌}

-- r is that number of bytes, and sums of a few of them fit 64 bits
pub record Sized (n r : ℕ) : Type 0 where
  pub is : r ≡ n
  pub low : r < 2 ^ 48
