-- The cell of a coordinate lies in its dimension, and so does the next one where a rest is left.
-- Assumes nothing.
use Prim.Native.Nat.{ℕ, ◌+◌, ◌-◌, ◌*◌, ◌≤◌, ◌<◌}
use native.Mathlib.Omega.{arith}
use native.Mathlib.Nat.{mul-le-mul_right}
use mathlib.Core.Path.{◌≡◌}
use Rattle.evaluate_meaning.specs.Colour.{cell_of, rest_of}

module _ (g x : ℕ) (low : x < 65536) where
  pub position_most : x * (g - 1) ≤ 65535 * (g - 1)
  position_most = mul-le-mul_right (g - 1) (omega arith)

  module _ (some : 1 ≤ g) where
    pub cell_in : cell_of g x < g
    unfolding cell_of
    cell_in = omega (arith, position_most)

    -- where the rest is not 0 there is an upper neighbour
    pub cell_next : (rest_of g x ≡ 0 → ⊥) → cell_of g x + 1 < g
    unfolding cell_of rest_of
    cell_next n = omega (arith, position_most)
