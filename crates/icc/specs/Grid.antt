-- The points of a grid, in lut16Type, lut8Type and the CLUT element: how many there are, and in which order their colours are written.
use Rattle.std.specs.Prelude.{ℕ, zero, suc, ◌*◌, ◌<◌, ◌≡◌, List, [], ◌∷◌, ◌++◌, length}

-- the product of the points of each dimension
unfoldable pub points : List ℕ → ℕ
points [] = 1
points (g ∷ gs) = g * points gs

-- a point: a coordinate for each dimension, counted from 0
unfoldable pub InGrid : (grid point : List ℕ) → Type 0
InGrid [] [] = Unit
InGrid [] (x ∷ xs) = ⊥
InGrid (g ∷ gs) [] = ⊥
InGrid (g ∷ gs) (x ∷ xs) = (x < g) × InGrid gs xs

-- what stands at 0, 1 and so on below n, one behind the other
unfoldable pub along : (n : ℕ) → (ℕ → List ℕ) → List ℕ
along zero at = []
along (suc n) at = at 0 ++ along n (λ x. at (suc x))

-- the colours of the points one behind the other: the first dimension varies least rapidly, the last most rapidly
unfoldable pub in_order_of : (grid : List ℕ) → (colour : List ℕ → List ℕ) → List ℕ
in_order_of [] colour = colour []
in_order_of (g ∷ gs) colour = along g (λ x. in_order_of gs (λ xs. colour (x ∷ xs)))

-- numbers that are the colours of a grid: at each point one for each output channel
pub record Coloured (grid : List ℕ) (outputs : ℕ) (numbers : List ℕ) (colour : List ℕ → List ℕ) : Type 0 where
  pub each_output : (point : List ℕ) → InGrid grid point → length (colour point) ≡ outputs
  pub written : numbers ≡ in_order_of grid colour
