-- The corners that a colour is made of, and the least and the greatest of some values.
use Rattle.std.specs.Prelude.{ℕ, ◌+◌, min, max, ◌≡◌, cond, List, [], ◌∷◌, ◌++◌, map, eqb}
use Rattle.evaluate_meaning.specs.Colour.{cell_of, rest_of}

-- the grid indices used: the lower neighbour in each dimension, and the upper one where the rest is not 0
unfoldable pub corners_of : List ℕ → List ℕ → List (List ℕ)
corners_of [] xs = [] ∷ []
corners_of (g ∷ gs) [] = []
corners_of (g ∷ gs) (x ∷ xs) =
    map (◌∷◌ (cell_of g x)) (corners_of gs xs)
    ++ cond (eqb (rest_of g x) 0) [] (map (◌∷◌ (cell_of g x + 1)) (corners_of gs xs))

unfoldable pub least : List ℕ → ℕ
least [] = 0
least (x ∷ []) = x
least (x ∷ (y ∷ l)) = min x (least (y ∷ l))

unfoldable pub greatest : List ℕ → ℕ
greatest [] = 0
greatest (x ∷ l) = max x (greatest l)

-- each coordinate is that of a point of the grid, and the index is of these points
unfoldable pub OnGrid : List ℕ → List ℕ → List ℕ → Type 0
OnGrid [] xs index = index ≡ []
OnGrid (g ∷ gs) (x ∷ xs) (c ∷ index) = (rest_of g x ≡ 0) × (cell_of g x ≡ c) × OnGrid gs xs index
OnGrid (g ∷ gs) [] index = ⊥
OnGrid (g ∷ gs) (x ∷ xs) [] = ⊥
