-- A test that some element of a list passes.
use Rattle.std.specs.Prelude.{ℕ, Bool, false, ◌||◌, List, [], ◌∷◌}

unfoldable pub some : (ℕ → Bool) → List ℕ → Bool
some f [] = false
some f (x ∷ xs) = f x || some f xs
