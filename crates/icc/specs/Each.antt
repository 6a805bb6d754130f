-- A condition on each of a list.
use Rattle.std.specs.Prelude.{List, [], ◌∷◌}

unfoldable pub Each : {A : Type 0} → (A → Type 0) → List A → Type 0
Each P [] = Unit
Each P (x ∷ xs) = P x × Each P xs
