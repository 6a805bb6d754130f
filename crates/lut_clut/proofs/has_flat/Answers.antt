-- `lut_clut::has_flat` meets its contract: std's `any` is `some`.
-- Assumes nothing.
use Rattle.std.proofs.lemmas.Iterator.Search.{any_from_yields_List}
use Rattle.std.proofs.lemmas.Iterator.{YieldsList-from_slice}
use mathlib.Core.Path.{◌≡◌, refl, ◌∙◌}
use mathlib.Core.List.{List, [], ◌∷◌}
use Prim.Native.Nat.{ℕ}
use mathlib.Core.Bool.{Bool}
use borrow.Author.Rules.{rules}
use borrow.Author.Tests.{tests}
use Rattle.std.specs.List.{list_any}
use Rattle.fields.specs.Some.{some}
use Rattle.lut_clut_meaning.specs.Clut.{is_flat}
use Rattle.lut_clut.proofs.has_flat.Goals as goal

any_is_some : (f : ℕ → Bool) (xs : List ℕ) → list_any f xs ≡ some f xs
unfolding some
any_is_some f [] = refl
any_is_some f (x ∷ xs) = rw (any_is_some f xs)

pub returns : goal.returns
returns c =
    any_from_yields_List is_flat _ _ _ c.any.ensures.ran (YieldsList-from_slice c.args.grid.now cc) (λ x b q k. search (rules, tests)) ∙ any_is_some is_flat c.args.grid.now
