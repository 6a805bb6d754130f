-- The dimensions of a table: as many as its inputs, and where none is below 2 there is a point.
-- Assumes nothing.
use Prim.Native.Nat.{ℕ, zero, suc, ◌+◌, ◌≤◌, min}
use native.Mathlib.Omega.{arith}
use native.Mathlib.Nat.{one-le-mul}
use mathlib.Core.Path.{◌≡◌, refl, ap, ◌∙◌}
use mathlib.Core.Bool.{false}
use mathlib.Core.List.{List, [], ◌∷◌}
use lib.Dec.{ltb}
use lib.ListN.{length}
use borrow.Author.Tests.{ltb-false}
use Rattle.fields.specs.Some.{some}
use Rattle.fields.proofs.Choice.{neither_left, neither_right}
use Rattle.lut_clut_meaning.specs.Clut.{is_flat}
use Rattle.lut_clut_meaning.specs.Table.{product}
use Rattle.lut_view_meaning.specs.View.{grid_from, table_by}
use Rattle.lut_view_meaning.specs.declared.TableNumbers.{TableNumbers}

-- ---- none is below 2

module _ (g : ℕ) (gs : List ℕ) (s : some is_flat (g ∷ gs) ≡ false) where
  pub first_solid : 2 ≤ g
  unfolding some
  first_solid = ltb-false g 2 (neither_left (ltb g 2) (some is_flat gs) s)

  pub others_solid : some is_flat gs ≡ false
  unfolding some
  others_solid = neither_right (ltb g 2) (some is_flat gs) s

pub solid_product : (gs : List ℕ) → some is_flat gs ≡ false → 1 ≤ product gs
unfolding product
solid_product [] s = omega arith
solid_product (g ∷ gs) s =
    let a : 1 ≤ g = omega (arith, first_solid g gs s) in
    one-le-mul a (solid_product gs (others_solid g gs s))

-- ---- how many

length_grid : (t : List ℕ) (at step n : ℕ) → length (grid_from t at step n) ≡ n
unfolding grid_from
length_grid t at step zero = refl
length_grid t at step (suc n) = ap suc (length_grid t (at + step) step n)

module _ (t : List ℕ) (n : TableNumbers) (few : n.inputs ≤ 4) where
  pub dimensions : (table_by t n).grid ≡ grid_from t n.grid_at.0 n.grid_step n.inputs
  dimensions = let e : min n.inputs 16 ≡ n.inputs = omega arith in rw e

  pub as_many : length (table_by t n).grid ≡ n.inputs
  as_many = ap length dimensions ∙ length_grid t n.grid_at.0 n.grid_step n.inputs
