-- The dimensions and their points, and the test on the tag, case by case, as the code meets them.
-- Assumes nothing.
use Prim.Native.Nat.{ℕ, zero, suc, ◌+◌, ◌-◌, ◌*◌, ◌^◌, ◌≤◌, ◌<◌}
use native.Mathlib.Omega.{arith}
use native.Mathlib.Nat.{mul-zero, mul-le-mul, pow-suc, pow-le-pow_right}
use mathlib.Core.Path.{◌≡◌, refl, sym, ◌∙◌}
use mathlib.Core.Bool.{Bool, true, false, cond}
use mathlib.Core.List.{List, [], ◌∷◌}
use lib.Dec.{ltb}
use lib.ListN.{length, get_or}
use mir.Syntax.{w64}
use mir.Val.{Fits}
use borrow.Author.Tests.{lt-ltb, le-ltb, ltb-true, ltb-false}
use Rattle.fields.specs.Some.{some}
use Rattle.lut_clut_meaning.specs.Clut.{is_flat}
use Rattle.lut_clut_meaning.specs.Table.{product, length_of}
use Rattle.lut_view.proofs.Laws.{next_fits}
use Rattle.lut_view_meaning.specs.View.{grid_from, table_by}
use Rattle.lut_view_meaning.specs.declared.TableNumbers.{TableNumbers}
use Rattle.evaluate_meaning.specs.Evaluate.{odd_numbers, outside}
use Rattle.evaluate_meaning.proofs.Grid.{solid_product, dimensions}
use Rattle.evaluate_meaning.proofs.Odd.{even}
use Rattle.evaluate_plain.specs.Parts.{points_in, Points}

-- ---- the dimensions from a grid byte on

pub grid_none : (t : List ℕ) (at step left : ℕ) → left ≡ 0 → grid_from t at step left ≡ []
unfolding grid_from
grid_none t at step left z = rw z

pub grid_more : (t : List ℕ) (at step left g : ℕ) → (left ≡ 0 → ⊥) → g ≡ get_or t at 0 → grid_from t at step left ≡ g ∷ grid_from t (at + step) step (left - 1)
unfolding grid_from
grid_more t at step zero g z e = absurd (z refl)
grid_more t at step (suc n) g z e = let k : suc n - 1 ≡ n = omega arith in rw (k, e)

-- a grid byte of 2 or more stands in the tag
pub step_fits : (t : List ℕ) (at step g : ℕ) → g ≡ get_or t at 0 → 2 ≤ g → length t * 1 < 2 ^ 63 → step < 256 → Fits w64 (at + step)
step_fits t at step g e u l s = next_fits t at step g 1 e u l s

-- ---- their points

points_cons : (g : ℕ) (gs : List ℕ) → 2 ≤ g → points_in (g ∷ gs) ≡ g * points_in gs
unfolding points_in some product
points_cons g gs l = rw (le-ltb g 2 l) (by_rest (some is_flat gs))
  where
    by_rest : (b : Bool) → cond b 0 (g * product gs) ≡ g * cond b 0 (product gs)
    by_rest true = sym (mul-zero g)
    by_rest false = refl

scaled : (g r n : ℕ) → g < 256 → r ≤ 256 ^ n → g * r ≤ 256 ^ suc n
scaled g r n l m =
    let a : g ≤ 256 = omega arith in
    omega (arith, mul-le-mul a m, pow-suc 256 n)

module _ (t : List ℕ) (at step left : ℕ) where
  pub points_none : left ≡ 0 → Points (grid_from t at step left) left 1
  unfolding points_in some product
  points_none z = record { is = rw (grid_none t at step left z); small = rw z (omega arith) }

  module _ (z : left ≡ 0 → ⊥) (g : ℕ) (e : g ≡ get_or t at 0) where
    pub points_flat : g < 2 → Points (grid_from t at step left) left 0
    unfolding points_in some
    points_flat l = record { is = rw (grid_more t at step left g z e, lt-ltb g 2 l); small = omega arith }

    pub points_more : 2 ≤ g → g < 256 → (r : ℕ) → Points (grid_from t (at + step) step (left - 1)) (left - 1) r → Points (grid_from t at step left) left (g * r)
    points_more l m r p =
        let k : left ≡ suc (left - 1) = omega arith in
        record {
          is = rw (grid_more t at step left g z e, points_cons g (grid_from t (at + step) step (left - 1)) l, ← p.is);
          small = rw k (scaled g r (left - 1) m p.small);
        }

pub points_fits : (gs : List ℕ) (left g r : ℕ) → g < 256 → left ≤ 4 → Points gs (left - 1) r → Fits w64 (g * r)
points_fits gs left g r l m p =
    let a : 256 ^ suc (left - 1) ≤ 256 ^ 5 = pow-le-pow_right {n = 256} (omega arith) {i = suc (left - 1)} {j = 5} (omega arith) in
    record { fits = omega (arith, scaled g r (left - 1) l p.small) }

pub ruleset points-laws = (points_none, points_flat, points_more)

pub few : (n : TableNumbers) (x : Bool) → x ≡ odd_numbers n → x ≡ false → n.inputs ≤ 4
few n x v e = (even n (sym v ∙ e)).few_inputs

-- ---- the test on the tag

module _ (gs : List ℕ) where
  in_flat : points_in gs ≡ 0 → some is_flat gs ≡ true
  unfolding points_in
  in_flat e = by_test (some is_flat gs) refl
    where
      by_test : (f : Bool) → some is_flat gs ≡ f → some is_flat gs ≡ true
      by_test true q = q
      by_test false q = let w : product gs ≡ 0 = rw q at e in absurd (omega (arith, solid_product gs q))

  in_solid : (points_in gs ≡ 0 → ⊥) → some is_flat gs ≡ false
  unfolding points_in
  in_solid z = by_test (some is_flat gs) refl
    where
      by_test : (f : Bool) → some is_flat gs ≡ f → some is_flat gs ≡ false
      by_test false q = q
      by_test true q = absurd (z (rw q))

module _ (t : List ℕ) (n : TableNumbers) (l : n.inputs ≤ 4) (r : ℕ) (p : Points (grid_from t n.grid_at.0 n.grid_step n.inputs) n.inputs r) where
  is_points : r ≡ points_in (table_by t n).grid
  is_points = rw (dimensions t n l) p.is

  pub outside_flat : r ≡ 0 → true ≡ outside t (table_by t n)
  unfolding outside
  outside_flat z = rw (in_flat (table_by t n).grid (sym is_points ∙ z))

  module _ (z : r ≡ 0 → ⊥) where
    solid_grid : some is_flat (table_by t n).grid ≡ false
    solid_grid = in_solid (table_by t n).grid (λ e. z (is_points ∙ e))

    is_product : r ≡ product (table_by t n).grid
    unfolding points_in
    is_product = is_points ∙ rw solid_grid

    pub outside_start : length t < n.start.0 → true ≡ outside t (table_by t n)
    unfolding outside
    outside_start o = let m : length t < n.start.0 + length_of (table_by t n) = omega arith in rw (solid_grid, lt-ltb _ _ m)

    pub outside_long : n.start.0 ≤ length t → ltb (length t - n.start.0) (r * n.outputs * n.entry_size) ≡ outside t (table_by t n)
    unfolding outside
    outside_long o = rw (solid_grid, is_product) (over (length_of (table_by t n)))
      where
        over : (k : ℕ) → ltb (length t - n.start.0) k ≡ ltb (length t) (n.start.0 + k)
        over k = by_test (ltb (length t) (n.start.0 + k)) refl
          where
            by_test : (x : Bool) → ltb (length t) (n.start.0 + k) ≡ x → ltb (length t - n.start.0) k ≡ x
            by_test true q = lt-ltb (length t - n.start.0) k (omega (arith, ltb-true (length t) (n.start.0 + k) q))
            by_test false q = le-ltb (length t - n.start.0) k (omega (arith, ltb-false (length t) (n.start.0 + k) q))

pub ruleset outside-laws = (outside_flat, outside_start, outside_long)

-- 2^32 points of 255 entries of 255 bytes
module _ (gs : List ℕ) (left r outputs size : ℕ) (p : Points gs left r) (a : left ≤ 4) (o : outputs < 256) where
  points_most : r ≤ 2 ^ 32
  points_most = omega (arith, p.small, pow-le-pow_right {n = 256} (omega arith) {i = left} {j = 4} a)

  entries_most : r * outputs ≤ 2 ^ 40
  entries_most = let b : outputs ≤ 256 = omega arith in omega (arith, mul-le-mul points_most b)

  pub entries_fit : Fits w64 (r * outputs)
  entries_fit = record { fits = omega (arith, entries_most) }

  pub bytes_fit : size < 256 → Fits w64 (r * outputs * size)
  bytes_fit s = let b : size ≤ 256 = omega arith in record { fits = omega (arith, mul-le-mul entries_most b) }

pub ruleset outside-fits = (entries_fit, bytes_fit)
